-- What plain formulas are made of.
use Rattle.std.proofs.Common.{◌≡◌, ℕ, zero, suc, List, [], ◌∷◌, Option, None, Some, refl, subst}
use Rattle.inc_value.specs.Choice.{and_then}
use Rattle.formula_elab.specs.Today.{IsLaidOut, AreLaidOut}
use Rattle.script_model.proofs.Leaves.{leaves_within}
use Rattle.script_model.specs.Formula.{State, Body, Formula, Formulas, body_at, formula_of_body, Literal, Name, Bound, Apply, Fold, If, Join, Bind, At, Steps, Now, End, More, Variable, Computed, Freeze, After, Every, Expert, Grab}
use Rattle.script_model.specs.Leaves.{EveryLeaf}
use Rattle.script_model.specs.Need.{Edge, Argument, Test, Then, Else, Child, Left, Inside, argument_at, part_at, part_of, formula_at}
use Rattle.script_graph.specs.Today.{IsPlainBody, IsEarlierTarget, IsDeclaredTarget, AllPlain}

-- ---- parts

-- how many binds are round what stands at the edge
abbrev pub binds_at : Edge → ℕ → ℕ
binds_at (Inside v) binds = suc binds
binds_at edge binds = binds

-- how many binds the path leads into
abbrev pub binds_round : List Edge → ℕ
binds_round [] = 0
binds_round (edge ∷ path) = binds_at edge (binds_round path)

module _ (binds : ℕ) where
  laid_argument : (fs : Formulas) → AreLaidOut binds fs → (k : ℕ) (g : Formula) → argument_at fs k ≡ Some g → IsLaidOut binds g
  laid_argument End all k g e = absurd (cc)
  laid_argument (More f rest) all zero g e = let same : f ≡ g = cc in subst (IsLaidOut binds) same all.0
  laid_argument (More f rest) all (suc k) g e = laid_argument rest all.1 k g e

  laid_part : (f : Formula) → IsLaidOut binds f → (edge : Edge) (g : Formula) → part_at f edge ≡ Some g → IsLaidOut (binds_at edge binds) g
  laid_part (Apply h arguments) is_laid (Argument k) g e = laid_argument arguments is_laid k g e
  laid_part (Apply h arguments) is_laid edge g e = absurd (cc)
  laid_part (Fold h first elements) is_laid (Argument k) g e = laid_argument elements is_laid k g e
  laid_part (Fold h first elements) is_laid edge g e = absurd (cc)
  laid_part (If test a b) is_laid Test g e = let same : test ≡ g = cc in subst (IsLaidOut binds) same is_laid.0
  laid_part (If test a b) is_laid Then g e = let same : a ≡ g = cc in subst (IsLaidOut binds) same is_laid.1
  laid_part (If test a b) is_laid Else g e = let same : b ≡ g = cc in subst (IsLaidOut binds) same is_laid.2
  laid_part (If test a b) is_laid edge g e = absurd (cc)
  laid_part (Join child) is_laid Child g e = let same : child ≡ g = cc in subst (IsLaidOut binds) same is_laid
  laid_part (Join child) is_laid edge g e = absurd (cc)
  laid_part (Bind left body) is_laid Left g e = let same : left ≡ g = cc in subst (IsLaidOut binds) same is_laid.0
  laid_part (Bind left body) is_laid (Inside v) g e = let same : body ≡ g = cc in subst (IsLaidOut (suc binds)) same is_laid.1
  laid_part (Bind left body) is_laid edge g e = absurd (cc)
  laid_part (Literal v) is_laid edge g e = absurd (cc)
  laid_part (Name n) is_laid edge g e = absurd (cc)
  laid_part (Bound k) is_laid edge g e = absurd (cc)
  laid_part (At time) is_laid edge g e = absurd (cc)
  laid_part (Steps v steps) is_laid edge g e = absurd (cc)
  laid_part Now is_laid edge g e = absurd (cc)

pub laid_within : (f : Formula) → IsLaidOut 0 f → (path : List Edge) (g : Formula) → part_of f path ≡ Some g → IsLaidOut (binds_round path) g
laid_within f is_laid [] g e = let same : f ≡ g = cc in subst (IsLaidOut 0) same is_laid
laid_within f is_laid (edge ∷ path) g e = above (part_of f path) (laid_within f is_laid path) e
  where
    above : (x : Option Formula) → ((h : Formula) → x ≡ Some h → IsLaidOut (binds_round path) h) → and_then x (λ h. part_at h edge) ≡ Some g
        → IsLaidOut (binds_at edge (binds_round path)) g
    above None within e = absurd (cc)
    above (Some h) within e = laid_part (binds_round path) h (within h refl) edge g e

-- what stands at a place of a plain state is plain
pub plain_place : (s : State) → AllPlain s → (owner : ℕ) (path : List Edge) (f : Formula) → formula_at s owner path ≡ Some f
    → IsLaidOut (binds_round path) f × EveryLeaf (IsEarlierTarget s owner) (IsDeclaredTarget s) f
plain_place s plain owner path f e = by_body (body_at s owner) (λ b is. plain owner b is) e
  where
    by_body : (x : Option Body) → ((b : Body) → x ≡ Some b → IsPlainBody (IsEarlierTarget s owner) (IsDeclaredTarget s) b)
        → and_then x (λ body. and_then (formula_of_body body) (λ g. part_of g path)) ≡ Some f
        → IsLaidOut (binds_round path) f × EveryLeaf (IsEarlierTarget s owner) (IsDeclaredTarget s) f
    by_body None fine e = absurd (cc)
    by_body (Some (Computed g kept)) fine e =
        let is_plain = fine (Computed g kept) refl in
        (laid_within g is_plain.0 path f e, leaves_within (IsEarlierTarget s owner) (IsDeclaredTarget s) g is_plain.1 path f e)
    by_body (Some (Variable v)) fine e = absurd (cc)
    by_body (Some (Grab bind v is_live)) fine e = absurd (cc)
    by_body (Some (After time)) fine e = absurd (cc)
    by_body (Some (Every base span)) fine e = absurd (cc)
    by_body (Some (Freeze child predicate frozen)) fine e =
        let is_plain = fine (Freeze child predicate frozen) refl in
        (laid_within child is_plain.0 path f e, leaves_within (IsEarlierTarget s owner) (IsDeclaredTarget s) child is_plain.1.0 path f e)
    by_body (Some (Expert g first links stale)) fine e = absurd (cc)
