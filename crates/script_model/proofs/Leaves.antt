-- Leaves with other properties, and those of a formula's parts.
use Rattle.std.proofs.Common.{◌≡◌, ℕ, zero, suc, List, [], ◌∷◌, Option, None, Some, refl, subst}
use Rattle.inc_value.specs.Choice.{Every as Each, and_then}
use Rattle.script_model.specs.Formula.{Formula, Formulas, TimedValue, Body, Literal, Name, Bound, Apply, Fold, If, Join, Bind, At, Steps, Now, End, More, Variable, Computed, Freeze, After, Every, Expert, Grab}
use Rattle.script_model.specs.Leaves.{EveryReference, EveryLeaf, EveryLeafOfAll, EveryLeafOf}
use Rattle.script_model.specs.Need.{Edge, Argument, Test, Then, Else, Child, Left, Inside, argument_at, part_at, part_of}
use Rattle.script_model.specs.Values.{Value, Reference}

-- ---- leaves that have some properties have those that follow

module _ (R S : ℕ → Type 0) (refers : (n : ℕ) → R n → S n) where
  pub reference_more : (v : Value) → EveryReference R v → EveryReference S v
  reference_more (Reference target base) fine = refers target fine
  reference_more v fine = tt

  references_more : (steps : List TimedValue) → Each (λ (step : TimedValue). EveryReference R step.value) steps
      → Each (λ (step : TimedValue). EveryReference S step.value) steps
  references_more [] fine = tt
  references_more (step ∷ steps) fine = (reference_more step.value fine.0, references_more steps fine.1)

module _ (P Q R S : ℕ → Type 0) (more : (n : ℕ) → P n → Q n) (refers : (n : ℕ) → R n → S n) where
  mutual
    pub leaves_more : (f : Formula) → EveryLeaf P R f → EveryLeaf Q S f
    leaves_more (Literal v) fine = reference_more R S refers v fine
    leaves_more (Name n) fine = more n fine
    leaves_more (Bound k) fine = tt
    leaves_more (Apply f arguments) fine = leaves_more_of_all arguments fine
    leaves_more (Fold f first elements) fine = (reference_more R S refers first fine.0, leaves_more_of_all elements fine.1)
    leaves_more (If test a b) fine = (leaves_more test fine.0, leaves_more a fine.1, leaves_more b fine.2)
    leaves_more (Join child) fine = leaves_more child fine
    leaves_more (Bind left body) fine = (leaves_more left fine.0, leaves_more body fine.1)
    leaves_more (At time) fine = tt
    leaves_more (Steps first steps) fine = (reference_more R S refers first fine.0, references_more R S refers steps fine.1)
    leaves_more Now fine = tt

    pub leaves_more_of_all : (fs : Formulas) → EveryLeafOfAll P R fs → EveryLeafOfAll Q S fs
    leaves_more_of_all End fine = tt
    leaves_more_of_all (More f rest) fine = (leaves_more f fine.0, leaves_more_of_all rest fine.1)

  names_more : (names : List ℕ) → Each R names → Each S names
  names_more [] fine = tt
  names_more (n ∷ names) fine = (refers n fine.0, names_more names fine.1)

  pub leaves_more_of : (body : Body) → EveryLeafOf P R body → EveryLeafOf Q S body
  leaves_more_of (Variable v) fine = reference_more R S refers v fine
  leaves_more_of (Computed f kept) fine = leaves_more f fine
  leaves_more_of (Freeze child predicate None) fine = (leaves_more child fine.0, tt)
  leaves_more_of (Freeze child predicate (Some v)) fine = (leaves_more child fine.0, reference_more R S refers v fine.1)
  leaves_more_of (After time) fine = tt
  leaves_more_of (Every base span) fine = tt
  leaves_more_of (Expert f first links stale) fine = (reference_more R S refers first fine.0, names_more links fine.1)
  leaves_more_of (Grab bind v is_live) fine = (more bind fine.0, reference_more R S refers v fine.1)

-- ---- leaves of parts are the formula's

module _ (P R : ℕ → Type 0) where
  leaves_of_argument : (fs : Formulas) → EveryLeafOfAll P R fs → (k : ℕ) (g : Formula) → argument_at fs k ≡ Some g → EveryLeaf P R g
  leaves_of_argument End fine k g e = absurd (cc)
  leaves_of_argument (More f rest) fine zero g e = let same : f ≡ g = cc in subst (EveryLeaf P R) same fine.0
  leaves_of_argument (More f rest) fine (suc k) g e = leaves_of_argument rest fine.1 k g e

  leaves_of_part : (f : Formula) → EveryLeaf P R f → (edge : Edge) (g : Formula) → part_at f edge ≡ Some g → EveryLeaf P R g
  leaves_of_part (Apply h arguments) fine (Argument k) g e = leaves_of_argument arguments fine k g e
  leaves_of_part (Fold h first elements) fine (Argument k) g e = leaves_of_argument elements fine.1 k g e
  leaves_of_part (If test a b) fine Test g e = let same : test ≡ g = cc in subst (EveryLeaf P R) same fine.0
  leaves_of_part (If test a b) fine Then g e = let same : a ≡ g = cc in subst (EveryLeaf P R) same fine.1
  leaves_of_part (If test a b) fine Else g e = let same : b ≡ g = cc in subst (EveryLeaf P R) same fine.2
  leaves_of_part (Join child) fine Child g e = let same : child ≡ g = cc in subst (EveryLeaf P R) same fine
  leaves_of_part (Bind left body) fine Left g e = let same : left ≡ g = cc in subst (EveryLeaf P R) same fine.0
  leaves_of_part (Bind left body) fine (Inside v) g e = let same : body ≡ g = cc in subst (EveryLeaf P R) same fine.1
  leaves_of_part f fine edge g e = absurd (cc)

  pub leaves_within : (f : Formula) → EveryLeaf P R f → (path : List Edge) (g : Formula) → part_of f path ≡ Some g → EveryLeaf P R g
  leaves_within f fine [] g e = let same : f ≡ g = cc in subst (EveryLeaf P R) same fine
  leaves_within f fine (edge ∷ path) g e = above (part_of f path) (leaves_within f fine path) e
    where
      above : (x : Option Formula) → ((h : Formula) → x ≡ Some h → EveryLeaf P R h) → and_then x (λ h. part_at h edge) ≡ Some g → EveryLeaf P R g
      above None within e = absurd (cc)
      above (Some h) within e = leaves_of_part h (within h refl) edge g e
