-- A place that is met stands with the values that the lefts round it give now: so it is met with one list of values alone.
use Rattle.std.proofs.Common.{◌≡◌, ◌⊎◌, inl, inr, ℕ, suc, true, false, ◌&&◌, List, [], ◌∷◌, ◌++◌, map, Option, None, Some, refl, ap, eqb}
use Rattle.std.specs.Prelude as std
use Rattle.std.proofs.lemmas.Bool.{eqb-true}
use Rattle.std.proofs.lemmas.Bool.Decides.{Decides-int_eq}
use Rattle.std.proofs.lemmas.Slice.Eq.{bytes_eq-Decides}
use Rattle.inc_value.specs.Ty.{same_base}
use Rattle.inc_value.specs.declared.ty.Base.TheVariants as base
use Rattle.inc_value.specs.declared.ty.Base.{Base}
use Rattle.inc_value.specs.Choice.{and_then, Among, Reaches, here, step}
use Rattle.script_model.specs.Values.{Value, Int, Bool, Text, Reference, Outcome, Val, Invalid, same_value, same_truth}
use Rattle.script_model.specs.Formula as model
use Rattle.script_model.specs.Formula.{Formula, Formulas, Body, Entry, Observer, State, Meanings, body_at, formula_of_body, Literal, Name, Bound, Apply, Fold, If, Join, Bind, At, Steps, Now, End, More, Variable, Computed, Freeze, After, Expert, Grab}
use Rattle.script_model.specs.Evaluate.{value_at}
use Rattle.script_model.specs.Laws.{bare, MeetsOnce}
use Rattle.script_model.specs.Need.{Edge, Argument, Test, Then, Else, Child, Left, Inside, Item, Named, Place, environment, bind_around, part_at, part_of, formula_at, outcome_at, ItemGives, argument_places, chosen_place, named_place, inside_place, part_reads, left_of, scope_reads, place_reads, grab_reads, body_reads, name_reads, Reads, Needed, Met, from_root, from_held, StillStands, own_root, own_roots, roots}
use Rattle.script_model.proofs.Evaluation.{one_outcome}

-- ---- equal values

same_bases : (a b : Base) → same_base a b ≡ true → a ≡ b
same_bases base.Int base.Int e = refl
same_bases base.Bool base.Bool e = refl
same_bases base.Text base.Text e = refl
same_bases base.Int base.Bool e = absurd (cc)
same_bases base.Int base.Text e = absurd (cc)
same_bases base.Bool base.Int e = absurd (cc)
same_bases base.Bool base.Text e = absurd (cc)
same_bases base.Text base.Int e = absurd (cc)
same_bases base.Text base.Bool e = absurd (cc)

same_truths : (a b : std.Bool) → same_truth a b ≡ true → a ≡ b
same_truths true true e = refl
same_truths false false e = refl
same_truths true false e = absurd (cc)
same_truths false true e = absurd (cc)

both_true : (a b : std.Bool) → (a && b) ≡ true → (a ≡ true) × (b ≡ true)
both_true false b e = absurd (cc)
both_true true b e = (refl, e)

pub same_values : (v w : Value) → same_value v w ≡ true → v ≡ w
same_values (Int a) (Int b) e = ap (λ x. Int x) ((Decides-int_eq a b).0 e)
same_values (Bool a) (Bool b) e = ap (λ x. Bool x) (same_truths a b e)
same_values (Text a) (Text b) e = ap (λ x. Text x) ((bytes_eq-Decides a b).0 e)
same_values (Reference m a) (Reference n b) e =
    let both = both_true (eqb m n) (same_base a b) e in
    let targets = eqb-true m n both.0 in
    let bases = same_bases a b both.1 in
    rw (targets, bases) refl
same_values v w e = absurd (cc)

-- ---- parts

pub among_either : {A : Type 0} (x : A) (xs ys : List A) → Among x (xs ++ ys) → Among x xs ⊎ Among x ys
among_either x [] ys h = inr h
among_either x (z ∷ zs) ys (inl e) = inl (inl e)
among_either x (z ∷ zs) ys (inr h) = elim (among_either x zs ys h) [ inl a ↦ inl (inr a) | inr b ↦ inr b ]

pub part_below : (s : State) (owner : ℕ) (path : List Edge) (g : Formula) (edge : Edge) → formula_at s owner path ≡ Some g → formula_at s owner (edge ∷ path) ≡ part_at g edge
part_below s owner path g edge is = by_body (body_at s owner) is
  where
    by_formula : (f : Option Formula) → and_then f (λ f. part_of f path) ≡ Some g → and_then f (λ f. part_of f (edge ∷ path)) ≡ part_at g edge
    by_formula None e = absurd (cc)
    by_formula (Some f) e = rw e refl

    by_body : (b : Option Body) → and_then b (λ body. and_then (formula_of_body body) (λ f. part_of f path)) ≡ Some g
        → and_then b (λ body. and_then (formula_of_body body) (λ f. part_of f (edge ∷ path))) ≡ part_at g edge
    by_body None e = absurd (cc)
    by_body (Some body) e = by_formula (formula_of_body body) e

-- an item gives one outcome
pub item_gives_one : (F : Meanings) (s : State) (i : Item) (o p : Outcome) → ItemGives F s i o → ItemGives F s i p → o ≡ p
item_gives_one F s (Named n) o p g h = one_outcome F s [] (Name n) o p g h
item_gives_one F s (Place owner path) o p g h = go (formula_at s owner path) g.1 h.1
  where
    go : (f : Option Formula) → and_then f (λ f. value_at F s g.0 (environment path) f) ≡ Some o → and_then f (λ f. value_at F s h.0 (environment path) f) ≡ Some p → o ≡ p
    go None a b = absurd (cc)
    go (Some f) a b = one_outcome F s (environment path) f o p (g.0, a) (h.0, b)

-- ---- what stands

module _ (F : Meanings) (s : State) where
  -- every item read by an item that stands stands
  abbrev Stand : List Item → Type 0
  Stand items = (j : Item) → Among j items → StillStands F s j

  none_stands : Stand []
  none_stands j none = absurd none

  more_stand : (i : Item) (items : List Item) → StillStands F s i → Stand items → Stand (i ∷ items)
  more_stand i items first rest j (inl e) = rw e first
  more_stand i items first rest j (inr later) = rest j later

  both_stand : (xs ys : List Item) → Stand xs → Stand ys → Stand (xs ++ ys)
  both_stand xs ys a b j among = elim (among_either j xs ys among) [ inl x ↦ a j x | inr y ↦ b j y ]

  arguments_stand : (owner : ℕ) (path : List Edge) (k : ℕ) (fs : Formulas) → StillStands F s (Place owner path) → Stand (argument_places owner path k fs)
  arguments_stand owner path k End stands = none_stands
  arguments_stand owner path k (More f rest) stands =
      more_stand (Place owner (Argument k ∷ path)) (argument_places owner path (suc k) rest) stands (arguments_stand owner path (suc k) rest stands)

  chosen_stands : (owner : ℕ) (path : List Edge) (o : Option Outcome) → StillStands F s (Place owner path) → Stand (chosen_place owner path o)
  chosen_stands owner path (Some (Val (Bool true))) stands = more_stand (Place owner (Then ∷ path)) [] stands none_stands
  chosen_stands owner path (Some (Val (Bool false))) stands = more_stand (Place owner (Else ∷ path)) [] stands none_stands
  chosen_stands owner path o stands = none_stands

  named_stands : (o : Option Outcome) → Stand (named_place o)
  named_stands (Some (Val (Reference t b))) = more_stand (Named t) [] tt none_stands
  named_stands o = none_stands

  inside_stands : (owner : ℕ) (path : List Edge) (d : ℕ) (o : Option Outcome) → StillStands F s (Place owner path) → outcome_at F s d (Place owner (Left ∷ path)) ≡ o
      → Stand (inside_place owner path o)
  inside_stands owner path d None stands is = none_stands
  inside_stands owner path d (Some Invalid) stands is = none_stands
  inside_stands owner path d (Some (Val v)) stands is = more_stand (Place owner (Inside v ∷ path)) [] ((d, is), stands) none_stands

  lefts_stand : (owner : ℕ) (path : List Edge) → StillStands F s (Place owner path) → Stand (left_of owner (bind_around 0 path))
  lefts_stand owner [] stands = none_stands
  lefts_stand owner (Inside v ∷ path) stands = more_stand (Place owner (Left ∷ path)) [] stands.1 none_stands
  lefts_stand owner (Argument k ∷ path) stands = lefts_stand owner path stands
  lefts_stand owner (Test ∷ path) stands = lefts_stand owner path stands
  lefts_stand owner (Then ∷ path) stands = lefts_stand owner path stands
  lefts_stand owner (Else ∷ path) stands = lefts_stand owner path stands
  lefts_stand owner (Child ∷ path) stands = lefts_stand owner path stands
  lefts_stand owner (Left ∷ path) stands = lefts_stand owner path stands

  scope_stands : (owner : ℕ) (path : List Edge) (f : Formula) → StillStands F s (Place owner path) → Stand (scope_reads owner path f)
  scope_stands owner path (Name n) stands = none_stands
  scope_stands owner path (Bound (suc k)) stands = none_stands
  scope_stands owner path f stands = lefts_stand owner path stands

  part_stands : (owner : ℕ) (path : List Edge) (d : ℕ) (f : Formula) → StillStands F s (Place owner path) → formula_at s owner path ≡ Some f
      → Stand (part_reads (value_at F s d (environment path)) owner path f)
  part_stands owner path d (Literal v) stands is = none_stands
  part_stands owner path d (Name n) stands is = more_stand (Named n) [] tt none_stands
  part_stands owner path d (Bound k) stands is = none_stands
  part_stands owner path d (Apply f fs) stands is = arguments_stand owner path 0 fs stands
  part_stands owner path d (Fold f v fs) stands is = arguments_stand owner path 0 fs stands
  part_stands owner path d (If test a b) stands is = more_stand (Place owner (Test ∷ path)) _ stands (chosen_stands owner path (value_at F s d (environment path) test) stands)
  part_stands owner path d (Join child) stands is = more_stand (Place owner (Child ∷ path)) _ stands (named_stands (value_at F s d (environment path) child))
  part_stands owner path d (Bind left body) stands is =
      more_stand (Place owner (Left ∷ path)) _ stands
      (inside_stands owner path d (value_at F s d (environment path) left) stands (rw (part_below s owner path (Bind left body) Left is) refl))
  part_stands owner path d (At t) stands is = none_stands
  part_stands owner path d (Steps v steps) stands is = none_stands
  part_stands owner path d Now stands is = none_stands

  place_stands : (owner : ℕ) (path : List Edge) (d : ℕ) (f : Option Formula) → StillStands F s (Place owner path) → formula_at s owner path ≡ f → Stand (place_reads F s d owner path f)
  place_stands owner path d None stands is = none_stands
  place_stands owner path d (Some f) stands is =
      both_stand (part_reads (value_at F s d (environment path)) owner path f) (scope_reads owner path f) (part_stands owner path d f stands is) (scope_stands owner path f stands)

  grab_stands : (bind d : ℕ) (v : Value) (o : Option Outcome) → outcome_at F s d (Place bind (Left ∷ [])) ≡ o → Stand (grab_reads bind v o)
  grab_stands bind d v None is = more_stand (Place bind (Left ∷ [])) [] tt none_stands
  grab_stands bind d v (Some Invalid) is = more_stand (Place bind (Left ∷ [])) [] tt none_stands
  grab_stands bind d v (Some (Val w)) is = go (same_value v w) refl
    where
      go : (same : std.Bool) → same_value v w ≡ same
          → Stand (elim same [ true ↦ Place bind (Left ∷ []) ∷ Place bind (Inside v ∷ []) ∷ [] | false ↦ Place bind (Left ∷ []) ∷ [] ])
      go true e = more_stand (Place bind (Left ∷ [])) (Place bind (Inside v ∷ []) ∷ []) tt (more_stand (Place bind (Inside v ∷ [])) [] ((d, rw (same_values v w e) is), tt) none_stands)
      go false e = more_stand (Place bind (Left ∷ [])) [] tt none_stands

  links_stand : (links : List ℕ) → Stand (map (λ m. Named m) links)
  links_stand [] = none_stands
  links_stand (m ∷ links) = more_stand (Named m) _ tt (links_stand links)

  body_stands : (d n : ℕ) (b : Body) → Stand (body_reads F s d n b)
  body_stands d n (Variable v) = none_stands
  body_stands d n (Computed f kept) = more_stand (Place n []) [] tt none_stands
  body_stands d n (Freeze child p None) = more_stand (Place n []) [] tt none_stands
  body_stands d n (Freeze child p (Some v)) = none_stands
  body_stands d n (After t) = none_stands
  body_stands d n (model.Every base span) = none_stands
  body_stands d n (Expert f first links stale) = links_stand links
  body_stands d n (Grab bind v true) = grab_stands bind d v (outcome_at F s d (Place bind (Left ∷ []))) refl
  body_stands d n (Grab bind v false) = none_stands

  name_stands : (d n : ℕ) (b : Option Body) → Stand (name_reads F s d n b)
  name_stands d n None = none_stands
  name_stands d n (Some b) = body_stands d n b

  read_stands : (i j : Item) → StillStands F s i → Reads F s i j → StillStands F s j
  read_stands (Named n) j stands r = name_stands r.0 n (body_at s n) j r.1
  read_stands (Place owner path) j stands r = place_stands owner path r.0 (formula_at s owner path) stands refl j r.1

  pub reached_stands : (i j : Item) → StillStands F s i → Reaches (Reads F s) i j → StillStands F s j
  reached_stands i j stands here = stands
  reached_stands i j stands (step {b = k} r on) = reached_stands k j (read_stands i k stands r) on

-- ---- what is needed and met stands

open_root_stands : (F : Meanings) (s now : State) (n : ℕ) (b : Body) (i : Item) → Among i (own_root s n b) → StillStands F now i
open_root_stands F s now n (Freeze child p None) i (inl e) = rw e tt
open_root_stands F s now n (Freeze child p None) i (inr none) = absurd none
open_root_stands F s now n b i none = absurd none

own_roots_stand : (F : Meanings) (s now : State) (n : ℕ) (es : List Entry) (i : Item) → Among i (own_roots s n es) → StillStands F now i
own_roots_stand F s now n [] i none = absurd none
own_roots_stand F s now n (e ∷ es) i among =
    elim (among_either i (own_root s n e.body) (own_roots s (suc n) es) among) [
      | inl x ↦ open_root_stands F s now n e.body i x
      | inr y ↦ own_roots_stand F s now (suc n) es i y
    ]

looked_at_stands : (F : Meanings) (now : State) (os : List Observer) (i : Item) → Among i (map (λ (o : Observer). Named o.target) os) → StillStands F now i
looked_at_stands F now [] i none = absurd none
looked_at_stands F now (o ∷ os) i (inl e) = rw e tt
looked_at_stands F now (o ∷ os) i (inr later) = looked_at_stands F now os i later

root_stands : (F : Meanings) (s : State) (i : Item) → Among i (roots s) → StillStands F s i
root_stands F s i among =
    elim (among_either i (map (λ (o : Observer). Named o.target) s.observers) (own_roots s 0 s.entries) among) [
      | inl x ↦ looked_at_stands F s s.observers i x
      | inr y ↦ own_roots_stand F s s 0 s.entries i y
    ]

pub needed_stands : (F : Meanings) (s : State) (i : Item) → Needed F s i → StillStands F s i
needed_stands F s i needed = reached_stands F s needed.0 i (root_stands F s needed.0 needed.1) needed.2

pub met_stands : (F : Meanings) (before s : State) (i : Item) → Met F before s i → StillStands F s i
met_stands F before s i (from_root needed) = needed_stands F s i needed
met_stands F before s i (from_held {h = h} held stands on) = reached_stands F s h i stands on

-- ---- one list of values

abbrev Alike : Meanings → State → ℕ → List Edge → List Edge → Type 0
Alike F s owner p q = StillStands F s (Place owner p) → StillStands F s (Place owner q) → p ≡ q

pub outer_stands : (F : Meanings) (s : State) (owner : ℕ) (a : Edge) (p : List Edge) → StillStands F s (Place owner (a ∷ p)) → StillStands F s (Place owner p)
outer_stands F s owner (Inside v) p stands = stands.1
outer_stands F s owner (Argument k) p stands = stands
outer_stands F s owner Test p stands = stands
outer_stands F s owner Then p stands = stands
outer_stands F s owner Else p stands = stands
outer_stands F s owner Child p stands = stands
outer_stands F s owner Left p stands = stands

same_edges : (F : Meanings) (s : State) (owner : ℕ) (a b : Edge) (p : List Edge) → bare a ≡ bare b → StillStands F s (Place owner (a ∷ p)) → StillStands F s (Place owner (b ∷ p)) → a ≡ b
same_edges F s owner (Inside v) (Inside w) p e g h = let same = item_gives_one F s (Place owner (Left ∷ p)) (Val v) (Val w) g.0 h.0 in let vs : v ≡ w = cc in rw vs refl
same_edges F s owner (Inside v) (Argument k) p e g h = absurd (cc)
same_edges F s owner (Inside v) Test p e g h = absurd (cc)
same_edges F s owner (Inside v) Then p e g h = absurd (cc)
same_edges F s owner (Inside v) Else p e g h = absurd (cc)
same_edges F s owner (Inside v) Child p e g h = absurd (cc)
same_edges F s owner (Inside v) Left p e g h = absurd (cc)
same_edges F s owner (Argument k) (Inside w) p e g h = absurd (cc)
same_edges F s owner Test (Inside w) p e g h = absurd (cc)
same_edges F s owner Then (Inside w) p e g h = absurd (cc)
same_edges F s owner Else (Inside w) p e g h = absurd (cc)
same_edges F s owner Child (Inside w) p e g h = absurd (cc)
same_edges F s owner Left (Inside w) p e g h = absurd (cc)
same_edges F s owner a b p e g h = e

one_path : (F : Meanings) (s : State) (owner : ℕ) (p q : List Edge) → map bare p ≡ map bare q → Alike F s owner p q
one_path F s owner [] [] e g h = refl
one_path F s owner [] (b ∷ q) e g h = absurd (cc)
one_path F s owner (a ∷ p) [] e g h = absurd (cc)
one_path F s owner (a ∷ p) (b ∷ q) e g h =
    let inner : map bare p ≡ map bare q = cc in
    let edges : bare a ≡ bare b = cc in
    let paths = one_path F s owner p q inner (outer_stands F s owner a p g) (outer_stands F s owner b q h) in
    let same = same_edges F s owner a b p edges g (rw paths h) in
    rw (same, paths) refl

pub meets_once : MeetsOnce
meets_once F before s owner p q g h e = one_path F s owner p q e (met_stands F before s (Place owner p) g) (met_stands F before s (Place owner q) h)
