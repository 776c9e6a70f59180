-- Whatever is needed stands in a declaration.
use Rattle.std.proofs.Common.{◌≡◌, inl, inr, ℕ, suc, ◌+◌, Bool, true, false, List, [], ◌∷◌, ◌++◌, map, Option, None, Some, refl, ◌∙◌, ap, sym, arith}
use Rattle.inc_value.specs.declared.ty.Ty.{Ty}
use Rattle.inc_value.specs.Choice.{and_then, Among, Reaches, here, step}
use Rattle.script_model.specs.Values as value
use Rattle.script_model.specs.Values.{Value, Reference, Outcome, Val, Invalid, same_value}
use Rattle.script_model.specs.Formula.{Formula, Formulas, Body, Entry, Observer, State, Meanings, entry_at, body_at, bind_at, bind_of, formula_of_body, Name, Bound, Apply, Fold, If, Join, Bind, End, More, Computed, Freeze, Expert, Grab}
use Rattle.script_model.specs.Evaluate.{value_at}
use Rattle.script_model.specs.Need.{Edge, Argument, Test, Then, Else, Child, Left, Inside, Item, Named, Place, environment, bind_around, argument_at, part_at, formula_at, outcome_at, argument_places, chosen_place, named_place, inside_place, part_reads, left_of, scope_reads, place_reads, grab_reads, body_reads, name_reads, Reads, Needed, own_root, own_roots}
use Rattle.script_model.specs.Valid.{BodyHasType, Valid}
use Rattle.script_model.proofs.TypedCalls.{part_stands, part_is}

-- ---- lists

pub among_left : {A : Type 0} (x : A) (xs ys : List A) → Among x xs → Among x (xs ++ ys)
among_left x [] ys h = absurd h
among_left x (z ∷ zs) ys (inl e) = inl e
among_left x (z ∷ zs) ys (inr h) = inr (among_left x zs ys h)

-- every item of the list has the property
abbrev pub All : (Item → Type 0) → List Item → Type 0
All P items = (j : Item) → Among j items → P j

module _ (P : Item → Type 0) where
  pub all_none : All P []
  all_none j none = absurd none

  pub all_more : (i : Item) (items : List Item) → P i → All P items → All P (i ∷ items)
  all_more i items first rest j (inl e) = rw e first
  all_more i items first rest j (inr later) = rest j later

  pub all_both : (xs ys : List Item) → All P xs → All P ys → All P (xs ++ ys)
  all_both [] ys a b = b
  all_both (x ∷ xs) ys a b = all_more x (xs ++ ys) (a x (inl refl)) (all_both xs ys (λ j among. a j (inr among)) b)

-- ---- what stands

-- a formula stands at the place
abbrev pub IsThere : State → Item → Type 0
IsThere s (Named n) = Unit {0}
IsThere s (Place owner path) = (f : Formula) × (formula_at s owner path ≡ Some f)

-- the place of a bind that is the whole formula
pub bind_stands : (s : State) (n : ℕ) (left body : Formula) → bind_at s n ≡ Some (left, body) → formula_at s n [] ≡ Some (Bind left body)
bind_stands s n left body is = by_body (body_at s n) is
  where
    by_kind : (b : Body) → bind_of b ≡ Some (left, body) → and_then (formula_of_body b) (λ f. Some f) ≡ Some (Bind left body)
    by_kind (Computed (Bind l r) kept) e =
        let lefts : Some l ≡ Some left = ap (λ (p : Option (Formula × Formula)). and_then p (λ (p : Formula × Formula). Some p.0)) e in
        let bodies : Some r ≡ Some body = ap (λ (p : Option (Formula × Formula)). and_then p (λ (p : Formula × Formula). Some p.1)) e in
        cc
    by_kind b e = absurd (cc)

    by_body : (b : Option Body) → and_then b bind_of ≡ Some (left, body)
        → and_then b (λ body. and_then (formula_of_body body) (λ f. Some f)) ≡ Some (Bind left body)
    by_body None e = absurd (cc)
    by_body (Some b) e = by_kind b e

part_there : (s : State) (owner : ℕ) (path : List Edge) (g : Formula) (edge : Edge) (f : Formula) → formula_at s owner path ≡ Some g
    → part_at g edge ≡ Some f → IsThere s (Place owner (edge ∷ path))
part_there s owner path g edge f at is = (f, part_is s owner path g edge at ∙ is)

-- the formula around a part
around : (s : State) (owner : ℕ) (path : List Edge) (edge : Edge) (f : Formula) → formula_at s owner (edge ∷ path) ≡ Some f
    → (g : Formula) × (formula_at s owner path ≡ Some g) × (part_at g edge ≡ Some f)
around s owner path edge f at = go (formula_at s owner path) refl (sym (part_stands s owner path edge) ∙ at)
  where
    go : (o : Option Formula) → formula_at s owner path ≡ o → and_then o (λ g. part_at g edge) ≡ Some f
        → (g : Formula) × (formula_at s owner path ≡ Some g) × (part_at g edge ≡ Some f)
    go None at is = absurd (cc)
    go (Some g) at is = (g, at, is)

inside_is_bound : (g : Formula) (v : Value) (f : Formula) → part_at g (Inside v) ≡ Some f → (left : Formula) × (part_at g Left ≡ Some left)
inside_is_bound (Bind left body) v f is = (left, refl)
inside_is_bound g v f is = absurd (cc)

-- a bind round what is there has its left there
left_there : (s : State) (owner : ℕ) (path bind : List Edge) (f : Formula) → formula_at s owner path ≡ Some f
    → bind_around 0 path ≡ Some bind → IsThere s (Place owner (Left ∷ bind))
left_there s owner [] bind f at is = absurd (cc)
left_there s owner (Inside v ∷ path) bind f at is =
    let whole = around s owner path (Inside v) f at in
    let left = inside_is_bound whole.0 v f whole.2 in
    let same : bind ≡ path = cc in
    rw same (part_there s owner path whole.0 Left left.0 whole.1 left.1)
left_there s owner (Argument k ∷ path) bind f at is =
    let whole = around s owner path (Argument k) f at in left_there s owner path bind whole.0 whole.1 is
left_there s owner (Test ∷ path) bind f at is = let whole = around s owner path Test f at in left_there s owner path bind whole.0 whole.1 is
left_there s owner (Then ∷ path) bind f at is = let whole = around s owner path Then f at in left_there s owner path bind whole.0 whole.1 is
left_there s owner (Else ∷ path) bind f at is = let whole = around s owner path Else f at in left_there s owner path bind whole.0 whole.1 is
left_there s owner (Child ∷ path) bind f at is =
    let whole = around s owner path Child f at in left_there s owner path bind whole.0 whole.1 is
left_there s owner (Left ∷ path) bind f at is = let whole = around s owner path Left f at in left_there s owner path bind whole.0 whole.1 is

-- ---- what is read is there

module _ (s : State) (owner : ℕ) (path : List Edge) where
  one_there : (g : Formula) (edge : Edge) (f : Formula) (items : List Item) → formula_at s owner path ≡ Some g
      → part_at g edge ≡ Some f → All (IsThere s) items → All (IsThere s) (Place owner (edge ∷ path) ∷ items)
  one_there g edge f items at is rest = all_more (IsThere s) (Place owner (edge ∷ path)) items (part_there s owner path g edge f at is) rest

  arguments_there : (g : Formula) (k : ℕ) (fs : Formulas) → formula_at s owner path ≡ Some g
      → ((i : ℕ) → part_at g (Argument (k + i)) ≡ argument_at fs i) → All (IsThere s) (argument_places owner path k fs)
  arguments_there g k End at are = all_none (IsThere s)
  arguments_there g k (More f rest) at are =
      let here : k + 0 ≡ k = omega arith in
      one_there g (Argument k) f (argument_places owner path (suc k) rest) at (rw here at (are 0))
      (arguments_there g (suc k) rest at (λ i. let later : k + suc i ≡ suc k + i = omega arith in rw later at (are (suc i))))

  all_arguments_there : (g : Formula) (fs : Formulas) → formula_at s owner path ≡ Some g
      → ((i : ℕ) → part_at g (Argument i) ≡ argument_at fs i) → All (IsThere s) (argument_places owner path 0 fs)
  all_arguments_there g fs at are = arguments_there g 0 fs at (λ i. let same : 0 + i ≡ i = omega arith in rw same (are i))

  chosen_there : (test a b : Formula) (o : Option Outcome) → formula_at s owner path ≡ Some (If test a b)
      → All (IsThere s) (chosen_place owner path o)
  chosen_there test a b (Some (Val (value.Bool true))) at = one_there (If test a b) Then a [] at refl (all_none (IsThere s))
  chosen_there test a b (Some (Val (value.Bool false))) at = one_there (If test a b) Else b [] at refl (all_none (IsThere s))
  chosen_there test a b o at = all_none (IsThere s)

  named_there : (o : Option Outcome) → All (IsThere s) (named_place o)
  named_there (Some (Val (Reference target base))) = all_more (IsThere s) (Named target) [] tt (all_none (IsThere s))
  named_there o = all_none (IsThere s)

  inside_there : (left body : Formula) (o : Option Outcome) → formula_at s owner path ≡ Some (Bind left body)
      → All (IsThere s) (inside_place owner path o)
  inside_there left body (Some (Val v)) at = one_there (Bind left body) (Inside v) body [] at refl (all_none (IsThere s))
  inside_there left body o at = all_none (IsThere s)

  parts_there : (part : Formula → Option Outcome) (f : Formula) → formula_at s owner path ≡ Some f
      → All (IsThere s) (part_reads part owner path f)
  parts_there part (Name n) at = all_more (IsThere s) (Named n) [] tt (all_none (IsThere s))
  parts_there part (Apply f fs) at = all_arguments_there (Apply f fs) fs at (λ i. refl)
  parts_there part (Fold f first fs) at = all_arguments_there (Fold f first fs) fs at (λ i. refl)
  parts_there part (If test a b) at =
      one_there (If test a b) Test test (chosen_place owner path (part test)) at refl (chosen_there test a b (part test) at)
  parts_there part (Join child) at = one_there (Join child) Child child (named_place (part child)) at refl (named_there (part child))
  parts_there part (Bind left body) at =
      one_there (Bind left body) Left left (inside_place owner path (part left)) at refl (inside_there left body (part left) at)
  parts_there part f at = all_none (IsThere s)

  left_of_there : (f : Formula) (o : Option (List Edge)) → formula_at s owner path ≡ Some f → bind_around 0 path ≡ o
      → All (IsThere s) (left_of owner o)
  left_of_there f None at is = all_none (IsThere s)
  left_of_there f (Some bind) at is =
      all_more (IsThere s) (Place owner (Left ∷ bind)) [] (left_there s owner path bind f at is) (all_none (IsThere s))

  scope_there : (f : Formula) → formula_at s owner path ≡ Some f → All (IsThere s) (scope_reads owner path f)
  scope_there (Name n) at = all_none (IsThere s)
  scope_there (Bound (suc k)) at = all_none (IsThere s)
  scope_there f at = left_of_there f (bind_around 0 path) at refl

  place_there : (F : Meanings) (d : ℕ) (o : Option Formula) → formula_at s owner path ≡ o → All (IsThere s) (place_reads F s d owner path o)
  place_there F d None at = all_none (IsThere s)
  place_there F d (Some f) at =
      all_both (IsThere s) (part_reads (value_at F s d (environment path)) owner path f) (scope_reads owner path f)
      (parts_there (value_at F s d (environment path)) f at) (scope_there f at)

module _ (F : Meanings) (s : State) (valid : Valid F s) where
  grab_there : (bind : ℕ) (v : Value) (left body : Formula) (o : Option Outcome) → bind_at s bind ≡ Some (left, body)
      → All (IsThere s) (grab_reads bind v o)
  grab_there bind v left body o is = by_outcome o
    where
      lefts : All (IsThere s) (Place bind (Left ∷ []) ∷ [])
      lefts = one_there s bind [] (Bind left body) Left left [] (bind_stands s bind left body is) refl (all_none (IsThere s))

      insides : All (IsThere s) (Place bind (Left ∷ []) ∷ Place bind (Inside v ∷ []) ∷ [])
      insides =
          let at = bind_stands s bind left body is in
          one_there s bind [] (Bind left body) Left left (Place bind (Inside v ∷ []) ∷ []) at refl
          (one_there s bind [] (Bind left body) (Inside v) body [] at refl (all_none (IsThere s)))

      by_same : (same : Bool)
          → All (IsThere s) (elim same [ true ↦ Place bind (Left ∷ []) ∷ Place bind (Inside v ∷ []) ∷ [] | false ↦ Place bind (Left ∷ []) ∷ [] ])
      by_same true = insides
      by_same false = lefts

      by_outcome : (o : Option Outcome) → All (IsThere s) (grab_reads bind v o)
      by_outcome None = lefts
      by_outcome (Some Invalid) = lefts
      by_outcome (Some (Val w)) = by_same (same_value v w)

  links_there : (links : List ℕ) → All (IsThere s) (map (λ m. Named m) links)
  links_there [] = all_none (IsThere s)
  links_there (m ∷ links) = all_more (IsThere s) (Named m) (map (λ m. Named m) links) tt (links_there links)

  body_there : (d n : ℕ) (b : Body) (t : Ty) → body_at s n ≡ Some b → BodyHasType F s n b t → All (IsThere s) (body_reads F s d n b)
  body_there d n (Computed f kept) t at h = all_more (IsThere s) (Place n []) [] (f, rw at refl) (all_none (IsThere s))
  body_there d n (Freeze child p None) t at h = all_more (IsThere s) (Place n []) [] (child, rw at refl) (all_none (IsThere s))
  body_there d n (Expert f first links stale) t at h = links_there links
  body_there d n (Grab bind v true) t at h = grab_there bind v h.left h.body (outcome_at F s d (Place bind (Left ∷ []))) h.stands
  body_there d n b t at h = all_none (IsThere s)

  entry_there : (d n : ℕ) (o : Option Entry) → entry_at s n ≡ o → All (IsThere s) (name_reads F s d n (and_then o (λ e. Some e.body)))
  entry_there d n None at = all_none (IsThere s)
  entry_there d n (Some e) at =
      body_there d n e.body e.ty (ap (λ o. and_then o (λ (e : Entry). Some e.body)) at) (valid.entries n e at).typed

  read_there : (i j : Item) → IsThere s i → Reads F s i j → IsThere s j
  read_there (Named n) j there reads = entry_there reads.0 n (entry_at s n) refl j reads.1
  read_there (Place owner path) j there reads = place_there s owner path F reads.0 (formula_at s owner path) refl j reads.1

  reached_there : (i j : Item) → IsThere s i → Reaches (Reads F s) i j → IsThere s j
  reached_there i j there here = there
  reached_there i j there (step {b = k} reads on) = reached_there k j (read_there i k there reads) on

  -- ---- what is needed

  looked_at_there : (os : List Observer) → All (IsThere s) (map (λ (o : Observer). Named o.target) os)
  looked_at_there [] = all_none (IsThere s)
  looked_at_there (o ∷ os) = all_more (IsThere s) (Named o.target) (map (λ (o : Observer). Named o.target) os) tt (looked_at_there os)

  own_root_there : (n : ℕ) (b : Body) → All (IsThere s) (own_root s n b)
  own_root_there n (Freeze child p None) = all_more (IsThere s) (Named n) [] tt (all_none (IsThere s))
  own_root_there n b = all_none (IsThere s)

  own_roots_there : (n : ℕ) (es : List Entry) → All (IsThere s) (own_roots s n es)
  own_roots_there n [] = all_none (IsThere s)
  own_roots_there n (e ∷ es) =
      all_both (IsThere s) (own_root s n e.body) (own_roots s (suc n) es) (own_root_there n e.body) (own_roots_there (suc n) es)

  pub needed_there : (i : Item) → Needed F s i → IsThere s i
  needed_there i needed =
      let each = all_both (IsThere s) (map (λ (o : Observer). Named o.target) s.observers) (own_roots s 0 s.entries)
      (looked_at_there s.observers) (own_roots_there 0 s.entries) in
      let root = each needed.0 needed.1 in
      reached_there needed.0 i root needed.2
