-- Lists: their members, and what stands at a place.
use Rattle.std.proofs.Common.{◌≡◌, ◌∙◌, ◌⊎◌, ℕ, suc, zero, ◌+◌, ◌<◌, ◌≤◌, Bool, true, false, List, [], ◌∷◌, ◌++◌, length, refl, ap, sym, subst, inl, inr, arith, cond, Option, Some, None, slice_index_or, slice_set, drop}
use Rattle.std.specs.Prelude.{slice_get, filter, IsPermutation}
use Rattle.std.specs.List.{Contains}
use Rattle.std.specs.List.Sorted.{IsNonDecreasingBy}
use Rattle.std.proofs.lemmas.List.Sorted.{Contains-permutation}
use Rattle.inc_value.specs.Choice.{Among}
use Rattle.observers.specs.Keeping.{RisesFrom, IsOrdered}

pub some_is : {A : Type 0} (x : A) (y : A) → Some x ≡ Some y → x ≡ y
some_is x y e = ap (λ o. elim o [ None ↦ x | Some z ↦ z ]) e

pub no_some : {A : Type 0} {B : Type 0} (x : A) → ◌≡◌ {A = Option A} None (Some x) → B
no_some x e = absurd (let f : ◌≡◌ {A = Option _} None (Some x) = e in cc)

pub no_bool : {B : Type 0} → ◌≡◌ {A = Bool} false true → B
no_bool e = absurd (let f : ◌≡◌ {A = Bool} false true = e in cc)

pub among_left : {A : Type 0} (x : A) (xs ys : List A) → Among x xs → Among x (xs ++ ys)
among_left x [] ys h = absurd h
among_left x (y ∷ xs) ys (inl e) = inl e
among_left x (y ∷ xs) ys (inr h) = inr (among_left x xs ys h)

pub among_right : {A : Type 0} (x : A) (xs ys : List A) → Among x ys → Among x (xs ++ ys)
among_right x [] ys h = h
among_right x (y ∷ xs) ys h = inr (among_right x xs ys h)

-- an element of a list with one more at the end
pub among_last : {A : Type 0} (x y : A) (xs : List A) → Among x (xs ++ y ∷ []) → Among x xs ⊎ (x ≡ y)
among_last x y [] (inl e) = inr e
among_last x y [] (inr h) = absurd h
among_last x y (z ∷ xs) (inl e) = inl (inl e)
among_last x y (z ∷ xs) (inr h) = elim (among_last x y xs h) [ inl a ↦ inl (inr a) | inr e ↦ inr e ]

kept_or : {A : Type 0} (x y : A) (b : Bool) (ys : List A) → Among x ys → Among x (cond b (y ∷ ys) ys)
kept_or x y true ys h = inr h
kept_or x y false ys h = h

pub among_filter : {A : Type 0} (f : A → Bool) (x : A) (xs : List A) → f x ≡ true → Among x xs → Among x (filter f xs)
among_filter f x [] t h = absurd h
among_filter f x (y ∷ xs) t (inl e) = subst (λ b. Among x (cond b (y ∷ filter f xs) (filter f xs))) (sym t ∙ ap f e) (inl e)
among_filter f x (y ∷ xs) t (inr h) = kept_or x y (f y) (filter f xs) (among_filter f x xs t h)

-- what stands at a place is among the list
pub among_at : {A : Type 0} (xs : List A) (i : ℕ) (x : A) → slice_get xs i ≡ Some x → Among x xs
among_at [] i x h = no_some x h
among_at (y ∷ xs) zero x h = inl (sym (some_is y x h))
among_at (y ∷ xs) (suc i) x h = inr (among_at xs i x h)

-- and stands within it
pub within : {A : Type 0} (xs : List A) (i : ℕ) (x : A) → slice_get xs i ≡ Some x → i < length xs
within [] i x h = no_some x h
within (y ∷ xs) zero x h = omega arith
within (y ∷ xs) (suc i) x h = (let a = within xs i x h in omega (arith, a))

pub get_push : {A : Type 0} (xs : List A) (y : A) (i : ℕ) (o : A) → slice_get (xs ++ y ∷ []) i ≡ Some o
    → (slice_get xs i ≡ Some o) ⊎ ((i ≡ length xs) × (o ≡ y))
get_push [] y zero o h = inr (refl, sym (some_is y o h))
get_push [] y (suc i) o h = no_some o h
get_push (x ∷ xs) y zero o h = inl h
get_push (x ∷ xs) y (suc i) o h = elim (get_push xs y i o h) [
  | inl a ↦ inl a
  | inr b ↦ inr ((let e = b.0 in omega (arith, e)), b.1)
]

pub get_set : {A : Type 0} (xs : List A) (k : ℕ) (y : A) (i : ℕ) (o : A) → slice_get (slice_set xs k y) i ≡ Some o
    → ((i ≡ k) × (o ≡ y)) ⊎ (slice_get xs i ≡ Some o)
get_set [] k y i o h = inr h
get_set (x ∷ xs) zero y zero o h = inl (refl, sym (some_is y o h))
get_set (x ∷ xs) zero y (suc i) o h = inr h
get_set (x ∷ xs) (suc k) y zero o h = inr h
get_set (x ∷ xs) (suc k) y (suc i) o h = elim (get_set xs k y i o h) [
  | inl p ↦ inl (ap suc p.0, p.1)
  | inr q ↦ inr q
]

pub push_length : {A : Type 0} (xs : List A) (y : A) → length (xs ++ y ∷ []) ≡ length xs + 1
push_length [] y = refl
push_length (x ∷ xs) y = (let b = push_length xs y in omega (arith, b))

pub set_length : {A : Type 0} (xs : List A) (k : ℕ) (y : A) → length (slice_set xs k y) ≡ length xs
set_length [] k y = refl
set_length (x ∷ xs) zero y = refl
set_length (x ∷ xs) (suc k) y = (let b = set_length xs k y in omega (arith, b))

-- ---- the rest of a list from a place on

pub drop_next : {A : Type 0} (xs : List A) (i : ℕ) (d : A) → i < length xs → drop i xs ≡ slice_index_or xs i d ∷ drop (i + 1) xs
drop_next [] i d lt = absurd (omega (arith, lt))
drop_next (x ∷ xs) zero d lt = refl
drop_next (x ∷ xs) (suc i) d lt =
    let e : suc (i + 1) ≡ suc i + 1 = omega arith in
    drop_next xs i d (omega (arith, lt)) ∙ ap (λ k. slice_index_or xs i d ∷ drop k (x ∷ xs)) e

pub none_left : {A : Type 0} (x : A) (xs : List A) (k : ℕ) → length xs ≤ k → Among x (drop k xs) → ⊥
none_left x [] zero le a = a
none_left x [] (suc k) le a = a
none_left x (y ∷ xs) zero le a = absurd (omega (arith, le))
none_left x (y ∷ xs) (suc k) le a = none_left x xs k (omega (arith, le)) a

-- ---- sorted

place_of : (i : ℕ) (xs : List ℕ) → Among i xs → Contains xs i
place_of i [] a = absurd a
place_of i (x ∷ xs) (inl e) = (0, omega arith, sym e)
place_of i (x ∷ xs) (inr a) = let c = place_of i xs a in (suc c.0, (let l = c.1 in omega (arith, l)), c.2)

at_place : (k i : ℕ) (xs : List ℕ) → k < length xs → slice_index_or xs k i ≡ i → Among i xs
at_place k i [] lt is = absurd (omega (arith, lt))
at_place zero i (x ∷ xs) lt is = inl (sym is)
at_place (suc k) i (x ∷ xs) lt is = inr (at_place k i xs (omega (arith, lt)) is)

pub among_sorted : (xs ys : List ℕ) → IsPermutation xs ys → (i : ℕ) → Among i xs → Among i ys
among_sorted xs ys p i a = let c = Contains-permutation xs ys i p (place_of i xs a) in at_place c.0 i ys c.1 c.2

rises : (low x : ℕ) (xs : List ℕ) → low ≤ x → IsNonDecreasingBy (λ n. n) (x ∷ xs) → RisesFrom low (x ∷ xs)
rises low x [] le nd = (le, tt)
rises low x (y ∷ ys) le nd = (le, rises x y ys (nd 0 1 0 (omega arith) (omega arith)) (λ i j d a b. nd (suc i) (suc j) d (omega (arith, a)) (omega (arith, b))))

pub ordered : (xs : List ℕ) → IsNonDecreasingBy (λ n. n) xs → IsOrdered xs
ordered [] nd = tt
ordered (x ∷ xs) nd = rises 0 x xs (omega arith) nd

-- ---- truths

-- two truths of the same claim
pub same_truth : {P : Type 0} (a b : Bool) → (a ≡ true → P) → (P → a ≡ true) → (b ≡ true → P) → (P → b ≡ true) → a ≡ b
same_truth true true f g h k = refl
same_truth true false f g h k = no_bool (k (f refl))
same_truth false true f g h k = g (h refl)
same_truth false false f g h k = refl
