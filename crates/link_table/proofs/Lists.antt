-- Lists by place, and the tests of points.
use Rattle.std.proofs.Common.{◌≡◌, ◌≢◌, ◌⊎◌, inl, inr, ◌∙◌, ℕ, zero, suc, ◌+◌, ◌-◌, ◌<◌, Bool, true, false, List, [], ◌∷◌, ◌++◌, length, take, swap_remove, refl, ap, sym, arith}
use Rattle.std.specs.Prelude.{Option, None, Some, IfNone, IsTrue, IsFalse, ◌==◌, ◌&&◌, Result, Ok, Err, OnErr, slice_get, slice_set, slice_index_or, map, sum_by}
use denote.Enum.Bare.{sameb}
use Rattle.std.proofs.lemmas.Bool.{cases_eq}
use Rattle.std.proofs.lemmas.Bool.Decides.{nat_tests}
use Rattle.std.proofs.lemmas.List.{length-set, set-append_left, take-set-le, take_at}
use Rattle.std.proofs.lemmas.List.Sums.{sum_by-cons}
use Rattle.inc_value.specs.declared.node.Point.{Point}
use Rattle.inc_value.specs.contracts.node.Part.{the_type}
use Rattle.inc_value.specs.declared.node.Part.{Part}
use Rattle.inc_value.specs.declared.node.Part.TheVariants.{Change, Main}
use Rattle.point_map.specs.Rows.{same_part, same_point}
use Rattle.point_map.proofs.Places.{same_point_eq, point_cases}
use Rattle.link_table.specs.Links.{is_point, link}

-- a fact that holds, also where there is an error
pub on_err : {T E Q : Type 0} (r : Result T E) → Q → OnErr r Q
on_err (Ok x) q = tt
on_err (Err e) q = q

-- a fact that holds, also where nothing is answered
pub if_none : {T Q : Type 0} (o : Option T) → Q → IfNone o Q
if_none None q = q
if_none (Some x) q = tt

-- a list without items, and one with some
zero_when : (n : ℕ) (b : Bool) → b ≡ (n == 0) → IsTrue b → n ≡ 0
zero_when n b e t = grind (arith, nat_tests)

pub some_when : (n : ℕ) (b : Bool) → b ≡ (n == 0) → IsFalse b → 0 < n
some_when n b e f = grind (arith, nat_tests)

nothing : {T : Type 0} (xs : List T) → length xs ≡ 0 → xs ≡ []
nothing [] h = refl
nothing (x ∷ xs) h = absurd (omega (arith, h))

pub empty_when : {T : Type 0} (xs : List T) (b : Bool) → b ≡ (length xs == 0) → IsTrue b → xs ≡ []
empty_when xs b e t = nothing xs (zero_when (length xs) b e t)

-- a test passes or fails
pub split : (b : Bool) → (b ≡ true) ⊎ (b ≡ false)
split true = inl refl
split false = inr refl

-- how the code compares parts
same_parts : (a b : Part) → sameb the_type a b ≡ same_part a b
same_parts Change Change = refl
same_parts Main Main = refl
same_parts Change Main = refl
same_parts Main Change = refl

same_tests : (a b c d : Bool) → c ≡ d → ((a && b) && c) ≡ (a && b && d)
same_tests true true c d e = e
same_tests true false c d e = refl
same_tests false b c d e = refl

-- how the code compares points
abbrev pub tested : Point → Point → Bool
tested p q = ((p.node.slot == q.node.slot) && (p.node.gen_ == q.node.gen_)) && sameb the_type p.part q.part

pub tested_is : (p q : Point) → tested p q ≡ same_point p q
tested_is p q =
    same_tests (p.node.slot == q.node.slot) (p.node.gen_ == q.node.gen_) (sameb the_type p.part q.part) (same_part p.part q.part) (same_parts p.part q.part)

pub tested_same : (p q : Point) → tested p q ≡ true → p ≡ q
tested_same p q h = same_point_eq p q (sym (tested_is p q) ∙ h)

pub other_point : (y p : Point) → y ≢ p → is_point y p ≡ false
other_point y p other = elim (split (same_point p y)) [ inl same ↦ absurd (other (sym (same_point_eq p y same))) | inr differs ↦ differs ]

-- a place of a point is this one or not
pub place_cases : (x p : Point) (k i : ℕ) → ((x ≡ p) × (k ≡ i)) ⊎ (x ≡ p → k ≡ i → ⊥)
place_cases x p k i = elim (point_cases x p) [
  | inl at_p ↦ elim (cases_eq k i) [ inl at_i ↦ inl (at_p, at_i) | inr other ↦ inr (λ _ e. other e) ]
  | inr other ↦ inr (λ e _. other e)
]

-- a link is this one or not
pub link_cases : (x p y q : Point) → ((x ≡ p) × (y ≡ q)) ⊎ (link x y ≢ link p q)
link_cases x p y q = elim (point_cases x p) [
  | inl at_p ↦ elim (point_cases y q) [ inl at_q ↦ inl (at_p, at_q) | inr other ↦ inr (λ e. other (ap (λ l. l.kid) e)) ]
  | inr other ↦ inr (λ e. other (ap (λ l. l.reader) e))
]

module _ {X : Type 0} where
  pub get_set_same : (xs : List X) (i : ℕ) (y : X) → i < length xs → slice_get (slice_set xs i y) i ≡ Some y
  get_set_same [] i y h = absurd (omega (arith, h))
  get_set_same (x ∷ xs) zero y h = refl
  get_set_same (x ∷ xs) (suc i) y h = get_set_same xs i y (omega (arith, h))

  pub get_set_other : (xs : List X) (i k : ℕ) (y : X) → k ≢ i → slice_get (slice_set xs i y) k ≡ slice_get xs k
  get_set_other [] i k y other = refl
  get_set_other (x ∷ xs) zero zero y other = absurd (other refl)
  get_set_other (x ∷ xs) zero (suc k) y other = refl
  get_set_other (x ∷ xs) (suc i) zero y other = refl
  get_set_other (x ∷ xs) (suc i) (suc k) y other = get_set_other xs i k y (λ e. other (ap suc e))

  pub get_append_last : (xs : List X) (y : X) → slice_get (xs ++ y ∷ []) (length xs) ≡ Some y
  get_append_last [] y = refl
  get_append_last (x ∷ xs) y = get_append_last xs y

  pub get_append_other : (xs : List X) (y : X) (k : ℕ) → k ≢ length xs → slice_get (xs ++ y ∷ []) k ≡ slice_get xs k
  get_append_other [] y zero other = absurd (other refl)
  get_append_other [] y (suc k) other = refl
  get_append_other (x ∷ xs) y zero other = refl
  get_append_other (x ∷ xs) y (suc k) other = get_append_other xs y k (λ e. other (ap suc e))

  pub length_more : (xs : List X) (y : X) → length (xs ++ y ∷ []) ≡ length xs + 1
  length_more [] y = refl
  length_more (x ∷ xs) y = let next = length_more xs y in omega (arith, next)

  -- what stands last goes, and the others stay where they are
  pub swap_last : (xs : List X) (x y : X) → swap_remove (xs ++ x ∷ []) (length xs) y ≡ xs
  swap_last xs x y =
      let more = length_more xs x in
      take-set-le (length (xs ++ x ∷ []) - 1) (xs ++ x ∷ []) (length xs) (slice_index_or (xs ++ x ∷ []) (length (xs ++ x ∷ []) - 1) y) (omega (arith, more))
      ∙ take_at xs (x ∷ []) (length (xs ++ x ∷ []) - 1) (omega (arith, more))

  last_of : (xs : List X) (x d : X) → slice_index_or (xs ++ x ∷ []) (length xs) d ≡ x
  last_of [] x d = refl
  last_of (y ∷ ys) x d = last_of ys x d

  last_put : (xs : List X) (x d : X) (i n : ℕ) → i < length xs → n ≡ length xs
      → take n (slice_set (xs ++ x ∷ []) i (slice_index_or (xs ++ x ∷ []) n d)) ≡ slice_set xs i x
  last_put xs x d i n within len =
      let whole = length-set xs i x in
      rw (len, last_of xs x d, set-append_left xs (x ∷ []) i x within) (take_at (slice_set xs i x) (x ∷ []) (length xs) (omega (arith, whole)))

  -- what stands last comes into the place
  pub item_filled : (was rest now : List X) (x : X) (i : ℕ) → was ≡ rest ++ x ∷ [] → i < length rest → now ≡ slice_set rest i x
      → (e : X) → slice_get was i ≡ Some e → now ≡ swap_remove was i e
  item_filled was rest now x i parts within set e _ =
      let more = length_more rest x in
      set ∙ sym (last_put rest x e i (length (rest ++ x ∷ []) - 1) within (omega (arith, more))) ∙ sym (ap (λ l. swap_remove l i e) parts)

  -- or goes itself
  pub item_popped : (was rest : List X) (x : X) (i : ℕ) → was ≡ rest ++ x ∷ [] → i ≡ length rest → (e : X) → slice_get was i ≡ Some e
      → rest ≡ swap_remove was i e
  item_popped was rest x i parts at_last e _ = rw (parts, at_last) (sym (swap_last rest x e))

module _ {X Y : Type 0} (f : Y → ℕ) (g : X → Y) where
  pub sum_of_map : (xs : List X) → sum_by f (map g xs) ≡ sum_by (λ x. f (g x)) xs
  sum_of_map [] = refl
  sum_of_map (x ∷ xs) = let next = sum_of_map xs in rw (sum_by-cons f (g x) (map g xs), sum_by-cons (λ y. f (g y)) x xs, next) refl
