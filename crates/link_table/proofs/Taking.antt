-- What taking an end off leaves at its point: each other end at its place, but the last, which stands where the end was.
use Rattle.std.proofs.Common.{◌≡◌, ◌≢◌, ◌∙◌, inl, inr, ℕ, zero, suc, ◌+◌, ◌-◌, ◌<◌, List, [], ◌∷◌, length, take, swap_remove, refl, ap, sym, arith}
use Rattle.std.specs.Prelude.{Option, None, Some, IfSome, IfNone, slice_get, slice_set, slice_index_or}
use Rattle.std.proofs.lemmas.Bool.{cases_eq}
use Rattle.std.proofs.lemmas.List.{length-set, length-take-le}
use Rattle.std.proofs.lemmas.List.Sums.{sum_by-swap_remove}
use Rattle.std.proofs.lemmas.Option.{slice_get_within, slice_get-get_or, get_or_from_slice_get}
use Rattle.inc_value.specs.declared.node.Point.{Point}
use Rattle.point_map.proofs.Places.{same_point_self, point_cases}
use Rattle.link_table.specs.declared.ends.End.{End}
use Rattle.link_table.specs.declared.ends.EndLists.{EndLists}
use Rattle.link_table.specs.Ends.{end, ends_at, end_at, ends_with, EndIsTaken, PlaceIsTaken, LastIsKnown, OneEndMore, OneEndMoreWith, KeepsEnds}
use Rattle.link_table.proofs.Lists.{get_set_same, get_set_other, length_more, other_point, swap_last}
use Rattle.link_table.proofs.Places.{hits, ends_with_is}

module _ {X : Type 0} where
  get_take : (xs : List X) (m k : ℕ) → k < m → slice_get (take m xs) k ≡ slice_get xs k
  get_take xs zero k h = absurd (omega (arith, h))
  get_take [] (suc m) k h = refl
  get_take (x ∷ xs) (suc m) zero h = refl
  get_take (x ∷ xs) (suc m) (suc k) h = get_take xs m k (omega (arith, h))

module _ {X : Type 0} (xs : List X) (i : ℕ) (d : X) where
  swapped_length : i < length xs → length (swap_remove xs i d) + 1 ≡ length xs
  swapped_length h =
      let set = length-set xs i (slice_index_or xs (length xs - 1) d) in
      let cut = length-take-le (length xs - 1) (slice_set xs i (slice_index_or xs (length xs - 1) d)) (omega (arith, set)) in
      omega (arith, cut, h)

  swapped_here : i < length xs - 1 → slice_get (swap_remove xs i d) i ≡ slice_get xs (length xs - 1)
  swapped_here h =
      get_take (slice_set xs i (slice_index_or xs (length xs - 1) d)) (length xs - 1) i h
      ∙ get_set_same xs i (slice_index_or xs (length xs - 1) d) (omega (arith, h))
      ∙ sym (slice_get-get_or xs (length xs - 1) d (omega (arith, h)))

  swapped_other : (k : ℕ) → k < length xs - 1 → k ≢ i → slice_get (swap_remove xs i d) k ≡ slice_get xs k
  swapped_other k h other =
      get_take (slice_set xs i (slice_index_or xs (length xs - 1) d)) (length xs - 1) k h
      ∙ get_set_other xs i k (slice_index_or xs (length xs - 1) d) other

module _ (a a' : EndLists) (p : Point) (i : ℕ) (e : End) (t : EndIsTaken a a' p i e) where
  pub taken_within : i < length (ends_at a p)
  taken_within = slice_get_within (ends_at a p) i e t.was

  taken_length : length (ends_at a' p) + 1 ≡ length (ends_at a p)
  taken_length = ap (λ l. length l + 1) t.changed ∙ swapped_length (ends_at a p) i e taken_within

  -- the end that stands in the place now was the last
  pub taken_moved : (d : End) → end_at a' p i ≡ Some d → end_at a p (length (ends_at a p) - 1) ≡ Some d
  taken_moved d now =
      let within = slice_get_within (ends_at a' p) i d now in let len = taken_length in
      sym (swapped_here (ends_at a p) i e (omega (arith, within, len))) ∙ sym (ap (λ l. slice_get l i) t.changed) ∙ now

  -- none stands in the last place any more
  pub taken_apart : (k : ℕ) (d : End) → end_at a' p k ≡ Some d → k ≢ length (ends_at a p) - 1
  taken_apart k d now same =
      let within = slice_get_within (ends_at a' p) k d now in let len = taken_length in omega (arith, within, len, same)

  -- where none stands there now, the end was the last itself
  pub taken_last : end_at a' p i ≡ None → i ≡ length (ends_at a p) - 1
  taken_last none = elim (cases_eq i (length (ends_at a p) - 1)) [
    | inl same ↦ same
    | inr other ↦
        let within = taken_within in
        let here = swapped_here (ends_at a p) i e (omega (arith, within, other)) in
        let was = slice_get-get_or (ends_at a p) (length (ends_at a p) - 1) e (omega (arith, within)) in
        absurd (let found = sym none ∙ ap (λ l. slice_get l i) t.changed ∙ here ∙ was in cc)
  ]

  -- an end at another place stood there before
  pub taken_before : (x : Point) (k : ℕ) (d : End) → (x ≡ p → k ≡ i → ⊥) → end_at a' x k ≡ Some d → end_at a x k ≡ Some d
  taken_before x k d other now = elim (point_cases x p) [
    | inl same ↦
        let here = rw same at now in
        let within = slice_get_within (ends_at a' p) k d here in let len = taken_length in
        rw same (sym (swapped_other (ends_at a p) i e k (omega (arith, within, len)) (other same)) ∙ sym (ap (λ l. slice_get l k) t.changed) ∙ here)
    | inr differs ↦ sym (ap (λ l. slice_get l k) (t.others x differs)) ∙ now
  ]

  -- and one that was neither here nor the last still stands there
  pub taken_after : (x : Point) (k : ℕ) (d : End) → (x ≡ p → k ≡ i → ⊥) → (x ≡ p → k ≡ length (ends_at a p) - 1 → ⊥)
      → end_at a x k ≡ Some d → end_at a' x k ≡ Some d
  taken_after x k d not_here not_last was = elim (point_cases x p) [
    | inl same ↦
        let there = rw same at was in
        let within = slice_get_within (ends_at a p) k d there in
        let apart : k ≢ length (ends_at a p) - 1 = not_last same in
        let below : k < length (ends_at a p) - 1 = omega (arith, within, apart) in
        rw same (ap (λ l. slice_get l k) t.changed ∙ swapped_other (ends_at a p) i e k below (not_here same) ∙ there)
    | inr differs ↦ ap (λ l. slice_get l k) (t.others x differs) ∙ was
  ]

  taken_counts : (y : Point) → ends_with (ends_at a' p) y + hits y e ≡ ends_with (ends_at a p) y
  taken_counts y =
      let read = get_or_from_slice_get (ends_at a p) i e e t.was in
      let sum = rw read at (sum_by-swap_remove (hits y) (ends_at a p) i e taken_within) in
      rw (ends_with_is (ends_at a' p) y, ends_with_is (ends_at a p) y, t.changed) sum

  pub taken_with : OneEndMoreWith a' a p e.point
  taken_with = record {
    raised = let sum = taken_counts e.point in
        let hit : hits e.point e ≡ 1 = rw (same_point_self e.point) refl in omega (arith, sum, hit);
    others = λ x y other. elim (point_cases x p) [
      | inl same ↦ let differs = other_point y e.point (λ h. other (rw (same, h) refl)) in
          let miss : hits y e ≡ 0 = rw differs refl in let sum = taken_counts y in rw same (omega (arith, sum, miss))
      | inr differs ↦ ap (λ l. ends_with l y) (sym (t.others x differs))
    ];
  }

-- an end put behind the others and taken off again
put_and_taken : (old more new : EndLists) (p : Point) (i : ℕ) (e f : End) → OneEndMore old more p e → i ≡ length (ends_at old p)
    → EndIsTaken more new p i f → KeepsEnds old new
put_and_taken old more new p i e f put last t x = elim (point_cases x p) [
  | inl same ↦ rw same (t.changed ∙ (rw (put.last, last) (swap_last (ends_at old p) e f)))
  | inr other ↦ t.others x other ∙ put.others x other
]

pub put_and_popped : (old more new : EndLists) (p : Point) (e : End) → OneEndMore old more p e → (o : Option End)
    → IfSome o (λ f. EndIsTaken more new p (length (ends_at new p)) f) → IfNone o (ends_at more p ≡ []) → KeepsEnds old new
put_and_popped old more new p e put None t none x =
    absurd (let len = length_more (ends_at old p) e in let l = ap length (sym put.last ∙ none) in omega (arith, len, l))
put_and_popped old more new p e put (Some f) t none x =
    let fewer = taken_length more new p (length (ends_at new p)) f t in
    let len = ap length put.last ∙ length_more (ends_at old p) e in
    put_and_taken old more new p (length (ends_at new p)) e f put (omega (arith, fewer, len)) t x

-- the end that stands in the place now has its other end where that is known
pub moved_within : (side new other : EndLists) (p : Point) (i : ℕ) → i < length (ends_at side p) → PlaceIsTaken side new p i → LastIsKnown side other p i
    → (m : End) → end_at new p i ≡ Some m → m.back < length (ends_at other m.point)
moved_within side new other p i within taken known m now =
    let e = slice_index_or (ends_at side p) i (end p i) in
    let t = taken e (slice_get-get_or (ends_at side p) i (end p i) within) in
    let there = known m (taken_apart side new p i e t i m now) (taken_moved side new p i e t m now) in
    slice_get_within (ends_at other m.point) m.back (end p (length (ends_at side p) - 1)) there
