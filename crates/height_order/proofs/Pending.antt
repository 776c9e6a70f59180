-- How many points a climb may still come to.
use Rattle.std.proofs.Common.{◌≡◌, ◌≢◌, ◌∙◌, ℕ, zero, suc, ◌<◌, ◌≤◌, Bool, true, false, cond, List, [], ◌∷◌, length, refl, ap, inl, inr, arith, is_some}
use Rattle.std.specs.Prelude.{◌⊎◌, Option, Some, None, IsSome, slice_index_or, count_by}
use Rattle.std.proofs.lemmas.List.Sums.{sum_by-cons}
use Rattle.std.proofs.lemmas.List.{get_or_past}
use Rattle.inc_value.specs.declared.node.Point.{Point}
use Rattle.point_map.specs.Rows.{Rows, Place, at, Holds, Changes}
use Rattle.point_map.proofs.Places.{point_cases, row_found}
use Rattle.height_order.specs.declared.lifts.Lift.{Lift}
use Rattle.height_order.specs.Climbs.{IsDone, KeepsDone}
use Rattle.height_order.proofs.Points.{row_there}

-- not lifted, or in the queue
abbrev pub waits : Bool → Bool → Bool
waits lifted true = true
waits true false = false
waits false false = true

-- the point that stands at the place isn't done
abbrev pub is_pending : Rows Lift → Rows ℕ → Place ℕ → Bool
is_pending lifts queue None = false
is_pending lifts queue (Some e) = waits (is_some (at lifts e.0)) (is_some (at queue e.0))

-- how many points aren't done
abbrev pub pending : Rows ℕ → Rows Lift → Rows ℕ → ℕ
pending heights lifts queue = count_by (is_pending lifts queue) heights.places

module _ {X : Type 0} (f g : X → Bool) (fewer : (x : X) → g x ≡ true → f x ≡ true) where
  one_le : (a b : Bool) → (b ≡ true → a ≡ true) → cond b 1 0 ≤ cond a 1 0
  one_le true true h = omega arith
  one_le true false h = omega arith
  one_le false false h = omega arith
  one_le false true h = absurd (let e = h refl in cc)

  count_le : (xs : List X) → count_by g xs ≤ count_by f xs
  count_le [] = omega arith
  count_le (x ∷ xs) =
      let a = sum_by-cons (λ y. cond (g y) 1 0) x xs in
      let b = sum_by-cons (λ y. cond (f y) 1 0) x xs in
      let c = one_le (f x) (g x) (fewer x) in
      let d = count_le xs in omega (arith, a, b, c, d)

  -- fewer pass the test where one more fails it
  pub count_less : (xs : List X) (i : ℕ) (x : X) → i < length xs → slice_index_or xs i x ≡ x → f x ≡ true → g x ≡ false → count_by g xs < count_by f xs
  count_less [] i x less at_i was is = absurd (omega (arith, less))
  count_less (y ∷ xs) zero x less at_i was is =
      let a = sum_by-cons (λ z. cond (g z) 1 0) y xs in
      let b = sum_by-cons (λ z. cond (f z) 1 0) y xs in
      let c : ◌≡◌ {A = ℕ} (cond (g y) 1 0) 0 = ap (λ z. cond (g z) 1 0) at_i ∙ ap (λ z. cond z 1 0) is in
      let d : ◌≡◌ {A = ℕ} (cond (f y) 1 0) 1 = ap (λ z. cond (f z) 1 0) at_i ∙ ap (λ z. cond z 1 0) was in
      let e = count_le xs in omega (arith, a, b, c, d, e)
  count_less (y ∷ xs) (suc i) x less at_i was is =
      let a = sum_by-cons (λ z. cond (g z) 1 0) y xs in
      let b = sum_by-cons (λ z. cond (f z) 1 0) y xs in
      let c = one_le (f y) (g y) (fewer y) in
      let d = count_less xs i x (omega (arith, less)) at_i was is in omega (arith, a, b, c, d)

module _ (lifts : Rows Lift) (queue : Rows ℕ) where
  waits_by : (a : Option Lift) (b : Option ℕ) → waits (is_some a) (is_some b) ≡ false → IsSome a × (b ≡ None)
  waits_by None None h = absurd (let e = h in cc)
  waits_by (Some l) None h = (refl, refl)
  waits_by None (Some k) h = absurd (let e = h in cc)
  waits_by (Some l) (Some k) h = absurd (let e = h in cc)

  -- what isn't pending is done
  done_if : (y : Point) → waits (is_some (at lifts y)) (is_some (at queue y)) ≡ false → IsDone lifts queue y
  done_if y h = let w = waits_by (at lifts y) (at queue y) h in record { lifted = w.0; out = w.1 }

  not_waits : (a : Option Lift) (b : Option ℕ) → IsSome a → b ≡ None → waits (is_some a) (is_some b) ≡ false
  not_waits None None h e = absurd (let f = h in cc)
  not_waits (Some l) None h e = refl
  not_waits a (Some k) h e = absurd (let f = e in cc)

  pub not_pending : (y : Point) → IsDone lifts queue y → waits (is_some (at lifts y)) (is_some (at queue y)) ≡ false
  not_pending y d = not_waits (at lifts y) (at queue y) d.lifted d.out

  in_queue : (a : Bool) (b : Option ℕ) → IsSome b → waits a (is_some b) ≡ true
  in_queue a None h = absurd (let e = h in cc)
  in_queue a (Some k) h = refl

  pub queued_pending : (y : Point) → Holds queue y → waits (is_some (at lifts y)) (is_some (at queue y)) ≡ true
  queued_pending y there = in_queue (is_some (at lifts y)) (at queue y) there

true_or_false : (b : Bool) → (b ≡ true) ⊎ (b ≡ false)
true_or_false true = inl refl
true_or_false false = inr refl

module _ (lifts lifts_new : Rows Lift) (queue queue_new : Rows ℕ) (kept : KeepsDone lifts lifts_new queue queue_new) where
  fewer_by : (e : Point × ℕ) → is_pending lifts_new queue_new (Some e) ≡ true
      → (waits (is_some (at lifts e.0)) (is_some (at queue e.0)) ≡ true) ⊎ (waits (is_some (at lifts e.0)) (is_some (at queue e.0)) ≡ false)
      → is_pending lifts queue (Some e) ≡ true
  fewer_by e now (inl h) = h
  fewer_by e now (inr h) =
      let d = not_pending lifts_new queue_new e.0 (kept e.0 (done_if lifts queue e.0 h)) in absurd (let f = now in cc)

  fewer : (e : Place ℕ) → is_pending lifts_new queue_new e ≡ true → is_pending lifts queue e ≡ true
  fewer None h = h
  fewer (Some e) h = fewer_by e h (true_or_false (waits (is_some (at lifts e.0)) (is_some (at queue e.0))))

  -- a point more is done
  pub pending_less : (heights : Rows ℕ) (x : Point) → Holds heights x → Holds queue x → IsDone lifts_new queue_new x
      → pending heights lifts_new queue_new < pending heights lifts queue
  pending_less heights x there waiting done =
      let r = row_there heights x there in
      let f = row_found heights.places x r.0 r.1 in
      let g = f.1 in
      count_less (is_pending lifts queue) (is_pending lifts_new queue_new) fewer heights.places f.0 (Some (x, r.0))
      (grind (arith, get_or_past, g)) (at_itself heights.places f.0 (x, r.0) f.1) (queued_pending lifts queue x waiting) (not_pending lifts_new queue_new x done)
    where
      at_itself : (places : List (Place ℕ)) (i : ℕ) (e : Point × ℕ) → slice_index_or places i None ≡ Some e → slice_index_or places i (Some e) ≡ Some e
      at_itself [] i e h = refl
      at_itself (y ∷ ys) zero e h = h
      at_itself (y ∷ ys) (suc i) e h = at_itself ys i e h

-- what was done is done when another point leaves the queue
pub pop_keeps : (lifts : Rows Lift) (queue queue_new : Rows ℕ) (x : Point) → Changes queue queue_new x None → KeepsDone lifts lifts queue queue_new
pop_keeps lifts queue queue_new x out y d = record { lifted = d.lifted; out = out_by (point_cases y x) }
  where
    out_by : (y ≡ x) ⊎ (y ≢ x) → at queue_new y ≡ None
    out_by (inl e) = ap (at queue_new) e ∙ out.changed
    out_by (inr differs) = out.others y differs ∙ d.out
