-- Points that are moved from buckets to others, one after the other.
use Rattle.std.proofs.Common.{◌≡◌, ◌∙◌, ◌⊎◌, ℕ, ◌+◌, ◌≤◌, ap, sym, subst, inl, inr, arith}
use Rattle.std.specs.Prelude.{Option, Some, None}
use Rattle.std.proofs.lemmas.Bool.{cases_eq}
use Rattle.std.proofs.lemmas.Nat.{mod_below}
use Rattle.inc_value.specs.declared.node.Point.{Point}
use Rattle.point_map.specs.Rows.{row_in, Changes}
use Rattle.point_map.specs.Buckets.{Kept, Buckets, kept_at, kept_count, KeptChanges}
use Rattle.point_map.specs.BySlot.{places_of, rows_of, IsBySlot}
use Rattle.point_map.proofs.Places.{point_cases, row_once}
use Rattle.point_map.proofs.KeptPlaces.{stands, slot_off, none_counted, absent_everywhere, no_some}

module _ {R : Type 0} where
  -- a row is still where it was, or it is moved
  abbrev pub IsSplit : Option R → Option R → Option R → Type 0
  IsSplit all from to = ((from ≡ all) × (to ≡ None)) ⊎ ((from ≡ None) × (to ≡ all))

  -- some of all points are moved, into so much room
  pub record Moving (all from to : Buckets R) (room : ℕ) : Type 0 where
    pub from_by_slot : IsBySlot from
    pub to_by_slot : IsBySlot to
    pub split : (p : Point) → IsSplit (row_in (places_of all.kept) p) (row_in (places_of from.kept) p) (row_in (places_of to.kept) p)
    pub count : kept_count from + kept_count to ≡ kept_count all
    pub spare : to.spare + kept_count to ≡ room

  -- no bucket below the bound has a point
  abbrev pub EmptyBelow : Buckets R → ℕ → Type 0
  EmptyBelow b bound = (i : ℕ) (k : Kept R) → kept_at b i ≡ Some k → bound ≤ k.bucket

  not_there : (all from to : Option R) (row : R) → IsSplit all from to → from ≡ Some row → (from ≡ all) × (to ≡ None)
  not_there all from to row (inl h) there = h
  not_there all from to row (inr h) there = absurd (no_some row (sym h.0 ∙ there))

  at_point : (b : Buckets R) (i : ℕ) (k : Kept R) → IsBySlot b → kept_at b i ≡ Some k → row_in (places_of b.kept) k.point ≡ Some k.row
  at_point b i k by_slot there = row_once (places_of b.kept) i k.point k.row by_slot.once (stands b i k there)

  -- a point that is still to be moved is not there yet
  pub moving_absent : (all from to : Buckets R) (room i : ℕ) (k : Kept R) → Moving all from to room → kept_at from i ≡ Some k
      → row_in (places_of to.kept) k.point ≡ None
  moving_absent all from to room i k moving there =
      (not_there (row_in (places_of all.kept) k.point) (row_in (places_of from.kept) k.point) (row_in (places_of to.kept) k.point) k.row
      (moving.split k.point) (at_point from i k moving.from_by_slot there)).1

  -- one more point is moved
  pub moving_step : (all from left to more : Buckets R) (room i : ℕ) (k : Kept R) → Moving all from to room
      → kept_at from i ≡ Some k → KeptChanges from left i None → left.width ≡ from.width → kept_count left + 1 ≡ kept_count from
      → IsBySlot more → Changes (rows_of to) (rows_of more) k.point (Some k.row) → kept_count more ≡ kept_count to + 1
      → more.spare + 1 ≡ to.spare → Moving all left more room
  moving_step all from left to more room i k moving there off width one_off by_slot put one_more one_spare =
      let gone = slot_off from left i k moving.from_by_slot there off width in
      let was = not_there (row_in (places_of all.kept) k.point) (row_in (places_of from.kept) k.point) (row_in (places_of to.kept) k.point) k.row
      (moving.split k.point) (at_point from i k moving.from_by_slot there) in
      record {
        from_by_slot = gone.by_slot;
        to_by_slot = by_slot;
        split = λ q. elim (point_cases q k.point) [
          | inl same ↦ subst (λ x. IsSplit (row_in (places_of all.kept) x) (row_in (places_of left.kept) x) (row_in (places_of more.kept) x))
              (sym same)
              (inr (gone.changed, put.changed ∙ sym (at_point from i k moving.from_by_slot there) ∙ was.0))
          | inr differs ↦ subst (λ x. IsSplit (row_in (places_of all.kept) q) (row_in (places_of left.kept) q) x) (sym (put.others q differs))
              (subst (λ x. IsSplit (row_in (places_of all.kept) q) x (row_in (places_of to.kept) q)) (sym (gone.others q differs))
              (moving.split q))
        ];
        count = let c = moving.count in omega (arith, c, one_off, one_more);
        spare = let s = moving.spare in omega (arith, s, one_more, one_spare);
      }

  -- what is left of empty buckets is empty
  pub below_step : (from left : Buckets R) (i bound : ℕ) → EmptyBelow from bound → KeptChanges from left i None → EmptyBelow left bound
  below_step from left i bound empty off j k there =
      elim (cases_eq j i) [
        | inl same ↦ absurd (no_some k (sym off.changed ∙ ap (kept_at left) (sym same) ∙ there))
        | inr differs ↦ empty j k (sym (off.others j differs) ∙ there)
      ]

  -- every bucket is empty
  pub below_all : (from : Buckets R) (bound : ℕ) → EmptyBelow from bound → from.width ≤ bound → EmptyBelow from from.width
  below_all from bound empty wide i k there = let high = empty i k there in omega (arith, high, wide)

  none_left : (from : Buckets R) → IsBySlot from → EmptyBelow from from.width → (i : ℕ) (k : Kept R) → kept_at from i ≡ Some k → ⊥
  none_left from by_slot empty i k there =
      let own = by_slot.own i k there in
      let high = empty i k there in
      let low = mod_below k.point.node.slot from.width own.wide in
      let is = own.own in absurd (omega (arith, high, low, is))

  moved_all : (all from to : Option R) → IsSplit all from to → from ≡ None → to ≡ all
  moved_all all from to (inl h) none = h.1 ∙ sym none ∙ h.0
  moved_all all from to (inr h) none = h.1

  -- where no bucket has a point left, each point is moved
  pub moving_rows : (all from to : Buckets R) (room : ℕ) → Moving all from to room → EmptyBelow from from.width
      → (p : Point) → row_in (places_of to.kept) p ≡ row_in (places_of all.kept) p
  moving_rows all from to room moving empty p =
      moved_all (row_in (places_of all.kept) p) (row_in (places_of from.kept) p) (row_in (places_of to.kept) p) (moving.split p)
      (absent_everywhere from p (none_left from moving.from_by_slot empty))

  pub moving_count : (all from to : Buckets R) (room : ℕ) → Moving all from to room → EmptyBelow from from.width → kept_count to ≡ kept_count all
  moving_count all from to room moving empty =
      let none = none_counted from.kept (none_left from moving.from_by_slot empty) in
      let c = moving.count in omega (arith, none, c)
