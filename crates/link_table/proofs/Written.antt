-- What a write to the row of a point leaves.
use Rattle.std.proofs.Common.{◌≡◌, ◌≢◌, ◌∙◌, ℕ, ◌<◌, List, [], ◌∷◌, ◌++◌, length, refl, ap, sym, inl, inr, arith}
use Rattle.std.specs.Prelude.{Option, Some, None, slice_get, slice_set, swap_remove}
use Rattle.std.specs.List.{refill}
use Rattle.std.proofs.lemmas.List.{length-set}
use Rattle.smallvec.specs.SmallVec.{SmallVec}
use Rattle.inc_value.specs.declared.node.Point.{Point}
use Rattle.point_map.specs.Rows.{Rows, at, Changes, Holds}
use Rattle.point_map.proofs.Places.{point_cases}
use Rattle.link_table.specs.declared.ends.End.{End}
use Rattle.link_table.specs.declared.ends.EndLists.{EndLists}
use Rattle.link_table.proofs.Lists.{get_append_last, swap_last}
use Rattle.link_table.specs.Ends.{row_ends, ends_at, HasNoEmptyRow, KeepsEnds, OneEndMore, EndIsSet, EndIsTaken, PlaceIsTaken, ItemIsTaken}

module _ {X : Type 0} where
  -- a list as long as the one that it is put over stays as it is
  pub refill_all : (xs ws : List X) → length ws ≡ length xs → refill (length xs) xs ws ≡ ws
  refill_all [] [] h = refl
  refill_all [] (w ∷ ws) h = absurd (omega (arith, h))
  refill_all (x ∷ xs) [] h = absurd (omega (arith, h))
  refill_all (x ∷ xs) (w ∷ ws) h = ap (λ l. w ∷ l) (refill_all xs ws (omega (arith, h)))

-- the ends of the written row are those of the point
pub ends_written : (old new : EndLists) (p : Point) (row : SmallVec End) → Changes old.rows new.rows p (Some row) → ends_at new p ≡ row.items
ends_written old new p row c = ap row_ends c.changed

pub ends_kept : (old new : EndLists) (p : Point) (row : Option (SmallVec End)) → Changes old.rows new.rows p row
    → (x : Point) → x ≢ p → ends_at new x ≡ ends_at old x
ends_kept old new p row c x other = ap row_ends (c.others x other)

-- the row of a point that has one
pub ends_of_row : (l : EndLists) (p : Point) (row : SmallVec End) → Some row ≡ at l.rows p → ends_at l p ≡ row.items
ends_of_row l p row h = ap row_ends (sym h)

pub end_is_set : (old new : EndLists) (p : Point) (i : ℕ) (e : End) (was row : SmallVec End) → Some was ≡ at old.rows p
    → Changes old.rows new.rows p (Some row) → row.items ≡ refill (length was.items) was.items (slice_set was.items i e) → EndIsSet old new p i e
end_is_set old new p i e was row there c items = record {
  changed = let full = refill_all was.items (slice_set was.items i e) (length-set was.items i e) in
      rw (ends_written old new p row c, ends_of_row old p was there, items) full;
  others = ends_kept old new p (Some row) c;
}

pub one_end_more : (old new : EndLists) (p : Point) (e : End) (was row : SmallVec End) → Some was ≡ at old.rows p
    → Changes old.rows new.rows p (Some row) → row.items ≡ was.items ++ e ∷ [] → OneEndMore old new p e
one_end_more old new p e was row there c items = record {
  last = rw (ends_written old new p row c, ends_of_row old p was there) items;
  others = ends_kept old new p (Some row) c;
}

-- the ends of one point are these now
pub record AreWritten (old new : EndLists) (p : Point) (ends : List End) : Type 0 where
  pub here : ends_at new p ≡ ends
  pub others : (x : Point) → x ≢ p → ends_at new x ≡ ends_at old x

-- a row was written, and stays
pub open_written : (old new : EndLists) (p : Point) (row : SmallVec End) → Changes old.rows new.rows p (Some row) → AreWritten old new p row.items
open_written old new p row c = record { here = ends_written old new p row c; others = ends_kept old new p (Some row) c }

-- a row was written, and taken off as it was empty
pub closed_written : (old new : EndLists) (mid : Rows (SmallVec End)) (p : Point) (row : SmallVec End) → Changes old.rows mid p (Some row)
    → Changes mid new.rows p None → row.items ≡ [] → AreWritten old new p row.items
closed_written old new mid p row written gone none = record {
  here = ap row_ends gone.changed ∙ sym none;
  others = λ x other. ap row_ends (gone.others x other ∙ written.others x other);
}

-- the last end taken off
pub last_is_taken : (old new : EndLists) (p : Point) (e : End) (rest : List End) → ends_at old p ≡ rest ++ e ∷ [] → AreWritten old new p rest
    → EndIsTaken old new p (length (ends_at new p)) e
last_is_taken old new p e rest was now = record {
  was = rw (was, now.here) (get_append_last rest e);
  changed = rw (was, now.here) (sym (swap_last rest e e));
  others = now.others;
}

-- the end at a place taken off
pub place_is_taken : (old new : EndLists) (p : Point) (i : ℕ) (was : SmallVec End) (ends : List End) → Some was ≡ at old.rows p
    → AreWritten old new p ends → ItemIsTaken was.items ends i → PlaceIsTaken old new p i
place_is_taken old new p i was ends there now taken e stood =
    let row = ends_of_row old p was there in record {
      was = stood;
      changed = now.here ∙ taken e (sym (ap (λ l. slice_get l i) row) ∙ stood) ∙ sym (ap (λ l. swap_remove l i e) row);
      others = now.others;
    }

pub ends_unwritten : (old new : EndLists) (p : Point) (was row : SmallVec End) → Some was ≡ at old.rows p
    → Changes old.rows new.rows p (Some row) → row ≡ was → KeepsEnds old new
ends_unwritten old new p was row there c same x = elim (point_cases x p) [
  | inl at_p ↦ rw (at_p, ends_written old new p row c, ends_of_row old p was there, same) refl
  | inr other ↦ ends_kept old new p (Some row) c x other
]

-- a point with a row is there
pub is_held : (m : Rows (SmallVec End)) (p : Point) (row : SmallVec End) → at m p ≡ Some row → Holds m p
is_held m p row h = rw h refl

-- a written row that is not empty
pub tight_written : (old new : EndLists) (p : Point) (row : SmallVec End) → Changes old.rows new.rows p (Some row) → 0 < length row.items
    → HasNoEmptyRow old → HasNoEmptyRow new
tight_written old new p row c some tight x none = elim (point_cases x p) [
  | inl at_p ↦ let e = rw (at_p, ends_written old new p row c) at none in let l = ap length e in absurd (omega (arith, l, some))
  | inr other ↦ let before = tight x (sym (ends_kept old new p (Some row) c x other) ∙ none) in c.others x other ∙ before
]

-- a row that is written as it was
pub tight_kept : (old new : EndLists) (p : Point) (was row : SmallVec End) → Some was ≡ at old.rows p → Changes old.rows new.rows p (Some row)
    → row ≡ was → HasNoEmptyRow old → HasNoEmptyRow new
tight_kept old new p was row there c same tight x none = elim (point_cases x p) [
  | inl at_p ↦ let e = rw at_p at none in
      let before = tight p (ends_of_row old p was there ∙ (rw (← same) (sym (ends_written old new p row c) ∙ e))) in
      absurd (let f = there ∙ before in cc)
  | inr other ↦ let before = tight x (sym (ends_kept old new p (Some row) c x other) ∙ none) in c.others x other ∙ before
]

-- a row in which an end is set has ends
pub set_row_some : (old : EndLists) (p : Point) (i : ℕ) (e : End) (was row : SmallVec End) → Some was ≡ at old.rows p
    → row.items ≡ refill (length was.items) was.items (slice_set was.items i e) → i < length (ends_at old p) → 0 < length row.items
set_row_some old p i e was row there items within =
    let full = items ∙ refill_all was.items (slice_set was.items i e) (length-set was.items i e) in
    let l = ap length full in let k = length-set was.items i e in let w = ap length (ends_of_row old p was there) in
    omega (arith, l, k, w, within)

-- the row of one point was written, and then taken off
pub gone_tight : (old new : EndLists) (mid : Rows (SmallVec End)) (p : Point) (row : Option (SmallVec End)) → Changes old.rows mid p row
    → Changes mid new.rows p None → HasNoEmptyRow old → HasNoEmptyRow new
gone_tight old new mid p row written gone tight x none = elim (point_cases x p) [
  | inl at_p ↦ rw at_p gone.changed
  | inr other ↦
      let same = gone.others x other ∙ written.others x other in
      same ∙ tight x (sym (ap row_ends same) ∙ none)
]
