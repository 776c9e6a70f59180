-- What a row that is written leaves.
use Rattle.std.proofs.Common.{◌≡◌, ◌≢◌, ◌∙◌, inl, inr, ℕ, List, [], refl, ap, sym}
use Rattle.std.specs.Prelude.{Option, Some, None, flat_map, option_and_then, is_some}
use Rattle.std.proofs.lemmas.Bool.{cases_eq}
use Rattle.inc_value.specs.declared.node.Point.{Point}
use Rattle.point_map.specs.Rows.{Rows, Place, at, standing, Holds, Changes, StandsOnce}
use Rattle.point_map.proofs.Places.{point_cases, row_once, row_replaced}
use Rattle.row_map.specs.Turns.{PlaceTurns, IsRewritten}
use Rattle.row_map.proofs.Walks.{flat_map_agrees}
use Rattle.link_table.specs.Ends.{row_ends}
use Rattle.link_table.proofs.Written.{AreWritten}
use Rattle.point_rows.specs.declared.row.Row.{Row}
use Rattle.point_rows.specs.declared.row.Side.{Side}
use Rattle.point_rows.specs.declared.row.Side.TheVariants.{Kids, Readers}
use Rattle.point_rows.specs.Cells.{placed, cell, height_in, above_zero, roots_in, read_in, side_ends, side_in, beyond, link_cell, heights_of, roots_of, links_of, read_of, side_of, place_of}
use Rattle.point_rows.specs.Written.{KeepsBeyond, KeepsRest, IsPlaced}
use Rattle.point_rows.proofs.Cells.{ends_is, at_cells}

-- where one place turns from one thing to another, of which the same is read, the same is read off all places
pub turned_cells : {A : Type 0} (g : Place Row → List A) → g None ≡ [] → (old new : Rows Row) (i : ℕ) (e : Place Row) → PlaceTurns old new i e
    → g e ≡ g (standing old i) → flat_map g new.places ≡ flat_map g old.places
turned_cells g none old new i e turns same =
    flat_map_agrees g none new.places old.places (λ j. elim (cases_eq j i) [
      | inl at_i ↦ rw at_i (ap g turns.changed ∙ same)
      | inr other ↦ ap g (turns.others j other)
    ])

-- one row is another now, where no point has two
pub record IsWritten (old new : Rows Row) (p : Point) (was row : Row) : Type 0 where
  pub place : ℕ
  pub there : standing old place ≡ Some (p, was)
  pub turns : PlaceTurns old new place (Some (p, row))
  pub changes : Changes old new p (Some row)
  pub was_at : at old p ≡ Some was
  pub once : StandsOnce old.places
  pub once_new : StandsOnce new.places

some_same : {A : Type 0} (a b : A) → Some a ≡ Some b → a ≡ b
some_same a b h = cc

pub written : (old new : Rows Row) (p : Point) (was row : Row) → StandsOnce old.places → Some was ≡ at old p → IsRewritten old new p row
    → IsWritten old new p was row
written old new p was row once value r =
    let found = row_once old.places r.place p r.was once r.there in
    let same = some_same was r.was (value ∙ found) in
    record {
      place = r.place;
      there = rw same r.there;
      turns = r.turns;
      changes = r.changes;
      was_at = sym value;
      once = once;
      once_new =
          (row_replaced old.places new.places r.place p r.was row once r.there
          (record { changed = r.turns.changed; others = r.turns.others })).once;
    }

module _ (old new : Rows Row) (p : Point) (was row : Row) (w : IsWritten old new p was row) where
  same_cells : {A : Type 0} (g : Place Row → List A) → g None ≡ [] → g (Some (p, row)) ≡ g (Some (p, was))
      → flat_map g new.places ≡ flat_map g old.places
  same_cells g none same = turned_cells g none old new w.place (Some (p, row)) w.turns (same ∙ sym (ap g w.there))

  same_cell : {A : Type 0} (f : Row → Option A) → f row ≡ f was → flat_map (cell f) new.places ≡ flat_map (cell f) old.places
  same_cell f same = same_cells (cell f) refl (ap (placed p) same)

  pub heights_same : row.height ≡ was.height → heights_of new ≡ heights_of old
  heights_same h = ap (λ places. record { places = places; spare = 0 }) (same_cell height_in (ap Some h))

  pub roots_same : row.roots ≡ was.roots → roots_of new ≡ roots_of old
  roots_same h = ap (λ places. record { counts = places }) (same_cell roots_in (ap above_zero h))

  pub read_same : row.readers ≡ was.readers → read_of new ≡ read_of old
  read_same h = ap (λ places. record { places = places; spare = 0 }) (same_cell read_in (ap (λ l. read_in (record row { readers = l })) h))

  pub links_same : row.kids ≡ was.kids → links_of new ≡ links_of old
  links_same h = ap (λ all. record { all = all }) (same_cells link_cell refl (ap (λ l. link_cell (Some (p, record row { kids = l }))) h))

  pub side_same : (s : Side) → side_ends s row ≡ side_ends s was → side_of s new ≡ side_of s old
  side_same s h = ap (λ places. record { rows = record { places = places; spare = 0 } }) (same_cell (side_in s) (ap Some h))

  pub place_here : place_of new p ≡ row.place
  place_here = ap (option_and_then (λ r. r.place)) w.changes.changed

  pub place_others : (x : Point) → x ≢ p → place_of new x ≡ place_of old x
  place_others x other = ap (option_and_then (λ r. r.place)) (w.changes.others x other)

  pub places_same : row.place ≡ was.place → (x : Point) → place_of new x ≡ place_of old x
  places_same h x = elim (point_cases x p) [
    | inl same ↦ rw same (place_here ∙ h ∙ sym (ap (option_and_then (λ (r : Row). r.place)) w.was_at))
    | inr other ↦ place_others x other
  ]

  pub points_same : (x : Point) → Holds old x → Holds new x
  points_same x h = elim (point_cases x p) [
    | inl same ↦ rw same (ap is_some w.changes.changed)
    | inr other ↦ ap is_some (w.changes.others x other) ∙ h
  ]

  -- the ends at one side are written, and nothing else
  module _ (s : Side) (kept : KeepsBeyond s was row) where
    pub rest_kept : KeepsRest old new
    rest_kept = record {
      heights = heights_same kept.height;
      roots = roots_same kept.roots;
      points = points_same;
      places = places_same kept.place;
    }

    pub beyond_kept : side_of (beyond s) new ≡ side_of (beyond s) old
    beyond_kept = side_same (beyond s) kept.ends

  pub row_at_side : (s : Side) → Some (side_ends s was) ≡ at (side_of s old).rows p
  row_at_side s = sym (at_cells (side_in s) old w.once p ∙ ap (option_and_then (side_in s)) w.was_at)

  pub side_written : (s : Side) → AreWritten (side_of s old) (side_of s new) p (side_ends s row).items
  side_written s = record {
    here = ends_is new w.once_new p s ∙ ap (λ o. row_ends (option_and_then (side_in s) o)) w.changes.changed;
    others = λ x other. ends_is new w.once_new x s ∙ ap (λ o. row_ends (option_and_then (side_in s) o)) (w.changes.others x other)
        ∙ sym (ends_is old w.once x s);
  }

  -- the place in the heap is written, and nothing else
  pub place_written : row.height ≡ was.height → row.roots ≡ was.roots → row.kids ≡ was.kids → row.readers ≡ was.readers
      → IsPlaced old new p row.place
  place_written height roots kids readers = record {
    here = place_here;
    others = place_others;
    keeps = record {
      heights = heights_same height;
      roots = roots_same roots;
      links = links_same kids;
      read = read_same readers;
      sides = λ s. side_same s (same_ends s);
    };
    once = w.once_new;
  }
    where
      same_ends : (s : Side) → side_ends s row ≡ side_ends s was
      same_ends Kids = kids
      same_ends Readers = readers
