-- How the points of a row map are numbered: each by the place of its row.
use Rattle.std.specs.Prelude.{◌≡◌, ℕ, List, Option, Some, map, option_map}
use Rattle.inc_value.specs.declared.node.Point.{Point}
use Rattle.point_map.specs.Rows.{Rows, at, standing}
use Rattle.row_map.specs.declared.Entry.{Entry}

module _ {R : Type 0} where
  -- an entry's point with its row
  abbrev pub pair_of : Entry R → Point × R
  pair_of e = (e.point, e.row)

  -- the map of what is in some slots
  abbrev pub rows_of : List (Option (Entry R)) → Rows R
  rows_of slots = record { places = map (option_map pair_of) slots; spare = 0 }

  -- the point stands at the place, with some row
  abbrev pub StandsAt : Rows R → Point → ℕ → Type 0
  StandsAt m p i = (row : R) × (standing m i ≡ Some (p, row))

  -- the number of a point is the place at which it stands
  pub record IsNumbered (numbers : Rows ℕ) (m : Rows R) : Type 0 where
    pub stands : (p : Point) (i : ℕ) → at numbers p ≡ Some i → StandsAt m p i
    pub number : (p : Point) (i : ℕ) (row : R) → standing m i ≡ Some (p, row) → at numbers p ≡ Some i
