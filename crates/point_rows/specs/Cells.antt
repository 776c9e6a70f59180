-- What is read off rows.
use Rattle.std.specs.Prelude.{ℕ, zero, suc, List, [], ◌∷◌, Option, Some, None, map, flat_map, option_and_then}
use Rattle.inc_value.specs.declared.node.Point.{Point}
use Rattle.smallvec.specs.SmallVec.{SmallVec}
use Rattle.point_map.specs.Rows.{Rows, Place, at}
use Rattle.link_table.specs.declared.link.Link.{Link}
use Rattle.link_table.specs.declared.ends.End.{End}
use Rattle.link_table.specs.declared.ends.EndLists.{EndLists}
use Rattle.link_table.specs.Links.{Links, link}
use Rattle.link_table.specs.Ends.{points}
use Rattle.necessity.specs.Need.{Roots}
use Rattle.point_rows.specs.declared.row.Row.{Row}
use Rattle.point_rows.specs.declared.row.Side.{Side}
use Rattle.point_rows.specs.declared.row.Side.TheVariants.{Kids, Readers}

module _ {A : Type 0} where
  -- a point with what its row gives, or nothing
  abbrev pub placed : Point → Option A → List (Place A)
  placed p None = []
  placed p (Some a) = Some (p, a) ∷ []

  -- what is read off a place
  abbrev pub cell : (Row → Option A) → Place Row → List (Place A)
  cell f None = []
  cell f (Some e) = placed e.0 (f e.1)

  -- what is read off all places: no place is empty, and a row that gives nothing has none
  abbrev pub cells : (Row → Option A) → Rows Row → Rows A
  cells f m = record { places = flat_map (cell f) m.places; spare = 0 }

-- the height of a row
abbrev pub height_in : Row → Option ℕ
height_in row = Some row.height

-- a count, if it isn't 0
abbrev pub above_zero : ℕ → Option ℕ
above_zero zero = None
above_zero (suc n) = Some (suc n)

-- how often the point of a row is a root, if it is one
abbrev pub roots_in : Row → Option ℕ
roots_in row = above_zero row.roots

-- a list, if it isn't empty
abbrev pub some_items : {A : Type 0} → List A → Option (List A)
some_items [] = None
some_items (x ∷ xs) = Some (x ∷ xs)

-- the readers of the point of a row, if it is read
abbrev pub read_in : Row → Option (List Point)
read_in row = some_items (points row.readers.items)

-- the ends at one side of a row
abbrev pub side_ends : Side → Row → SmallVec End
side_ends Kids row = row.kids
side_ends Readers row = row.readers

-- the same, which each row has
abbrev pub side_in : Side → Row → Option (SmallVec End)
side_in s row = Some (side_ends s row)

-- the other side
abbrev pub beyond : Side → Side
beyond Kids = Readers
beyond Readers = Kids

-- the links of a point to its kids
abbrev pub link_cell : Place Row → List Link
link_cell None = []
link_cell (Some e) = map (λ k. link e.0 k.point) e.1.kids.items

-- the points with their heights
abbrev pub heights_of : Rows Row → Rows ℕ
heights_of m = cells height_in m

-- the roots
abbrev pub roots_of : Rows Row → Roots
roots_of m = record { counts = (cells roots_in m).places }

-- the links
abbrev pub links_of : Rows Row → Links
links_of m = record { all = flat_map link_cell m.places }

-- the points that are read, with their readers
abbrev pub read_of : Rows Row → Rows (List Point)
read_of m = cells read_in m

-- the ends at one side of the points
abbrev pub side_of : Side → Rows Row → EndLists
side_of s m = record { rows = cells (side_in s) m }

-- where a point is in the heap, if it is
abbrev pub place_of : Rows Row → Point → Option ℕ
place_of m p = option_and_then (λ row. row.place) (at m p)
