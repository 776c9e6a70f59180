-- Where the points of a map by slots stand.
use Rattle.std.specs.Prelude.{◌≡◌, ◌<◌, ◌++◌, ℕ, List, length, None, Some, slice_index_or}
use Rattle.inc_value.specs.declared.node.Point.{Point}
use Rattle.inc_value.specs.declared.node.Part.TheVariants.{Main}
use Rattle.point_map.specs.Rows.{Rows, Place, at}

module _ {R : Type 0} where
  -- what stands in the cell of a slot
  abbrev pub cell : List (Place R) → ℕ → Place R
  cell cells i = slice_index_or cells i None

  -- the cells' points, and then those beside
  abbrev pub rows_of : List (Place R) → Rows R → Rows R
  rows_of cells beside = record { places = cells ++ beside.places; spare = beside.spare }

  -- each point of a cell is a main point, at its slot
  pub record IsBySlot (cells : List (Place R)) : Type 0 where
    pub slot : (i : ℕ) (p : Point) (r : R) → cell cells i ≡ Some (p, r) → p.node.slot ≡ i
    pub main : (i : ℕ) (p : Point) (r : R) → cell cells i ≡ Some (p, r) → p.part ≡ Main

  -- the point is a main point, and the cell of its slot is empty
  pub record IsFreeCell (cells : List (Place R)) (p : Point) : Type 0 where
    pub within : p.node.slot < length cells
    pub empty : cell cells p.node.slot ≡ None
    pub is_main : p.part ≡ Main

  -- no point of a cell is beside
  abbrev pub IsApart : List (Place R) → Rows R → Type 0
  IsApart cells beside = (i : ℕ) (p : Point) (r : R) → cell cells i ≡ Some (p, r) → at beside p ≡ None
