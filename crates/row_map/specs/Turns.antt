-- What a contract sees of the places of a row map: one call changes one place.
use Rattle.std.specs.Prelude.{◌≡◌, ◌≢◌, ℕ, Some, None}
use Rattle.inc_value.specs.declared.node.Point.{Point}
use Rattle.point_map.specs.Rows.{Rows, Place, standing, Changes}

module _ {R : Type 0} where
  -- one place has another thing now, and no other place does
  pub record PlaceTurns (old new : Rows R) (i : ℕ) (e : Place R) : Type 0 where
    pub changed : standing new i ≡ e
    pub others : (j : ℕ) → j ≢ i → standing new j ≡ standing old j

  -- the point is there with this row, at a place that was vacant
  pub record IsAdded (old new : Rows R) (p : Point) (row : R) : Type 0 where
    pub place : ℕ
    pub vacant : standing old place ≡ None
    pub turns : PlaceTurns old new place (Some (p, row))
    pub changes : Changes old new p (Some row)

  -- the point, which was there, has this row at the same place
  pub record IsRewritten (old new : Rows R) (p : Point) (row : R) : Type 0 where
    pub place : ℕ
    pub was : R
    pub there : standing old place ≡ Some (p, was)
    pub turns : PlaceTurns old new place (Some (p, row))
    pub changes : Changes old new p (Some row)

  -- the point, which was there, is off, and its place is vacant
  pub record IsRemoved (old new : Rows R) (p : Point) : Type 0 where
    pub place : ℕ
    pub was : R
    pub there : standing old place ≡ Some (p, was)
    pub turns : PlaceTurns old new place None
    pub changes : Changes old new p None
