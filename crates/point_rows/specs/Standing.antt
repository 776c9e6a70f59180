-- What a contract sees of rows of points.
use Rattle.std.specs.Prelude.{◌⊎◌, ◌<◌, ℕ, List, [], unwrap_or}
use Rattle.inc_value.specs.declared.node.Point.{Point}
use Rattle.point_map.specs.Rows.{Rows, at}
use Rattle.link_table.specs.Links.{Links, IsRead}
use Rattle.necessity.specs.Need.{Roots, root_times}

-- the points that are there with their heights, the roots, the links, the readers of each point that is read in the order in which
-- they stand, and what is in the heap with its heights
pub record Standing : Type 0 where
  pub heights : Rows ℕ
  pub roots : Roots
  pub links : Links
  pub read : Rows (List Point)
  pub heap : Rows ℕ

-- the readers of a point, in the order in which they stand
abbrev pub readers_in : Standing → Point → List Point
readers_in s q = unwrap_or (at s.read q) []

-- the point is a root, or some point reads it
abbrev pub IsHeld : Links → Roots → Point → Type 0
IsHeld links roots p = (0 < root_times roots p) ⊎ IsRead links p
