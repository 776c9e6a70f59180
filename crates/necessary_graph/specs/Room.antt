-- Room in the heap for every point that is there.
use Rattle.std.specs.Prelude.{◌≡◌, ◌⊎◌, ◌+◌, ◌≤◌, ℕ, List, length, Contains, None}
use Rattle.inc_value.specs.declared.node.Point.{Point}
use Rattle.point_map.specs.Rows.{Rows, at, Holds, count}
use Rattle.height_order.specs.Chains.{NoRepeats}

-- so many points are there, and those that aren't in the heap have spare places
pub record HasRoom (heights heap : Rows ℕ) (points : ℕ) : Type 0 where
  pub outside : List Point
  pub once : NoRepeats outside
  pub apart : (p : Point) → Contains outside p → Holds heights p × (at heap p ≡ None)
  pub every : (p : Point) → Holds heights p → Holds heap p ⊎ Contains outside p
  pub within : (p : Point) → Holds heap p → Holds heights p
  pub counted : length outside + count heap ≡ points
  pub room : points ≤ count heap + heap.spare
