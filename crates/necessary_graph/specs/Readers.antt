-- The readers of a point that come into the heap.
use Rattle.std.specs.Prelude.{◌≡◌, ℕ, Bool, false, Some}
use Rattle.inc_value.specs.declared.node.Point.{Point}
use Rattle.point_map.specs.Rows.{Rows, at}
use Rattle.link_table.specs.Links.{Links, Reads}

-- each point of the heap is there at its height
abbrev pub HasHeights : Rows ℕ → Rows ℕ → Type 0
HasHeights heights heap = (p : Point) (h : ℕ) → at heap p ≡ Some h → at heights p ≡ Some h

-- every reader of the point that isn't passed over is in the heap at its height, and every other point stands there as it did
pub record HasReaders (heights : Rows ℕ) (links : Links) (q : Point) (skipped : Point → Bool) (old new : Rows ℕ) : Type 0 where
  pub put : (p : Point) → Reads links p q → skipped p ≡ false → at new p ≡ at heights p
  pub others : (p : Point) → (Reads links p q → skipped p ≡ false → ⊥) → at new p ≡ at old p
