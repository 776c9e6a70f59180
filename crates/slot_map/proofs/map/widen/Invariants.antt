use Rattle.std.proofs.Common.{◌≡◌, ℕ, ◌+◌, ◌-◌, length}
use Rattle.slot_map.specs.Slots.{cell}
use Rattle.slot_map.proofs.map.widen.Given as goal

abbrev pub invariant-loop-cells : goal.invariant-loop-cells
invariant-loop-cells g l = (i : ℕ) → cell l.cells.items i ≡ cell l.fn.cells.items i

abbrev pub decreases-loop-cells : goal.decreases-loop-cells
decreases-loop-cells g l = l.fn.slot + 1 - length l.cells.items
