use Rattle.std.proofs.Common.{◌≡◌, ◌-◌}
use Rattle.point_rows.specs.Cells.{place_of}
use Rattle.point_rows.specs.Heap.{IsHeap}
use Rattle.point_rows.proofs.heap.take_least.Given as goal

abbrev pub invariant-loop-heap : goal.invariant-loop-heap
invariant-loop-heap l =
    (l.rows ≡ l.initial.rows) × (l.heap.buckets ≡ l.initial.heap.buckets) × IsHeap (place_of l.rows) l.heap.buckets l.heap.least

abbrev pub decreases-loop-heap : goal.decreases-loop-heap
decreases-loop-heap l = 129 - l.heap.least
