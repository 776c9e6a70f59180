use Rattle.std.proofs.Common.{◌≡◌, ◌⊎◌, ℕ, Some, drop}
use Rattle.std.specs.Prelude.{Contains}
use Rattle.inc_value.specs.declared.node.Point.{Point}
use Rattle.point_map.specs.Rows.{at, count}
use Rattle.height_order.specs.Levels.{level, KeepsPoints}
use Rattle.necessary_graph.proofs.Rests.{HeapAlone}
use Rattle.necessary_graph.proofs.sweep.raise_moved.Given as goal

abbrev pub invariant-loop-p : goal.invariant-loop-p
invariant-loop-p l = record {
  due : (p : Point) (h : ℕ) → at l.rows.heap p ≡ Some h → (h ≡ level l.fn.rows.heights p) ⊎ Contains (drop l.p-index l.moved) p;
  points : KeepsPoints l.fn.rows.heap l.rows.heap;
  count : count l.rows.heap ≡ count l.fn.rows.heap;
  spare : l.rows.heap.spare ≡ l.fn.rows.heap.spare;
  rest : HeapAlone l.fn.rows l.rows;
}
