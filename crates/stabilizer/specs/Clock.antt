-- Which points come into the heap when the time moves on.
use Rattle.std.specs.Prelude.{◌≡◌, ◌⊎◌, List}
use Rattle.inc_value.specs.Choice.{Among}
use Rattle.inc_value.specs.declared.node.NodeId.{NodeId}
use Rattle.inc_value.specs.declared.node.Point.{Point}
use Rattle.inc_terms.specs.Depend.{main}
use Rattle.point_map.specs.Rows.{Holds}
use Rattle.necessary_graph.specs.Part.{NecessaryPart, Needed}
use Rattle.wiring.specs.Wiring.{KeepsGraph}

-- of each of these nodes the main is in the heap, where it is needed; what was there stays there, and no other point comes
pub record AreMarked (old new : NecessaryPart) (nodes : List NodeId) : Type 0 where
  pub graph : KeepsGraph old new
  pub kept : (p : Point) → Holds old.heap p → Holds new.heap p
  pub told : (n : NodeId) → Among n nodes → Needed old (main n) → Holds new.heap (main n)
  pub only : (p : Point) → Holds new.heap p → Holds old.heap p ⊎ ((n : NodeId) × Among n nodes × (p ≡ main n))
