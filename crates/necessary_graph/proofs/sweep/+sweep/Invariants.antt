use Rattle.std.proofs.Common.{length}
use Rattle.height_order.specs.Levels.{level}
use Rattle.necessary_graph.specs.Room.{HasRoom}
use Rattle.necessary_graph.specs.Part.{part_of}
use Rattle.necessary_graph.proofs.Descending.{IsUnderWay}
use Rattle.necessary_graph.proofs.sweep.+sweep.Given as goal

abbrev pub decreases-sweep : goal.decreases-sweep
decreases-sweep g l = level l.rows.now.heights l.p

abbrev pub invariant-loop-kid : goal.invariant-loop-kid
invariant-loop-kid g l = record {
  under_way : IsUnderWay (g.L.Leaves.is_leaf l.leaves) l.p (part_of l.fn.rows) (part_of l.rows);
  room : HasRoom l.rows.heights l.rows.heap l.points;
}

abbrev pub decreases-loop-kid : goal.decreases-loop-kid
decreases-loop-kid g l = length l.rows.links.all
