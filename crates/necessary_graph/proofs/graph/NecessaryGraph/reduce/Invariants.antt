use Rattle.std.proofs.Common.{length}
use Rattle.necessary_graph.proofs.Composing.{MayReduce}
use Rattle.necessary_graph.proofs.graph.NecessaryGraph.reduce.Given as goal

abbrev pub invariant-loop-kid : goal.invariant-loop-kid
invariant-loop-kid g l = MayReduce (g.L.Leaves.is_leaf l.leaves) l.fn.self l.fn.p l.fn.kept l.self

abbrev pub decreases-loop-kid : goal.decreases-loop-kid
decreases-loop-kid g l = length l.self.links.all
