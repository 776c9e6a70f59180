use Rattle.wiring.specs.Graph.{graph_at}
use Rattle.graph.proofs.Owning.{CameTo}
use Rattle.graph.proofs.graph.Graph.owner.Given as goal

abbrev pub invariant-loop-bind : goal.invariant-loop-bind
invariant-loop-bind g l = CameTo (graph_at l.self-inside.parts.arena l.self-inside.parts.work) l.fn.node l.top

abbrev pub decreases-loop-bind : goal.decreases-loop-bind
decreases-loop-bind g l = l.top.gen_
