use Rattle.std.proofs.Common.{ap}
use Rattle.necessary_graph.proofs.graph.NecessaryGraph.kids.Goals as goal

pub returns : goal.returns
returns c k = rw (← ap (λ w. w.links) c.self.view_is) (c.kids.ensures k)
