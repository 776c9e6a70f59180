use Rattle.std.proofs.Common.{ap}
use Rattle.necessary_graph.proofs.graph.NecessaryGraph.readers.Goals as goal

pub returns : goal.returns
returns c k = rw (← ap (λ w. w.links) c.self.view_is) (c.readers.ensures k)
