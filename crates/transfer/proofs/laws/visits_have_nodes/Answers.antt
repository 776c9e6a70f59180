use Rattle.transfer.proofs.Recalling.{visits_have_nodes}
use Rattle.transfer.proofs.laws.visits_have_nodes.Goals as goal

pub returns : goal.returns
returns c = visits_have_nodes
