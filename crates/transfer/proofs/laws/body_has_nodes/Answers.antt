use Rattle.transfer.proofs.Worked.{worked_nodes}
use Rattle.transfer.proofs.laws.body_has_nodes.Goals as goal

pub returns : goal.returns
returns c = worked_nodes
