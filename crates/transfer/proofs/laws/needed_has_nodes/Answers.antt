use Rattle.transfer.proofs.Meanings.{needed_has_nodes}
use Rattle.transfer.proofs.laws.needed_has_nodes.Goals as goal

pub returns : goal.returns
returns c = needed_has_nodes
