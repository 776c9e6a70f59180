use Rattle.transfer.proofs.Chains.{deep_has_item}
use Rattle.transfer.proofs.laws.deep_has_item.Goals as goal

pub returns : goal.returns
returns c = deep_has_item
