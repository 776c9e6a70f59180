use Rattle.transfer.proofs.Deep.{needed_is_shallow}
use Rattle.transfer.proofs.laws.needed_is_shallow.Goals as goal

pub returns : goal.returns
returns c = needed_is_shallow
