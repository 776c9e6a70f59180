use Rattle.transfer.proofs.Deep.{needed_is_on_no_cycle}
use Rattle.transfer.proofs.laws.needed_is_on_no_cycle.Goals as goal

pub returns : goal.returns
returns c = needed_is_on_no_cycle
