use Rattle.transfer.proofs.Cycles.{cycles_are_named}
use Rattle.transfer.proofs.laws.cycles_are_named.Goals as goal

pub returns : goal.returns
returns c = cycles_are_named
