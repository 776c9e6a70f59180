use Rattle.transfer.proofs.Working.{met_is_covered}
use Rattle.transfer.proofs.laws.met_is_covered.Goals as goal

pub returns : goal.returns
returns c = met_is_covered
