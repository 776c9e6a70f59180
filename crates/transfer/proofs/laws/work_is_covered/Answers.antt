use Rattle.transfer.proofs.Working.{work_is_covered}
use Rattle.transfer.proofs.laws.work_is_covered.Goals as goal

pub returns : goal.returns
returns c = work_is_covered
