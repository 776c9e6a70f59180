use Rattle.transfer.proofs.Worked.{worked_fits}
use Rattle.transfer.proofs.laws.some_fit.Goals as goal

pub returns : goal.returns
returns c = worked_fits
