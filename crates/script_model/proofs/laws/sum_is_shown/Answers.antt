use Rattle.script_model.proofs.SumRow.{sum_is_shown}
use Rattle.script_model.proofs.laws.sum_is_shown.Goals as goal

pub returns : goal.returns
returns c = sum_is_shown
