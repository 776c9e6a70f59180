use Rattle.script_model.proofs.SumBound.{sum_is_one_call}
use Rattle.script_model.proofs.laws.sum_is_one_call.Goals as goal

pub returns : goal.returns
returns c = sum_is_one_call
