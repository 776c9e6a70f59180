use Rattle.script_model.proofs.Validity.{halts_keep_validity}
use Rattle.script_model.proofs.laws.halts_keep_validity.Goals as goal

pub returns : goal.returns
returns c = halts_keep_validity
