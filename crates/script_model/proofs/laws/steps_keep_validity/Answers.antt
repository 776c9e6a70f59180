use Rattle.script_model.proofs.Validity.{steps_keep_validity}
use Rattle.script_model.proofs.laws.steps_keep_validity.Goals as goal

pub returns : goal.returns
returns c = steps_keep_validity
