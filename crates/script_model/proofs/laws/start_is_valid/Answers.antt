use Rattle.script_model.proofs.Validity.{start_is_valid}
use Rattle.script_model.proofs.laws.start_is_valid.Goals as goal

pub returns : goal.returns
returns c = start_is_valid
