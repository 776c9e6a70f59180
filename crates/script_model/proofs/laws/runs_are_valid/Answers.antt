use Rattle.script_model.proofs.Validity.{runs_are_valid}
use Rattle.script_model.proofs.laws.runs_are_valid.Goals as goal

pub returns : goal.returns
returns c = runs_are_valid
