use Rattle.script_model.proofs.ValidRow.{grab_state_is_valid}
use Rattle.script_model.proofs.laws.grab_state_is_valid.Goals as goal

pub returns : goal.returns
returns c = grab_state_is_valid
