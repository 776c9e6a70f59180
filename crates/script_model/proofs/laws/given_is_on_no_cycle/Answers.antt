use Rattle.script_model.proofs.Given.{given_is_on_no_cycle}
use Rattle.script_model.proofs.laws.given_is_on_no_cycle.Goals as goal

pub returns : goal.returns
returns c = given_is_on_no_cycle
