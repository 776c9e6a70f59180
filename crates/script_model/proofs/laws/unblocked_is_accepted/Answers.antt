use Rattle.script_model.proofs.Refusing.{unblocked_is_accepted}
use Rattle.script_model.proofs.laws.unblocked_is_accepted.Goals as goal

pub returns : goal.returns
returns c = unblocked_is_accepted
