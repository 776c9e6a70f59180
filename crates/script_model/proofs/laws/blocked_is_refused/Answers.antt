use Rattle.script_model.proofs.Refusing.{blocked_is_refused}
use Rattle.script_model.proofs.laws.blocked_is_refused.Goals as goal

pub returns : goal.returns
returns c = blocked_is_refused
