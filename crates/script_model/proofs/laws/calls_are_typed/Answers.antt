use Rattle.script_model.proofs.TypedCalls.{calls_are_typed}
use Rattle.script_model.proofs.laws.calls_are_typed.Goals as goal

pub returns : goal.returns
returns c = calls_are_typed
