use Rattle.script_model.proofs.TypedCalls.{visits_count_calls}
use Rattle.script_model.proofs.laws.visits_count_calls.Goals as goal

pub returns : goal.returns
returns c = visits_count_calls
