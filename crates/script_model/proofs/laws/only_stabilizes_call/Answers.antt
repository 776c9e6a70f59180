use Rattle.script_model.proofs.Runs.{only_stabilizes_call}
use Rattle.script_model.proofs.laws.only_stabilizes_call.Goals as goal

pub returns : goal.returns
returns c = only_stabilizes_call
