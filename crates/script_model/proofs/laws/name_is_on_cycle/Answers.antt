use Rattle.script_model.proofs.CycleRow.{name_is_on_cycle}
use Rattle.script_model.proofs.laws.name_is_on_cycle.Goals as goal

pub returns : goal.returns
returns c = name_is_on_cycle
