use Rattle.script_model.proofs.Written.{lines_are_well_formed}
use Rattle.script_model.proofs.laws.lines_are_well_formed.Goals as goal

pub returns : goal.returns
returns c = lines_are_well_formed
