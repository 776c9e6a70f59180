use Rattle.script_model.proofs.Written.{lines_are_shallow}
use Rattle.script_model.proofs.laws.lines_are_shallow.Goals as goal

pub returns : goal.returns
returns c = lines_are_shallow
