use Rattle.script_model.proofs.Written.{one_line}
use Rattle.script_model.proofs.laws.one_line.Goals as goal

pub returns : goal.returns
returns c = one_line
