use Rattle.script_model.proofs.Validity.{lines_keep_validity}
use Rattle.script_model.proofs.laws.lines_keep_validity.Goals as goal

pub returns : goal.returns
returns c = lines_keep_validity
