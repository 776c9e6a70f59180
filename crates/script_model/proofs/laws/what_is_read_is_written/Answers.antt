use Rattle.script_model.proofs.Asked.{what_is_read_is_written}
use Rattle.script_model.proofs.laws.what_is_read_is_written.Goals as goal

pub returns : goal.returns
returns c = what_is_read_is_written
