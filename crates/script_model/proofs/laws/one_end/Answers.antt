use Rattle.script_model.proofs.Transcripts.{one_end}
use Rattle.script_model.proofs.laws.one_end.Goals as goal

pub returns : goal.returns
returns c = one_end
