use Rattle.script_model.proofs.Transcripts.{one_beginning}
use Rattle.script_model.proofs.laws.one_beginning.Goals as goal

pub returns : goal.returns
returns c = one_beginning
