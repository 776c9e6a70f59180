use Rattle.script_model.proofs.Transcripts.{one_transcript}
use Rattle.script_model.proofs.laws.one_transcript.Goals as goal

pub returns : goal.returns
returns c = one_transcript
