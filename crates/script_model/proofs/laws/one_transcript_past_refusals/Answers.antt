use Rattle.script_model.proofs.Transcripts.{one_transcript_past_refusals}
use Rattle.script_model.proofs.laws.one_transcript_past_refusals.Goals as goal

pub returns : goal.returns
returns c = one_transcript_past_refusals
