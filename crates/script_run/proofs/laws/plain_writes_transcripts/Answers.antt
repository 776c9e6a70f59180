use Rattle.script_run.proofs.Sums.{told_is_printed, told_is_transcript}
use Rattle.script_run.proofs.laws.plain_writes_transcripts.Goals as goal

pub returns : goal.returns
returns c = record { all = told_is_transcript; each = told_is_printed }
