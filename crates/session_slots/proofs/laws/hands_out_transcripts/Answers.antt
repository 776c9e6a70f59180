use Rattle.session_slots.proofs.Handed.{hands_out}
use Rattle.session_slots.proofs.laws.hands_out_transcripts.Goals as goal

pub returns : goal.returns
returns c = hands_out
