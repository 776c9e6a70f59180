use Rattle.session_slots.proofs.Handed.{hands_out_past}
use Rattle.session_slots.proofs.laws.hands_out_past_wants.Goals as goal

pub returns : goal.returns
returns c = hands_out_past
