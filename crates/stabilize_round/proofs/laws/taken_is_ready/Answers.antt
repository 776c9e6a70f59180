use Rattle.stabilize_round.proofs.Meanings as law
use Rattle.stabilize_round.proofs.laws.taken_is_ready.Goals as goal

pub returns : goal.returns
returns c = law.taken_is_ready
