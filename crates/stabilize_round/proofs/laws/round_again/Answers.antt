use Rattle.stabilize_round.proofs.Meanings as law
use Rattle.stabilize_round.proofs.laws.round_again.Goals as goal

pub returns : goal.returns
returns c = law.round_again
