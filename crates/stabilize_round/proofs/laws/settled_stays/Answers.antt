use Rattle.stabilize_round.proofs.Meanings as law
use Rattle.stabilize_round.proofs.laws.settled_stays.Goals as goal

pub returns : goal.returns
returns c = law.settled_stays
