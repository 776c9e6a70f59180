use Rattle.stabilize_round.proofs.Meanings as law
use Rattle.stabilize_round.proofs.laws.rest_stays.Goals as goal

pub returns : goal.returns
returns c = law.rest_stays
