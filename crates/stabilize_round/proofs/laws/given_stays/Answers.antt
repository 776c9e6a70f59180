use Rattle.stabilize_round.proofs.Ids as law
use Rattle.stabilize_round.proofs.laws.given_stays.Goals as goal

pub returns : goal.returns
returns c = law.given_stays
