use Rattle.stabilize_round.proofs.Ids as law
use Rattle.stabilize_round.proofs.laws.start_stays.Goals as goal

pub returns : goal.returns
returns c = law.start_stays
