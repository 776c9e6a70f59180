use Rattle.stabilize_round.proofs.Runs as law
use Rattle.stabilize_round.proofs.laws.built_stays.Goals as goal

pub returns : goal.returns
returns c = law.built_stays
