use Rattle.stabilize_round.proofs.Meanings as law
use Rattle.stabilize_round.proofs.laws.mains_once.Goals as goal

pub returns : goal.returns
returns c = law.mains_once
