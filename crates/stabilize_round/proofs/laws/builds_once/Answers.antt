use Rattle.stabilize_round.proofs.Meanings as law
use Rattle.stabilize_round.proofs.laws.builds_once.Goals as goal

pub returns : goal.returns
returns c = law.builds_once
