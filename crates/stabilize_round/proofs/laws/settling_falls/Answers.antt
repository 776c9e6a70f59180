use Rattle.stabilize_round.proofs.Meanings as law
use Rattle.stabilize_round.proofs.laws.settling_falls.Goals as goal

pub returns : goal.returns
returns c = law.settling_falls
