use Rattle.stabilize_round.proofs.Falling as law
use Rattle.stabilize_round.proofs.laws.wiring_falls.Goals as goal

pub returns : goal.returns
returns c = law.wiring_falls
