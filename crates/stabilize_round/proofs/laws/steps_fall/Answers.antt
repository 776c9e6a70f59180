use Rattle.stabilize_round.proofs.Falling as law
use Rattle.stabilize_round.proofs.laws.steps_fall.Goals as goal

pub returns : goal.returns
returns c = law.steps_fall
