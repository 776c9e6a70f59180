use Rattle.stabilize_round.proofs.Meanings as law
use Rattle.stabilize_round.proofs.laws.gives_stay.Goals as goal

pub returns : goal.returns
returns c = law.gives_stay
