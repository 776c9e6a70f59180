use Rattle.stabilize_round.proofs.Between as law
use Rattle.stabilize_round.proofs.laws.low_are_final.Goals as goal

pub returns : goal.returns
returns c = law.low_are_final
