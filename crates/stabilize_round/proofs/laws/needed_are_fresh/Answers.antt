use Rattle.stabilize_round.proofs.Between as law
use Rattle.stabilize_round.proofs.laws.needed_are_fresh.Goals as goal

pub returns : goal.returns
returns c = law.needed_are_fresh
