use Rattle.stabilize_round.proofs.Between as law
use Rattle.stabilize_round.proofs.laws.taken_is_due.Goals as goal

pub returns : goal.returns
returns c = law.taken_is_due
