use Rattle.stabilize_round.proofs.Row as law
use Rattle.stabilize_round.proofs.laws.constant_works.Goals as goal

pub returns : goal.returns
returns c = law.constant_works
