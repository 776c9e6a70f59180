use Rattle.stabilize_round.proofs.Confirmed as law
use Rattle.stabilize_round.proofs.laws.listed_once.Goals as goal

pub returns : goal.returns
returns c = law.listed_once
