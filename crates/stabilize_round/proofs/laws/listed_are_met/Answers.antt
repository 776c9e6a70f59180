use Rattle.stabilize_round.proofs.Confirmed as law
use Rattle.stabilize_round.proofs.laws.listed_are_met.Goals as goal

pub returns : goal.returns
returns c = law.listed_are_met
