use Rattle.stabilize_round.proofs.Runs as law
use Rattle.stabilize_round.proofs.laws.deaths_are_known.Goals as goal

pub returns : goal.returns
returns c = law.deaths_are_known
