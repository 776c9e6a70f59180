use Rattle.stabilize_round.proofs.Calls as law
use Rattle.stabilize_round.proofs.laws.refused_calls.Goals as goal

pub returns : goal.returns
returns c = law.refused_calls
