use Rattle.stabilize_round.proofs.Calls as law
use Rattle.stabilize_round.proofs.laws.round_is_within_work.Goals as goal

pub returns : goal.returns
returns c = law.round_is_within_work
