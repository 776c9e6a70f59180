use Rattle.stabilize_round.proofs.Meanings as law
use Rattle.stabilize_round.proofs.laws.strict_is_met.Goals as goal

pub returns : goal.returns
returns c = law.strict_is_met
