use Rattle.stabilize_round.proofs.Meanings as law
use Rattle.stabilize_round.proofs.laws.dead_were_unsettled.Goals as goal

pub returns : goal.returns
returns c = law.dead_were_unsettled
