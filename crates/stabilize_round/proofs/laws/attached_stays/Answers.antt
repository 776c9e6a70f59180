use Rattle.stabilize_round.proofs.Meanings as law
use Rattle.stabilize_round.proofs.laws.attached_stays.Goals as goal

pub returns : goal.returns
returns c = law.attached_stays
