use Rattle.stabilize_round.proofs.Between as law
use Rattle.stabilize_round.proofs.laws.settled_reads_live.Goals as goal

pub returns : goal.returns
returns c = law.settled_reads_live
