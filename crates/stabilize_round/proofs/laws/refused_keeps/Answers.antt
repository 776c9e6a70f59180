use Rattle.stabilize_round.proofs.Runs as law
use Rattle.stabilize_round.proofs.laws.refused_keeps.Goals as goal

pub returns : goal.returns
returns c = law.refused_keeps
