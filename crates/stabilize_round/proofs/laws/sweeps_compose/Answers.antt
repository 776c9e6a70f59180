use Rattle.stabilize_round.proofs.Composing as law
use Rattle.stabilize_round.proofs.laws.sweeps_compose.Goals as goal

pub returns : goal.returns
returns c = law.sweeps_compose
