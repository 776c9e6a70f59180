use Rattle.stabilize_round.proofs.Between as law
use Rattle.stabilize_round.proofs.laws.round_is_moves.Goals as goal

pub returns : goal.returns
returns c = law.round_is_moves
