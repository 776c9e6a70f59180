use Rattle.stabilize_round.proofs.Stopped as law
use Rattle.stabilize_round.proofs.laws.new_binds_built.Goals as goal

pub returns : goal.returns
returns c = law.new_binds_built
