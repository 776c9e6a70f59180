use Rattle.stabilize_round.proofs.Stopped as law
use Rattle.stabilize_round.proofs.laws.new_nodes_inside.Goals as goal

pub returns : goal.returns
returns c = law.new_nodes_inside
