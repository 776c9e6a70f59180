use Rattle.stabilize_round.proofs.Runs as law
use Rattle.stabilize_round.proofs.laws.new_nodes_stand.Goals as goal

pub returns : goal.returns
returns c = law.new_nodes_stand
