use Rattle.formula_elab.proofs.Weights.{one_node_each}
use Rattle.formula_elab.proofs.laws.one_node_each.Goals as goal

pub returns : goal.returns
returns c = one_node_each
