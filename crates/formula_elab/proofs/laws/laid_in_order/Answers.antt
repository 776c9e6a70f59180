use Rattle.formula_elab.proofs.InOrder.{laid_in_order}
use Rattle.formula_elab.proofs.laws.laid_in_order.Goals as goal

pub returns : goal.returns
returns c = laid_in_order
