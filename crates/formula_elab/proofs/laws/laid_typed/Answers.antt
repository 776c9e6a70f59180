use Rattle.formula_elab.proofs.Typed.{laid_typed}
use Rattle.formula_elab.proofs.laws.laid_typed.Goals as goal

pub returns : goal.returns
returns c = laid_typed
