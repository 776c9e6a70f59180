use Rattle.formula_elab.proofs.Showing.{root_declares}
use Rattle.formula_elab.proofs.laws.root_declares.Goals as goal

pub returns : goal.returns
returns c = root_declares
