use Rattle.formula_elab.proofs.Places.{few_makes}
use Rattle.formula_elab.proofs.laws.few_makes.Goals as goal

pub returns : goal.returns
returns c = few_makes
