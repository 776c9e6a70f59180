use Rattle.formula_elab.proofs.Standing.{none_stands}
use Rattle.formula_elab.proofs.laws.none_stands.Goals as goal

pub returns : goal.returns
returns c = none_stands
