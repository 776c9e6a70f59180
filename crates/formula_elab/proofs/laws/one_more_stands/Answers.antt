use Rattle.formula_elab.proofs.Standing.{one_more_stands}
use Rattle.formula_elab.proofs.laws.one_more_stands.Goals as goal

pub returns : goal.returns
returns c = one_more_stands
