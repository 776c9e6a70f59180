use Rattle.formula_elab.proofs.Lines.{one_line_each}
use Rattle.formula_elab.proofs.laws.one_line_each.Goals as goal

pub returns : goal.returns
returns c = one_line_each
