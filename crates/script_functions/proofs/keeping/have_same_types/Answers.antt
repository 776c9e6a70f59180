use Rattle.std.proofs.Common.{◌∙◌}
use Rattle.inc_value.proofs.SameTypes.{types_same}
use Rattle.script_functions.proofs.keeping.have_same_types.Goals as goal

pub returns : goal.returns
returns c = c.eq.ensures ∙ types_same c.args.left.now c.args.right.now
