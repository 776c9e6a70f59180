use Rattle.std.proofs.Common.{◌∙◌}
use Rattle.inc_value.proofs.SameTypes.{ty_same}
use Rattle.script_functions.proofs.keeping.is_same_type.Goals as goal

pub returns : goal.returns
returns c = c.eq.ensures ∙ ty_same c.args.left c.args.right
