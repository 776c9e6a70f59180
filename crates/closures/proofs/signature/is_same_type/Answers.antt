use Rattle.std.proofs.Common.{◌∙◌}
use Rattle.inc_value.proofs.SameTypes.{ty_same}
use Rattle.closures.proofs.signature.is_same_type.Goals as goal

pub returns : goal.returns
returns c = c.eq.ensures ∙ ty_same c.args.left c.args.right
