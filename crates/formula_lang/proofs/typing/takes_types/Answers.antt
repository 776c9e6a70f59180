use Rattle.std.proofs.Common.{◌∙◌, ap}
use Rattle.inc_value.specs.Ty.{same_types}
use Rattle.inc_value.proofs.SameTypes.{types_same}
use Rattle.formula_lang.proofs.typing.takes_types.Goals as goal

pub returns : goal.returns
returns c = c.eq.ensures ∙ types_same c.takes.result.now c.args.tys.now ∙ ap (λ tys. same_types tys c.args.tys.now) c.takes.ensures.value
