use Rattle.std.proofs.Common.{map}
use Rattle.formula_lang.specs.Typing.{bound_view}
use Rattle.formula_lang.proofs.Variables.{bound_typed, typed_name-is}
use Rattle.formula_lang.proofs.typing.typed_name.Goals as goal

pub returns-in-Some : goal.returns-in-Some
returns-in-Some c =
    rw (typed_name-is c.args.names.now c.args.name.now 0 (map bound_view c.args.variables.now), ← c.variable_named.ensures, c.in-Some.is)
    (bound_typed c.in-Some.binds_between c.in-Some.ty)

pub returns-in-None : goal.returns-in-None
returns-in-None c =
    rw (typed_name-is c.args.names.now c.args.name.now 0 (map bound_view c.args.variables.now), ← c.variable_named.ensures, c.in-None.is)
    c.typed_declared.ensures
