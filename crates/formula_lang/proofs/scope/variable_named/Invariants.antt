use Rattle.std.proofs.Common.{◌≡◌, drop, map}
use Rattle.formula_lang.specs.Typing.{bound_view, variable_from, variable_in}
use Rattle.formula_lang.proofs.scope.variable_named.Given as goal

abbrev pub invariant-loop-place : goal.invariant-loop-place
invariant-loop-place l =
    variable_from l.place (map bound_view (drop l.place l.variables)) l.name ≡ variable_in (map bound_view l.variables) l.name
