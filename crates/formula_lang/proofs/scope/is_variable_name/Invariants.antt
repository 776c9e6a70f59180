use Rattle.std.proofs.Common.{◌≡◌, drop}
use Rattle.std.specs.List.{list_any}
use Rattle.std.specs.Str.{bytes_eq}
use Rattle.formula_lang.proofs.scope.is_variable_name.Given as goal

abbrev pub invariant-loop-variable : goal.invariant-loop-variable
invariant-loop-variable l = list_any (bytes_eq l.name) (drop l.variable-index l.variables) ≡ list_any (bytes_eq l.name) l.variables
