use Rattle.std.proofs.Common.{◌≡◌, ◌++◌, drop, map, Some}
use Rattle.inc_value.specs.Choice.{and_then}
use Rattle.script_model.specs.Check.{steps_of_type}
use Rattle.formula_lang.specs.CommandView.{timed_view}
use Rattle.line_parser.specs.View.{timed_view as timed_literal_view}
use Rattle.formula_lang.proofs.typing.steps_of_type.Given as goal

-- what is left, behind what is done, is all
abbrev pub invariant-loop-step : goal.invariant-loop-step
invariant-loop-step l =
    steps_of_type l.names l.ty (map timed_literal_view l.steps)
    ≡ and_then (steps_of_type l.names l.ty (map timed_literal_view (drop l.step-index l.steps))) (λ rest. Some (map timed_view l.constants.items ++ rest))
