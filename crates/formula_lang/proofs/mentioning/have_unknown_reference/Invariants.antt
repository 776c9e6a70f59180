use Rattle.std.proofs.Common.{◌≡◌, drop, map}
use Rattle.std.specs.List.{list_any}
use Rattle.formula_lang.specs.Within.{referred_in}
use Rattle.formula_lang.specs.Rows.{is_unknown}
use Rattle.line_parser.specs.View.{timed_view}
use Rattle.formula_lang.proofs.mentioning.have_unknown_reference.Given as goal

abbrev pub invariant-loop-step : goal.invariant-loop-step
invariant-loop-step l =
    list_any (is_unknown l.names) (referred_in (map timed_view (drop l.step-index l.steps)))
    ≡ list_any (is_unknown l.names) (referred_in (map timed_view l.steps))
