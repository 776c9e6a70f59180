use Rattle.std.proofs.Common.{◌≡◌, drop, map}
use Rattle.line_times.specs.Sought.{has_large_time}
use Rattle.line_parser.specs.View.{timed_view}
use Rattle.line_times.proofs.steps.have_large_time.Given as goal

abbrev pub invariant-loop-step : goal.invariant-loop-step
invariant-loop-step l = has_large_time (map timed_view (drop l.step-index l.steps)) ≡ has_large_time (map timed_view l.steps)
