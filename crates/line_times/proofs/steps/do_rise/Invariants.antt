use Rattle.std.proofs.Common.{◌≡◌, length, map}
use Rattle.script_model.specs.Check.{times_rise}
use Rattle.line_parser.specs.View.{timed_view}
use Rattle.line_times.proofs.steps.do_rise.Given as goal

abbrev pub invariant-loop-left : goal.invariant-loop-left
invariant-loop-left l = times_rise (map timed_view l.left) ≡ times_rise (map timed_view l.steps)

abbrev pub decreases-loop-left : goal.decreases-loop-left
decreases-loop-left l = length l.left
