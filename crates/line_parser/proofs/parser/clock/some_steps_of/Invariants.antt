use Rattle.std.proofs.Common.{◌≡◌, ◌-◌, [], map}
use Rattle.line_parser.specs.View.{timed_view}
use Rattle.script_model.specs.Parsing.{list_front, step_front}
use Rattle.line_parser.proofs.parser.clock.some_steps_of.Given as goal

abbrev pub invariant-loop-count : goal.invariant-loop-count
invariant-loop-count l =
    list_front step_front 93 (l.limit - l._count) (map timed_view l.found.items) l.tokens ≡ list_front step_front 93 l.limit [] l.fn.tokens
