use Rattle.std.proofs.Common.{map, drop}
use Rattle.inc_value.specs.Choice.{Every}
use Rattle.inc_terms.specs.Steps.{step_of}
use Rattle.inc_terms.specs.Term.{Step}
use Rattle.inc_terms.specs.Within.{Given, ValueWithin}
use Rattle.node_arena.proofs.arena.typing.steps_given.Given as goal

-- all were given exactly where those left were
abbrev pub invariant-loop-step : goal.invariant-loop-step
invariant-loop-step l =
    (Every (λ (s : Step). ValueWithin (Given l.given) s.value) (map step_of (drop l.step-index l.steps))
    → Every (λ (s : Step). ValueWithin (Given l.given) s.value) (map step_of l.steps))
    × (Every (λ (s : Step). ValueWithin (Given l.given) s.value) (map step_of l.steps)
    → Every (λ (s : Step). ValueWithin (Given l.given) s.value) (map step_of (drop l.step-index l.steps)))
