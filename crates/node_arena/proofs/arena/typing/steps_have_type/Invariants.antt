use Rattle.std.proofs.Common.{map, drop}
use Rattle.inc_value.specs.Choice.{Every}
use Rattle.inc_terms.specs.Steps.{step_of}
use Rattle.inc_terms.specs.Term.{Step}
use Rattle.node_arena.specs.Typing.{HasType}
use Rattle.node_arena.proofs.arena.typing.steps_have_type.Given as goal

-- all are of the type exactly where those left are
abbrev pub invariant-loop-step : goal.invariant-loop-step
invariant-loop-step l =
    (Every (λ (s : Step). HasType l.arena s.value l.ty) (map step_of (drop l.step-index l.steps))
    → Every (λ (s : Step). HasType l.arena s.value l.ty) (map step_of l.steps))
    × (Every (λ (s : Step). HasType l.arena s.value l.ty) (map step_of l.steps)
    → Every (λ (s : Step). HasType l.arena s.value l.ty) (map step_of (drop l.step-index l.steps)))
