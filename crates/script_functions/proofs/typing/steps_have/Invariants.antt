use Rattle.std.proofs.Common.{drop, map}
use Rattle.inc_value.specs.Choice.{Every}
use Rattle.inc_terms.specs.Steps.{step_of}
use Rattle.inc_terms.specs.Term.{Step}
use Rattle.node_arena.specs.RightSide.{ValueHas}
use Rattle.script_functions.specs.Lines.{IsListedAs}
use Rattle.script_functions.proofs.typing.steps_have.Given as goal

-- all have the type exactly where those left have it
abbrev pub invariant-loop-step : goal.invariant-loop-step
invariant-loop-step l =
    (Every (λ (s : Step). ValueHas (IsListedAs l.draft.listed) s.value l.ty) (map step_of (drop l.step-index l.steps))
    → Every (λ (s : Step). ValueHas (IsListedAs l.draft.listed) s.value l.ty) (map step_of l.steps))
    × (Every (λ (s : Step). ValueHas (IsListedAs l.draft.listed) s.value l.ty) (map step_of l.steps)
    → Every (λ (s : Step). ValueHas (IsListedAs l.draft.listed) s.value l.ty) (map step_of (drop l.step-index l.steps)))
