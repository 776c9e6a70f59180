use Rattle.std.proofs.Common.{◌≡◌, map, take}
use Rattle.inc_terms.specs.Steps.{step_of}
use Rattle.inc_terms.proofs.steps.copied.Given as goal

-- the steps so far
abbrev pub invariant-loop-step : goal.invariant-loop-step
invariant-loop-step l = map step_of l.list.items ≡ map step_of (take l.step-index l.steps)
