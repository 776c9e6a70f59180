use Rattle.std.proofs.Common.{map, drop}
use Rattle.inc_terms.specs.Steps.{step_of}
use Rattle.inc_terms.proofs.Quiet.{HaveCome}
use Rattle.inc_terms.proofs.clock.next_step.Given as goal

-- the steps that were looked at have come
abbrev pub invariant-loop-step : goal.invariant-loop-step
invariant-loop-step l = HaveCome l.time (map step_of l.steps) (map step_of (drop l.step-index l.steps))
