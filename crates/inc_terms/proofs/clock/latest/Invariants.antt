use Rattle.std.proofs.Common.{◌≡◌, map, drop}
use Rattle.inc_terms.specs.Steps.{step_of}
use Rattle.inc_terms.specs.Evaluate.{latest}
use Rattle.inc_terms.proofs.clock.latest.Given as goal

-- what is left to look at gives the same
abbrev pub invariant-loop-step : goal.invariant-loop-step
invariant-loop-step l = latest l.time l.last (map step_of (drop l.step-index l.steps)) ≡ latest l.time l.initial' (map step_of l.steps)
