use Rattle.std.proofs.Common.{◌≡◌, map, drop}
use Rattle.inc_terms.specs.Steps.{step_of}
use Rattle.graph.specs.Clock.{rises}
use Rattle.graph.proofs.graph.timed.rise_from.Given as goal

-- what is left to look at gives the answer
abbrev pub invariant-loop-step : goal.invariant-loop-step
invariant-loop-step l = rises l.last (map step_of (drop l.step-index l.steps)) ≡ rises l.time (map step_of l.steps)
