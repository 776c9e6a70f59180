use Rattle.std.proofs.Common.{◌≤◌}
use Rattle.incr_bench.proofs.rounds.run.Given as goal

abbrev pub invariant-loop-round : goal.invariant-loop-round
invariant-loop-round g l = g.F.Functions.calls l.fn.live.graph.functions ≤ g.F.Functions.calls l.live.graph.functions
