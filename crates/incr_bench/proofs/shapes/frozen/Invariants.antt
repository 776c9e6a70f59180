use Rattle.std.proofs.Common.{◌≡◌}
use Rattle.incr_bench.proofs.shapes.frozen.Given as goal

abbrev pub invariant-loop : goal.invariant-loop
invariant-loop g l = l.live.graph.functions ≡ l.fn.live.graph.functions
