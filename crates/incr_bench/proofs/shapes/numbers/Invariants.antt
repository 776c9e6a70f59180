use Rattle.std.proofs.Common.{◌≡◌}
use Rattle.incr_bench.proofs.shapes.numbers.Given as goal

abbrev pub invariant-loop-place : goal.invariant-loop-place
invariant-loop-place g l = l.live.graph.functions ≡ l.fn.live.graph.functions
