use Rattle.std.proofs.Common.{◌≡◌}
use Rattle.incr_bench.proofs.shapes.tree.Given as goal

abbrev pub invariant-loop-k : goal.invariant-loop-k
invariant-loop-k g l = l.live.graph.functions ≡ l.fn.live.graph.functions
