use Rattle.std.proofs.Common.{◌≡◌}
use Rattle.incr_bench.proofs.shapes.instrument.Given as goal

abbrev pub invariant-loop-kid : goal.invariant-loop-kid
invariant-loop-kid g l = l.live.graph.functions ≡ l.fn.live.graph.functions
