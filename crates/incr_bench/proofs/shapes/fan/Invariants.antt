use Rattle.std.proofs.Common.{◌≡◌, ◌+◌, length}
use Rattle.incr_bench.proofs.shapes.fan.Given as goal

abbrev pub invariant-loop : goal.invariant-loop
invariant-loop g l = record {
  uncalled : l.live.graph.functions ≡ l.fn.live.graph.functions;
  grows : length l.live.nodes.items ≡ length l.fn.live.nodes.items + (l.counter + 1);
}
