use Rattle.std.proofs.Common.{◌≡◌}
use Rattle.incr_bench.proofs.shapes.observe_all.Given as goal

abbrev pub invariant-loop-i : goal.invariant-loop-i
invariant-loop-i g l = record {
  uncalled : l.live.graph.functions ≡ l.fn.live.graph.functions;
  same_nodes : l.live.nodes.items ≡ l.fn.live.nodes.items;
}
