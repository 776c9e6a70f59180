use Rattle.std.proofs.Common.{◌≡◌}
use Rattle.incr_bench.proofs.rounds.set_all.Given as goal

abbrev pub invariant-loop-place : goal.invariant-loop-place
invariant-loop-place g l = record {
  uncalled : l.live.graph.functions ≡ l.fn.live.graph.functions;
  untold : l.live.notices ≡ l.fn.live.notices;
}
