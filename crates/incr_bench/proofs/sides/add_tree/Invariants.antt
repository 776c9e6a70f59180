use Rattle.std.proofs.Common.{◌≡◌}
use Rattle.incr_bench.proofs.sides.add_tree.Given as goal

abbrev pub invariant-loop : goal.invariant-loop
invariant-loop l = l.draft.listed ≡ l.fn.draft.listed

abbrev pub invariant-loop-k : goal.invariant-loop-k
invariant-loop-k l = l.draft.listed ≡ l.fn.draft.listed
