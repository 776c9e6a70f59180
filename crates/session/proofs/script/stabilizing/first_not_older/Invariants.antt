use Rattle.std.proofs.Common.{◌<◌, ℕ}
use Rattle.script_graph.specs.Kept.{node_in}
use Rattle.session.proofs.script.stabilizing.first_not_older.Given as goal

abbrev pub invariant-loop-i : goal.invariant-loop-i
invariant-loop-i l = (j : ℕ) → j < l.i → (node_in l.nodes j).gen_ < l.node.gen_
