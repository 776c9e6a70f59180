use Rattle.std.proofs.Common.{◌≡◌, drop}
use Rattle.node_outcomes.specs.Computing.{forced_by}
use Rattle.node_outcomes.proofs.sight.is_forced.Given as goal

-- one forces among those that are left exactly where one does among all
abbrev pub invariant-loop-node : goal.invariant-loop-node
invariant-loop-node l = forced_by l.round l.rows (drop l.node-index l.nodes) ≡ forced_by l.round l.rows l.nodes
