use Rattle.std.proofs.Common.{drop}
use Rattle.node_outcomes.specs.Computing.{AllShow}
use Rattle.node_outcomes.proofs.sight.show_values.Given as goal

-- all nodes show a value exactly where those that are left do
abbrev pub invariant-loop-node : goal.invariant-loop-node
invariant-loop-node l =
    (AllShow l.rows (drop l.node-index l.nodes) → AllShow l.rows l.nodes) × (AllShow l.rows l.nodes → AllShow l.rows (drop l.node-index l.nodes))
