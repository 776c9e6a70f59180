use Rattle.std.proofs.Common.{◌≡◌, ◌≤◌, length, take}
use Rattle.std.specs.List.{filter_map}
use Rattle.node_outcomes.specs.Computing.{value_shown}
use Rattle.node_outcomes.proofs.sight.fill_shown.Given as goal

-- the values of the nodes so far, with room for the others, and no less than there was
abbrev pub invariant-loop-node : goal.invariant-loop-node
invariant-loop-node l =
    (l.values.items ≡ filter_map (value_shown l.rows) (take l.node-index l.nodes))
    × (length l.values.items ≤ l.node-index)
    × (length l.nodes ≤ l.values.capacity)
    × (l.fn.values.capacity ≤ l.values.capacity)
