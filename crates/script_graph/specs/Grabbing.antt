-- Right sides of binds, as a session names them.
use Rattle.std.specs.Prelude.{◌≡◌, ℕ, Some}
use Rattle.inc_value.specs.declared.node.NodeId.{NodeId}
use Rattle.graph.specs.Standing.{graph, root_in}
use Rattle.script_graph.specs.Kept.{Kept, node_in}

-- it is the root of the right side that the bind at a position has now
abbrev pub IsRightSide : Kept → ℕ → NodeId → Type 0
IsRightSide k bind root = root_in ((graph k.graph).built (node_in k.nodes bind)) ≡ Some root
