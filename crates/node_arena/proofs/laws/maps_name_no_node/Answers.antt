use Rattle.node_arena.proofs.Graph.{maps_name_no_node}
use Rattle.node_arena.proofs.laws.maps_name_no_node.Goals as goal

pub returns : goal.returns
returns c = maps_name_no_node
