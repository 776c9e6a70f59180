-- Nodes that are listed, each with its type.
use Rattle.std.specs.Prelude.{◌⊎◌, List, map}
use Rattle.inc_value.specs.Choice.{Among}
use Rattle.inc_value.specs.declared.node.NodeId.{NodeId}
use Rattle.inc_value.specs.declared.ty.Ty.{Ty}
use Rattle.inc_value.specs.declared.value.Value.{Value}
use Rattle.inc_terms.specs.Within.{NamedBy}

-- a node that is listed, with its type
pub record Listed : Type 0 where
  pub node : NodeId
  pub ty : Ty

-- the nodes that are listed
abbrev pub nodes_of : List Listed → List NodeId
nodes_of ids = map (λ (x : Listed). x.node) ids

-- a term may name the node: it is the left value's, or listed
abbrev pub IsNamed : List Listed → Value → NodeId → Type 0
IsNamed ids left n = NamedBy left n ⊎ Among n (nodes_of ids)
