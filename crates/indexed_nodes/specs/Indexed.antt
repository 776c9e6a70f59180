-- What a contract sees of nodes in a list with an index.
use Rattle.std.specs.Prelude.{◌≡◌, ◌≤◌, ℕ, List, None, Some, slice_get}
use Rattle.inc_value.specs.declared.node.NodeId.{NodeId}
use Rattle.inc_value.specs.declared.node.Part.TheVariants.{Main}
use Rattle.inc_value.specs.declared.node.Point.{Point}
use Rattle.point_map.specs.Rows.{Rows, at}

-- the nodes in order, and how many more can be added without memory
pub record Indexed : Type 0 where
  pub items : List NodeId
  pub spare : ℕ

-- the node stands at the position, and at no earlier one
pub record IsFirst (nodes : List NodeId) (n : NodeId) (position : ℕ) : Type 0 where
  pub there : slice_get nodes position ≡ Some n
  pub earliest : (i : ℕ) → slice_get nodes i ≡ Some n → position ≤ i

-- the node stands at no position
abbrev pub IsNowhere : List NodeId → NodeId → Type 0
IsNowhere nodes n = (i : ℕ) → slice_get nodes i ≡ Some n → ⊥

-- the point at which an index has a node: slot and generation have changed places
abbrev pub key_of : NodeId → Point
key_of n = record { node = record { slot = n.gen_; gen_ = n.slot }; part = Main }

-- an index has each node that is listed at its first position, and no other node
pub record IsIndex (nodes : List NodeId) (firsts : Rows ℕ) : Type 0 where
  pub first : (n : NodeId) (position : ℕ) → at firsts (key_of n) ≡ Some position → IsFirst nodes n position
  pub none : (n : NodeId) → at firsts (key_of n) ≡ None → IsNowhere nodes n
