-- Which item a point of the graph tells of that begins a long walk.
use Rattle.std.specs.Prelude.{◌≡◌, ◌⊎◌, ℕ, true, List, Some}
use Rattle.inc_value.specs.declared.node.NodeId.{NodeId}
use Rattle.inc_value.specs.declared.node.Point.{Point as GraphPoint}
use Rattle.inc_terms.specs.Depend.{change}
use Rattle.inc_terms.specs.Graph.{Row}
use Rattle.script_model.specs.Formula as script
use Rattle.script_model.specs.Formula.{body_at}
use Rattle.script_model.specs.Need.{Edge, Item, Named, Place}
use Rattle.script_model.specs.Values.{Value}
use Rattle.transfer.specs.Both.{Both}
use Rattle.transfer.specs.Items.{node_at, node_of}

-- the point is the change of the bind with that node, or stands in its scope
abbrev pub IsOfBind : Both → NodeId → GraphPoint → Type 0
IsOfBind x b p = (p ≡ change b) ⊎ ((r : Row) × (x.graph.row p.node ≡ Some r) × (r.scope ≡ Some b))

-- the point's node is the item's; or the point is of a bind, and the item is that, or a live grab of it
pub data IsToldOf (x : Both) (p : GraphPoint) (i : Item) : Type 0 where
  of_node : node_of x i ≡ Some p.node → IsToldOf x p i
  of_bind : {owner : ℕ} {path : List Edge} {b : NodeId} → i ≡ Place owner path → node_at x owner path ≡ Some b
      → IsOfBind x b p → IsToldOf x p i
  of_grab : {k bind : ℕ} {v : Value} → i ≡ Named k → body_at x.state k ≡ Some (script.Grab bind v true)
      → IsOfBind x (x.nodes bind) p → IsToldOf x p i
