-- That what a session keeps of a script fits together.
use Rattle.std.specs.Prelude.{◌≡◌, ◌+◌, ◌≤◌, ℕ, pos, List, length, sum_by, None, Some, IsSome, slice_get}
use Rattle.inc_value.specs.Choice.{Among, NoRepeats}
use Rattle.inc_value.specs.declared.function.FnRef.{FnRef}
use Rattle.inc_value.specs.declared.node.NodeId.{NodeId}
use Rattle.inc_value.specs.declared.node.ObsId.{ObsId}
use Rattle.inc_value.specs.declared.ty.Ty.{Ty}
use Rattle.inc_terms.specs.Graph as graph_def
use Rattle.inc_terms.specs.Graph.{Def, Row}
use Rattle.inc_terms.specs.Within.{Given}
use Rattle.graph.specs.Effects.{TakesBeside}
use Rattle.graph.specs.Standing.{IsUnbroken}
use Rattle.observers.specs.Observers.{node_at}
use Rattle.node_arena.specs.Arena.{Arena, row_at, IsVariable}
use Rattle.node_arena.specs.Typing as typing
use Rattle.script_functions.specs.Bodies.{Body}
use Rattle.script_functions.specs.Keeping.{makers, side_in}
use Rattle.script_model.specs.Check.{Declared, Variable, Bind, Expert, Grab}
use Rattle.script_graph.specs.Kept.{Kept, arena_of, node_in}

-- what a declaration stands for: its target is one of the declarations, stands for itself, and has the same type and node
pub record HasTarget (declared : List Declared) (nodes : List NodeId) (n : ℕ) (d : Declared) : Type 0 where
  pub target : Declared
  pub is_target : slice_get declared d.target ≡ Some target
  pub itself : target.target ≡ d.target
  pub typed : target.ty ≡ d.ty
  pub node : node_in nodes d.target ≡ node_in nodes n

-- the node is a live bind
abbrev pub IsLiveBind : Arena → NodeId → Type 0
IsLiveBind a n = (r : Row) × (left : NodeId) × (f : FnRef) × (captures : List NodeId) × (row_at a n ≡ Some r) × (r.def ≡ graph_def.Bind left f captures)

-- the live node of a declaration outside all scopes, which has its type, and is a variable, a bind, or an expert that takes such elements, where the
-- declaration is
pub record HasLiveNode (a : Arena) (nodes : List NodeId) (n : ℕ) (d : Declared) : Type 0 where
  pub row : Row
  pub is_row : row_at a (node_in nodes n) ≡ Some row
  pub typed : row.ty ≡ d.ty
  pub outside : row.scope ≡ None
  pub variable : d.kind ≡ Variable → IsVariable a (node_in nodes n)
  pub bind : d.kind ≡ Bind → IsLiveBind a (node_in nodes n)
  pub expert : (element : Ty) → d.kind ≡ Expert element → TakesBeside a (node_in nodes n) element

-- the node of a declaration is its target's; an expert stands for itself; the node of one that stands for itself, and is no grab, is live; a grab's
-- was given, and is of its type or dead
pub record HasNode (a : Arena) (declared : List Declared) (nodes : List NodeId) (n : ℕ) (d : Declared) : Type 0 where
  pub target : HasTarget declared nodes n d
  pub expert : (element : Ty) → d.kind ≡ Expert element → d.target ≡ n
  pub live : d.target ≡ n → (d.kind ≡ Grab → ⊥) → HasLiveNode a nodes n d
  pub grab : d.target ≡ n → d.kind ≡ Grab → Given a.given (node_in nodes n) × typing.Fits a (node_in nodes n) d.ty

-- so for each of the declarations
abbrev pub HaveNodes : Arena → List Declared → List NodeId → Type 0
HaveNodes a declared nodes = (n : ℕ) (d : Declared) → slice_get declared n ≡ Some d → HasNode a declared nodes n d

-- how many nodes may come to live of a node outside all scopes: itself, and those of a bind's right side
abbrev pub weight_of : List Body → Def → ℕ
weight_of bodies (graph_def.Bind left f captures) = 1 + (side_in (makers bodies) f).size
weight_of bodies def = 1

-- so of a node, if it lives
abbrev pub weight_at : List Body → Arena → NodeId → ℕ
weight_at bodies a n = elim (row_at a n) [ None ↦ 0 | Some r ↦ weight_of bodies r.def ]

-- no more nodes may come to live than there are places: of the nodes outside all scopes each is listed, of ids that were given
pub record AreFew (bodies : List Body) (a : Arena) (room : ℕ) : Type 0 where
  pub tops : List NodeId
  pub given : (n : NodeId) → Among n tops → Given a.given n
  pub all : (n : NodeId) (r : Row) → row_at a n ≡ Some r → r.scope ≡ None → Among n tops
  pub weight : sum_by (weight_at bodies a) tops + room ≤ 1048575

-- what is kept fits together, and its names and its graph have one time
pub record IsSoundSession (k : Kept) : Type 0 where
  pub one_node_each : length k.nodes ≡ length k.names.declared
  pub has_nodes : HaveNodes (arena_of k) k.names.declared k.nodes
  pub few : AreFew k.bodies (arena_of k) k.room
  pub one_observer_each : length k.observers ≡ length k.names.observers
  pub looking : (o : ObsId) → Among o k.observers → IsSome (node_at k.graph.observers o)
  pub apart : NoRepeats k.observers
  pub unbroken : k.broken ≡ None → IsUnbroken k.graph
  pub clock : (arena_of k).time ≡ pos k.names.now
