-- From the items of a script to the nodes and points of a graph.
use Rattle.std.specs.Prelude.{◌≡◌, ℕ, true, List, [], ◌∷◌, Option, None, Some, cond, slice_get}
use Rattle.inc_value.specs.declared.node.NodeId.{NodeId}
use Rattle.inc_value.specs.declared.node.Point.{Point}
use Rattle.inc_value.specs.declared.outcome.Outcome.TheVariants as outcome
use Rattle.inc_value.specs.declared.value.Value.{Value as GraphValue}
use Rattle.inc_value.specs.Choice.{Among, and_then, Every as Each}
use Rattle.inc_terms.specs.Depend.{main, change}
use Rattle.inc_terms.specs.Evaluate.{Stands}
use Rattle.inc_terms.specs.Graph as graph
use Rattle.inc_terms.specs.Graph.{Graph, Row, Def, Built as BuiltFor}
use Rattle.inc_terms.specs.Need.{IsRoot}
use Rattle.inc_terms.specs.Same.{same_outcome}
use Rattle.script_model.specs.Formula as script
use Rattle.script_model.specs.Formula.{Formula, Body, State, body_at, If, Join}
use Rattle.script_model.specs.Need.{Edge, Argument, Test, Then, Else, Child, Left, Inside, Item, Named, Place, Round, rounds, ItemGives, formula_at, bind_around, Reads, Held, StillStands, roots}
use Rattle.script_model.specs.Values.{Value, Val}
use Rattle.transfer.specs.Both.{Both, graph_value}
use Rattle.transfer.specs.Shows.{Built, Binding}

-- the node that a node names at an edge
abbrev pub part_node : Def → Edge → Option NodeId
part_node (graph.Map f kids) (Argument k) = slice_get kids k
part_node (graph.Fold f v kids) (Argument k) = slice_get kids k
part_node (graph.If t a b) Test = Some t
part_node (graph.If t a b) Then = Some a
part_node (graph.If t a b) Else = Some b
part_node (graph.Join k) Child = Some k
part_node (graph.Bind l f caps) Left = Some l
part_node def edge = None

-- the root of a bind, where it is built for the value
abbrev pub root_at : (ℕ → NodeId) → Value → BuiltFor → Option NodeId
root_at nodes v w = cond (same_outcome w.outcome (outcome.Val (graph_value nodes v))) w.root None

-- the kid of a freeze
abbrev pub freeze_kid : Def → Option NodeId
freeze_kid (graph.Freeze kid f) = Some kid
freeze_kid def = None

-- the node of the whole formula of a declaration
abbrev pub whole_node : Graph → NodeId → Option Body → Option NodeId
whole_node G n (Some (script.Computed f kept)) = Some n
whole_node G n (Some (script.Freeze child predicate frozen)) = and_then (G.row n) (λ r. freeze_kid r.def)
whole_node G n body = None

-- the node of a place
abbrev pub node_at : Both → ℕ → List Edge → Option NodeId
node_at x owner [] = whole_node x.graph (x.nodes owner) (body_at x.state owner)
node_at x owner (Inside v ∷ path) =
    and_then (node_at x owner path) (λ b. and_then (x.graph.built b) (root_at x.nodes v))
node_at x owner (edge ∷ path) =
    and_then (node_at x owner path) (λ n. and_then (x.graph.row n) (λ r. part_node r.def edge))

-- the node of an item
abbrev pub node_of : Both → Item → Option NodeId
node_of x (Named k) = Some (x.nodes k)
node_of x (Place owner path) = node_at x owner path

-- the variables of the binds round a place, the innermost first; each stands in its bind's scope
abbrev pub around : Both → ℕ → List Edge → List Binding
around x owner [] = []
around x owner (Inside v ∷ path) = record { value = v; mode = Built (node_at x owner path) } ∷ around x owner path
around x owner (edge ∷ path) = around x owner path

-- the scope of a place
abbrev pub scope_at : Both → ℕ → List Edge → Option NodeId
scope_at x owner [] = None
scope_at x owner (Inside v ∷ path) = node_at x owner path
scope_at x owner (edge ∷ path) = scope_at x owner path

-- a formula of two points that is no bind
abbrev pub IsChoice : Option Formula → Type 0
IsChoice (Some (If test a b)) = Unit {0}
IsChoice (Some (Join child)) = Unit {0}
IsChoice f = ⊥

-- what a point may be of: the main of an item's node; of an `if` or `join` its change; of the left place of a bind
-- the
-- bind's change, and the main of the bind's variable
pub data Covers (x : Both) (i : Item) (p : Point) : Type 0 where
  by_main : {n : NodeId} → node_of x i ≡ Some n → p ≡ main n → Covers x i p
  by_choice : {owner : ℕ} {path : List Edge} {n : NodeId} → i ≡ Place owner path → node_at x owner path ≡ Some n
      → IsChoice (formula_at x.state owner path) → p ≡ change n → Covers x i p
  by_left : {owner : ℕ} {path : List Edge} {b : NodeId} → i ≡ Place owner (Left ∷ path)
      → node_at x owner path ≡ Some b → p ≡ change b → Covers x i p
  by_variable : {owner : ℕ} {path : List Edge} {b c : NodeId} {r : Row} {w : BuiltFor} {v : GraphValue}
      → i ≡ Place owner (Left ∷ path) → node_at x owner path ≡ Some b → x.graph.row c ≡ Some r
      → r.scope ≡ Some b → x.graph.built b ≡ Some w → w.outcome ≡ outcome.Val v → r.def ≡ graph.Const v → p ≡ main c
      → Covers x i p

-- one of a set of items covers the point
abbrev pub CoveredBy : Both → (Item → Type 0) → Point → Type 0
CoveredBy x X p = (i : Item) × X i × Covers x i p

-- what items read is of the set, and so are the lefts of the binds round them; each has a formula
pub record Closed (x : Both) (X : Item → Type 0) : Type 0 where
  pub reads : (i j : Item) → X i → Reads x.meanings x.state i j → X j
  pub lefts : (owner : ℕ) (path : List Edge) (k : ℕ) (bind : List Edge) → X (Place owner path)
      → bind_around k path ≡ Some bind → X (Place owner (Left ∷ bind))
  pub there : (owner : ℕ) (path : List Edge) → X (Place owner path)
      → (f : Formula) × (formula_at x.state owner path ≡ Some f)

-- a node that died, whose points a set covers, stood in the scope of a bind whose change the set covers
abbrev pub GhostsCovered : Both → (Item → Type 0) → (NodeId → Option NodeId) → Type 0
GhostsCovered x X died =
    (i : Item) (p : Point) (b : NodeId) → X i → Covers x i p → x.graph.row p.node ≡ None
    → died p.node ≡ Some b → CoveredBy x X (change b)

-- the roots of the graph are the nodes of the script's roots
abbrev pub RootsAre : Both → List NodeId → Type 0
RootsAre x observed =
    (n : NodeId) → IsRoot x.graph observed n → (i : Item) × Among i (roots x.state) × (node_of x i ≡ Some n)

-- a point that was held, and is live and stands, is one of an item that was held and still stands
abbrev pub HeldAre : Both → State → (Point → Type 0) → Type 0
HeldAre x before held =
    (h : Point) (r : Row) → held h → x.graph.row h.node ≡ Some r → Stands x.functions x.graph r.scope
    → (i : Item) × Held x.meanings before x.state i × StillStands x.meanings x.state i × Covers x i h

-- declarations stay, with their formulas
abbrev pub FormulasStay : State → State → Type 0
FormulasStay before s =
    (owner : ℕ) (path : List Edge) (f : Formula) → formula_at before owner path ≡ Some f
    → formula_at s owner path ≡ Some f

-- live grabs stay
abbrev pub GrabsStay : State → State → Type 0
GrabsStay before s =
    (k b : ℕ) (v : Value) → body_at before k ≡ Some (script.Grab b v true) → body_at s k ≡ Some (script.Grab b v true)

-- what a live grab is of is a bind
abbrev pub GrabsBind : State → Type 0
GrabsBind s =
    (k b : ℕ) (v : Value) → body_at s k ≡ Some (script.Grab b v true)
    → (left : Formula) × (body : Formula) × (kept : script.Kept)
    × (body_at s b ≡ Some (script.Computed (script.Bind left body) kept))

-- and each root of the script has a node among the roots of the graph
abbrev pub RootsHave : Both → List NodeId → Type 0
RootsHave x observed = (k : ℕ) → Among (Named k) (roots x.state) → IsRoot x.graph observed (x.nodes k)

-- the lefts of the binds round a place tell the place's values from others that have the same node
abbrev pub ApartAt : Both → ℕ → List Edge → Type 0
ApartAt x owner path =
    Each (λ (w : Round). (u : Value) → ItemGives x.meanings x.state (Place owner (Left ∷ w.bind)) (Val u)
    → graph_value x.nodes u ≡ graph_value x.nodes w.value → u ≡ w.value) (rounds path)
