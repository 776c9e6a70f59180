-- What is so of the names that declarations read and refer to, of the ages of their nodes, and of freezes.
use Rattle.std.specs.Prelude.{◌≡◌, ◌<◌, ◌≤◌, ℕ, List, [], ◌∷◌, Option, Some}
use Rattle.inc_value.specs.declared.function.FnRef.{FnRef}
use Rattle.inc_value.specs.declared.node.NodeId.{NodeId}
use Rattle.inc_value.specs.declared.value.Value.{Value}
use Rattle.inc_terms.specs.Graph as graph
use Rattle.inc_terms.specs.Graph.{Graph, Row}
use Rattle.formula_elab.specs.Today.{IsLaidOutBody}
use Rattle.graph.specs.Standing.{cutoff_of, graph as graph_of_standing}
use Rattle.map_nodes.specs.declared.cutoff.Cutoff.TheVariants.{Equal}
use Rattle.script_model.specs.Formula.{Formula, Formulas, Body, Entry, State, body_at, entry_at, Literal, Name, Apply, Fold, If, Join, Bind, At, Steps, Now, End, More, Variable, Computed, Freeze, After, Every, Expert, Grab}
use Rattle.script_model.specs.Check.{target_of_body}
use Rattle.script_model.specs.Leaves.{EveryReference, EveryLeafOf}
use Rattle.script_model.specs.Values.{Value as ScriptValue, Outcome, Val, Invalid}
use Rattle.script_graph.specs.Kept.{Kept, node_in}
use Rattle.transfer.specs.Shows.{IsOwn}

-- ---- formulas: names that are read are of earlier declarations

-- a declaration that is there, and is no other name
abbrev pub IsDeclaredTarget : State → ℕ → Type 0
IsDeclaredTarget s t = (b : Body) × (body_at s t ≡ Some b) × IsOwn (Some b)

-- what is declared has such names and references
abbrev pub IsPlainBody : (ℕ → Type 0) → (ℕ → Type 0) → Body → Type 0
IsPlainBody P R (Grab bind v is_live) = P bind × EveryReference R v
IsPlainBody P R body = IsLaidOutBody body × EveryLeafOf P R body

-- an earlier declaration that is no other name
abbrev pub IsEarlierTarget : State → ℕ → ℕ → Type 0
IsEarlierTarget s n t = (t < n) × IsOwn (body_at s t)

-- each declaration reads earlier ones alone; what it refers to or is linked to is declared
abbrev pub AllPlain : State → Type 0
AllPlain s = (n : ℕ) (body : Body) → body_at s n ≡ Some body → IsPlainBody (IsEarlierTarget s n) (IsDeclaredTarget s) body

-- ---- values: what they refer to is declared

-- what an outcome refers to, if anything, has the property
abbrev pub RefersTo : (ℕ → Type 0) → Outcome → Type 0
RefersTo P (Val v) = EveryReference P v
RefersTo P Invalid = Unit {0}

-- ---- ages: the nodes of a declaration outside all scopes were given after those of earlier ones, those of its parts before its own

abbrev mutual
  -- the formula's node and those of its parts have the property, but for those of bare names
  pub OwnNodes : Graph → (NodeId → Type 0) → NodeId → Formula → Type 0
  OwnNodes G P n (Literal v) = P n
  OwnNodes G P n (Name k) = Unit {0}
  OwnNodes G P n (Apply f arguments) =
      P n × (r : Row) × (kids : List NodeId) × (G.row n ≡ Some r) × (r.def ≡ graph.Map f kids) × OwnNodesOfAll G P kids arguments
  OwnNodes G P n (Fold f first elements) =
      P n × (r : Row) × (value : Value) × (kids : List NodeId) × (G.row n ≡ Some r) × (r.def ≡ graph.Fold f value kids)
      × OwnNodesOfAll G P kids elements
  OwnNodes G P n (If test a b) =
      P n × (r : Row) × (t x y : NodeId) × (G.row n ≡ Some r) × (r.def ≡ graph.If t x y)
      × OwnNodes G P t test × OwnNodes G P x a × OwnNodes G P y b
  OwnNodes G P n (Join child) = P n × (r : Row) × (c : NodeId) × (G.row n ≡ Some r) × (r.def ≡ graph.Join c) × OwnNodes G P c child
  OwnNodes G P n (Bind left body) =
      P n × (r : Row) × (l : NodeId) × (f : FnRef) × (captures : List NodeId) × (G.row n ≡ Some r) × (r.def ≡ graph.Bind l f captures)
      × OwnNodes G P l left
  OwnNodes G P n (At time) = P n
  OwnNodes G P n (Steps first steps) = P n
  OwnNodes G P n Now = P n
  OwnNodes G P n f = ⊥

  -- so have those of all of the formulas
  pub OwnNodesOfAll : Graph → (NodeId → Type 0) → List NodeId → Formulas → Type 0
  OwnNodesOfAll G P [] End = Unit {0}
  OwnNodesOfAll G P [] (More f rest) = ⊥
  OwnNodesOfAll G P (n ∷ ns) End = ⊥
  OwnNodesOfAll G P (n ∷ ns) (More f rest) = OwnNodes G P n f × OwnNodesOfAll G P ns rest

-- the formula's node has the one property, and those of its parts the other, but for those of bare names
abbrev pub WholeNodes : Graph → (NodeId → Type 0) → (NodeId → Type 0) → NodeId → Formula → Type 0
WholeNodes G P Q n (Literal v) = P n
WholeNodes G P Q n (Name k) = Unit {0}
WholeNodes G P Q n (Apply f arguments) =
    P n × (r : Row) × (kids : List NodeId) × (G.row n ≡ Some r) × (r.def ≡ graph.Map f kids) × OwnNodesOfAll G Q kids arguments
WholeNodes G P Q n (Fold f first elements) =
    P n × (r : Row) × (value : Value) × (kids : List NodeId) × (G.row n ≡ Some r) × (r.def ≡ graph.Fold f value kids)
    × OwnNodesOfAll G Q kids elements
WholeNodes G P Q n (If test a b) =
    P n × (r : Row) × (t x y : NodeId) × (G.row n ≡ Some r) × (r.def ≡ graph.If t x y)
    × OwnNodes G Q t test × OwnNodes G Q x a × OwnNodes G Q y b
WholeNodes G P Q n (Join child) = P n × (r : Row) × (c : NodeId) × (G.row n ≡ Some r) × (r.def ≡ graph.Join c) × OwnNodes G Q c child
WholeNodes G P Q n (Bind left body) =
    P n × (r : Row) × (l : NodeId) × (f : FnRef) × (captures : List NodeId) × (G.row n ≡ Some r) × (r.def ≡ graph.Bind l f captures)
    × OwnNodes G Q l left
WholeNodes G P Q n (At time) = P n
WholeNodes G P Q n (Steps first steps) = P n
WholeNodes G P Q n Now = P n
WholeNodes G P Q n f = ⊥

-- so have those of what is declared
abbrev pub OwnNodesOf : Graph → (NodeId → Type 0) → (NodeId → Type 0) → NodeId → Body → Type 0
OwnNodesOf G P Q n (Variable v) = P n
OwnNodesOf G P Q n (Computed f kept) = WholeNodes G P Q n f
OwnNodesOf G P Q n (After time) = P n
OwnNodesOf G P Q n (Every base span) = P n
OwnNodesOf G P Q n (Freeze child predicate frozen) =
    P n × (r : Row) × (kid : NodeId) × (G.row n ≡ Some r) × (r.def ≡ graph.Freeze kid predicate) × OwnNodes G Q kid child
OwnNodesOf G P Q n (Expert f first links stale) = P n
OwnNodesOf G P Q n (Grab bind v is_live) = Unit {0}

-- a node was given no later than that of the declaration, and later than those of earlier declarations
pub record IsWithin (nodes : List NodeId) (owner : ℕ) (n : NodeId) : Type 0 where
  pub not_later : n.gen_ ≤ (node_in nodes owner).gen_
  pub later : (m : ℕ) → m < owner → (node_in nodes m).gen_ < n.gen_

-- so was the node of a part, and earlier than that of the declaration
pub record IsPartWithin (nodes : List NodeId) (owner : ℕ) (n : NodeId) : Type 0 where
  pub within : IsWithin nodes owner n
  pub earlier : n.gen_ < (node_in nodes owner).gen_

-- ---- freezes

-- the node of a freeze that is declared
pub record IsDeclaredFreeze (s : State) (nodes : List NodeId) (n : NodeId) : Type 0 where
  pub position : ℕ
  pub child : Formula
  pub predicate : FnRef
  pub frozen : Option ScriptValue
  pub is_body : body_at s position ≡ Some (Freeze child predicate frozen)
  pub node : node_in nodes position ≡ n

-- each live freeze is one that is declared
abbrev pub FreezesAreDeclared : Graph → State → List NodeId → Type 0
FreezesAreDeclared G s nodes =
    (n : NodeId) (r : Row) (kid : NodeId) (f : FnRef) → G.row n ≡ Some r → r.def ≡ graph.Freeze kid f → IsDeclaredFreeze s nodes n

-- ---- what is kept

-- a state beside the graph that is kept: what it reads and refers to, the ages of its nodes, and its freezes
pub record IsTodaysScript (s : State) (k : Kept) : Type 0 where
  pub plain : AllPlain s
  pub aged : (n : ℕ) (b : Body) → body_at s n ≡ Some b
      → OwnNodesOf (graph_of_standing k.graph) (IsWithin k.nodes n) (IsPartWithin k.nodes n) (node_in k.nodes n) b
  pub freezes : FreezesAreDeclared (graph_of_standing k.graph) s k.nodes

-- the state as the last accepted stabilize left it read and referred to such, its declarations had their targets, and each node has cutoff Equal
pub record WasTodays (before : State) (k : Kept) : Type 0 where
  pub plain : AllPlain before
  pub targets : (n : ℕ) (e : Entry) → entry_at before n ≡ Some e → e.target ≡ target_of_body n e.body
  pub equal : (n : NodeId) → cutoff_of k.graph n ≡ Equal
