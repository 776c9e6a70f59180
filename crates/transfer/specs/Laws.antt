-- Laws of a script and a graph that fit.
use Rattle.std.specs.Prelude.{◌≡◌, ◌≤◌, ℕ, Bool, pos, List, [], ◌∷◌, ◌++◌, map, length, Option, None, Some}
use Rattle.inc_value.specs.declared.node.NodeId.{NodeId}
use Rattle.inc_value.specs.declared.node.Point.{Point}
use Rattle.inc_value.specs.declared.outcome.Outcome.{Outcome as GraphOutcome}
use Rattle.inc_terms.specs.Depend.{Depends, main}
use Rattle.inc_terms.specs.Evaluate.{NodeGives, Stands}
use Rattle.inc_terms.specs.Graph.{Row}
use Rattle.inc_terms.specs.Local.{Exact}
use Rattle.inc_terms.specs.Need.{Beside, Observed, nodes_of, Needed as GraphNeeded, Held as GraphHeld, Met as GraphMet}
use Rattle.inc_terms.specs.Work.{IsVisit as IsGraphVisit, WithinWork as GraphWork}
use Rattle.inc_value.specs.Walk.{IsWalk, IsDeep}
use Rattle.inc_value.specs.Choice.{NoRepeats, Every, Reaches}
use Rattle.inc_value.specs.declared.function.FnRef.{FnRef}
use Rattle.inc_terms.specs.Rebuilding.{Moment, BuildStep}
use Rattle.inc_terms.specs.Term.{Functions}
use Rattle.inc_terms.specs.Within.{Given}
use Rattle.script_model.specs.Formula.{State, Formula}
use Rattle.script_model.specs.Blocked.{IsCycle, OnCycle}
use Rattle.script_model.specs.Depth.{TooDeep}
use Rattle.script_model.specs.Valid.{Valid, KeepToTypes}
use Rattle.script_model.specs.Evaluate.{NameGives}
use Rattle.script_model.specs.Need.{Edge, Argument, Inside, Item, Named, Place, formula_at, ItemGives, Needed, Met, Visit, IsVisit, WithinWork}
use Rattle.script_model.specs.Values.{Outcome, Int}
use Rattle.transfer.specs.Both.{Both, graph_value, graph_outcome}
use Rattle.transfer.specs.Shows.{Fits}
use Rattle.transfer.specs.Items.{node_at, node_of, scope_at, CoveredBy, RootsAre, RootsHave, FormulasStay, GrabsStay, GrabsBind}
use Rattle.transfer.specs.Holding.{ScopesStay, Remembers}
use Rattle.transfer.specs.Keeping.{NodesApart}
use Rattle.transfer.specs.Cycles.{PartsApart, EndsAt, Passes}
use Rattle.transfer.specs.Deep.{IsToldOf}
use Rattle.transfer.specs.Work.{AllRan, calls_in}
use Rattle.transfer.specs.Worked.{node, both}

-- what the node of a name gives, the name gives
abbrev pub NamesAgree : Type 0
NamesAgree =
    (x : Both) → Fits x → (k : ℕ) (o : GraphOutcome) → NodeGives x.functions x.graph (x.nodes k) o
    → (p : Outcome) × (o ≡ graph_outcome x.nodes p) × NameGives x.meanings x.state k p

-- what the node of a place gives, the place gives, where the scope round it stands
abbrev pub PlacesAgree : Type 0
PlacesAgree =
    (x : Both) → Fits x → (owner : ℕ) (path : List Edge) (f : Formula) (n : NodeId) (o : GraphOutcome)
    → formula_at x.state owner path ≡ Some f → node_at x owner path ≡ Some n
    → Stands x.functions x.graph (scope_at x owner path) → NodeGives x.functions x.graph n o
    → (p : Outcome) × (o ≡ graph_outcome x.nodes p) × ItemGives x.meanings x.state (Place owner path) p

-- what is needed over the graph is covered by what is needed of the script
abbrev pub NeededIsCovered : Type 0
NeededIsCovered =
    (x : Both) → Fits x → GrabsBind x.state → (observed : List NodeId) → RootsAre x observed → (p : Point)
    → GraphNeeded x.functions x.graph x.died observed p → CoveredBy x (Needed x.meanings x.state) p

-- where every point that is needed over the graph is right, whatever is needed of the script has a node that is
-- needed there
abbrev pub NeededHasNodes : Type 0
NeededHasNodes =
    (x : Both) → Fits x → GrabsBind x.state → (observed : List NodeId) → RootsHave x observed
    → (out : Point → Option GraphOutcome)
    → ((p : Point) → GraphNeeded x.functions x.graph x.died observed p → Exact x.functions x.graph out p)
    → (i : Item) → Needed x.meanings x.state i
    → (n : NodeId) × (node_of x i ≡ Some n) × GraphNeeded x.functions x.graph x.died observed (main n)

-- where every point that is needed over the graph is right, each visit of what is needed of the script is a visit of
-- a node that is needed there
abbrev pub VisitsHaveNodes : Type 0
VisitsHaveNodes =
    (x : Both) → Fits x → GrabsBind x.state → (observed : List NodeId) → RootsHave x observed
    → (out : Point → Option GraphOutcome)
    → ((p : Point) → GraphNeeded x.functions x.graph x.died observed p → Exact x.functions x.graph out p)
    → (v : Visit) → IsVisit x.meanings x.state v → Needed x.meanings x.state v.item
    → (n : NodeId) × (node_of x v.item ≡ Some n) × GraphNeeded x.functions x.graph x.died observed (main n)
    × IsGraphVisit x.functions x.graph
    (record { node = n; values = map (graph_value x.nodes) v.values; cost = v.cost })

-- there no name that is needed of the script is on a cycle
abbrev pub NeededIsOnNoCycle : Type 0
NeededIsOnNoCycle =
    (x : Both) → Fits x → GrabsBind x.state → (observed : List NodeId) → RootsHave x observed
    → (out : Point → Option GraphOutcome)
    → ((p : Point) → GraphNeeded x.functions x.graph x.died observed p → Exact x.functions x.graph out p)
    → (n : ℕ) → Needed x.meanings x.state (Named n) → OnCycle x.meanings x.state n → ⊥

-- there, where no needed point begins a walk of 130 points, nothing that is needed of the script is too deep
abbrev pub NeededIsShallow : Type 0
NeededIsShallow =
    (x : Both) → Fits x → Valid x.meanings x.state → (observed : List NodeId) → RootsHave x observed
    → (out : Point → Option GraphOutcome)
    → ((p : Point) → GraphNeeded x.functions x.graph x.died observed p → Exact x.functions x.graph out p)
    → ((p : Point) → GraphNeeded x.functions x.graph x.died observed p → IsDeep (Depends x.functions x.graph x.died) p → ⊥)
    → (i : Item) → Needed x.meanings x.state i → TooDeep x.meanings x.state i → ⊥

-- a covered point that begins a walk of 130 distinct points tells of a met item that is too deep
abbrev pub DeepHasItem : Type 0
DeepHasItem =
    (x : Both) → Fits x → KeepToTypes x.meanings → Valid x.meanings x.state → (before : State) → GrabsBind before
    → FormulasStay before x.state → GrabsStay before x.state
    → (p : Point) (rest : List Point) → CoveredBy x (Met x.meanings before x.state) p → length rest ≡ 129
    → IsWalk (Depends x.functions x.graph x.died) (p ∷ rest) → NoRepeats (p ∷ rest)
    → (i : Item) × Met x.meanings before x.state i × IsToldOf x p i × TooDeep x.meanings x.state i

-- the names that a listed cycle of covered points passes are a cycle of met names, with the first of them once more at its end
abbrev pub CyclesAreNamed : Type 0
CyclesAreNamed =
    (x : Both) → Fits x → KeepToTypes x.meanings → Valid x.meanings x.state → NodesApart x.state x.nodes → PartsApart x
    → (before : State) → GrabsBind before → FormulasStay before x.state
    → (p q : Point) (rest : List Point) (names : List ℕ) → CoveredBy x (Met x.meanings before x.state) p
    → IsWalk (Depends x.functions x.graph x.died) (p ∷ q ∷ rest) → EndsAt p (q ∷ rest) → NoRepeats (q ∷ rest)
    → Passes x p (q ∷ rest) names
    → (first : ℕ) × (more : List ℕ) × (names ≡ first ∷ more) × IsCycle x.meanings x.state (first ∷ (more ++ first ∷ []))
    × Every (λ k. Met x.meanings before x.state (Named k)) names

-- binds built anew, one after the other, keep what scopes have
abbrev pub BuildsKeepScopes : Type 0
BuildsKeepScopes =
    (F : Functions) (known : FnRef → Bool) (ids : FnRef → List NodeId) (m end : Moment) → Reaches (BuildStep F known ids) m end
    → ((n : NodeId) (r : Row) → m.graph.row n ≡ Some r → Given m.given n)
    → ((n : NodeId) (r : Row) (b : NodeId) → m.graph.row n ≡ Some r → r.scope ≡ Some b → (q : Row) × (m.graph.row b ≡ Some q))
    → ScopesStay m.graph end.graph

-- what is met over a graph, from what was held since the last round, is covered by what is met of the script
abbrev pub MetIsCovered : Type 0
MetIsCovered =
    (x then : Both) (beside : Beside) (observers : List Observed) → Remembers x then beside observers → Fits then
    → Valid then.meanings then.state → NodesApart then.state then.nodes → RootsAre then (nodes_of observers) → (p : Point)
    → GraphMet then.functions then.graph then.died (nodes_of observers) (GraphHeld beside observers) p
    → CoveredBy then (Met then.meanings x.state then.state) p

-- calls that are within the work of the graph are within the work of the script
abbrev pub WorkIsCovered : Type 0
WorkIsCovered =
    (x then : Both) (beside : Beside) (observers : List Observed) → Remembers x then beside observers → Fits then
    → Valid then.meanings then.state → NodesApart then.state then.nodes → RootsAre then (nodes_of observers) → (calls : ℕ)
    → GraphWork then.functions then.graph then.died observers beside calls
    → WithinWork then.meanings x.state then.state calls

-- distinct nodes that ran are due work of the script
abbrev pub RanIsWithinWork : Type 0
RanIsWithinWork =
    (x : Both) → Fits x → (before : State) → GrabsBind before → GrabsBind x.state → FormulasStay before x.state
    → (ns : List NodeId) (ran : AllRan x before ns) (calls : ℕ) → NoRepeats ns
    → calls ≤ calls_in x before ns ran → WithinWork x.meanings before x.state calls

-- a script with a bind and a graph whose body is built fit
abbrev pub SomeFit : Type 0
SomeFit = Fits both

-- the nodes of the places in that body: the body's, the variable's and the name's; none is built for another value
pub record BodyHasNodes : Type 0 where
  pub body : node_at both 1 (Inside (Int (pos 1)) ∷ []) ≡ Some (node 3)
  pub variable : node_at both 1 (Argument 0 ∷ Inside (Int (pos 1)) ∷ []) ≡ Some (node 2)
  pub name : node_at both 1 (Argument 1 ∷ Inside (Int (pos 1)) ∷ []) ≡ Some (node 0)
  pub other : node_at both 1 (Inside (Int (pos 2)) ∷ []) ≡ None
