-- What is kept of the last accepted stabilize: the pair of state and graph as it left them, and what stands beside the graph since.
use Rattle.std.specs.Prelude.{◌≡◌, ◌≤◌, ◌&&◌, ℕ, suc, cond, nat_lt, List, [], ◌∷◌, map, length, Option, None, Some, IsSome}
use Rattle.inc_value.specs.Choice.{Among}
use Rattle.inc_value.specs.declared.function.FnRef.{FnRef}
use Rattle.inc_value.specs.declared.node.NodeId.{NodeId}
use Rattle.inc_terms.specs.Graph as graph_def
use Rattle.inc_terms.specs.Graph.{Graph, Row}
use Rattle.inc_terms.specs.Local.{Scoped}
use Rattle.inc_terms.specs.Need.{Beside, Holder, Observing, Freezing, Observed}
use Rattle.inc_terms.specs.Within.{Given}
use Rattle.graph.specs.Standing.{GraphView, called_last, cutoff_of, frozen_at, graph, is_marked, times_linked}
use Rattle.node_arena.specs.Arena.{row_at}
use Rattle.observers.specs.declared.observer.Observer.{Observer as Looking}
use Rattle.stabilizer.specs.Look.{is_unfrozen}
use Rattle.script_model.specs.Formula.{State, Body, Entry, Formula, Observer, Meanings, Freeze, body_at, entry_at, formula_of_body}
use Rattle.script_model.specs.Need.{Named, Needed, Visit, IsVisit, roots, stamp_of_body}
use Rattle.script_graph.specs.Kept.{Kept, arena_of, node_in}
use Rattle.script_graph.specs.Represents.{beside, besides, rooted_at}
use Rattle.script_functions.specs.Bodies as Bodies
use Rattle.script_graph.specs.Today.{WasTodays}
use Rattle.stabilize_round.specs.Calls.{arguments_of}
use Rattle.stabilize_round.specs.State.{Call}
use Rattle.transfer.specs.Both.{Both, graph_value}
use Rattle.transfer.specs.Holding.{LinksDepend, MarksAreNew}
use Rattle.transfer.specs.Items.{node_of, FormulasStay, GrabsStay}
use Rattle.transfer.specs.Keeping.{RowsStay}
use Rattle.transfer.specs.Shows.{Fits}

-- ---- beside the graph

-- the observers in use, from the i-th on
abbrev pub observed_from : ℕ → List Looking → List Observed
observed_from i [] = []
observed_from i (o ∷ os) = cond o.in_use (record { observer = record { 0 = i }; node = o.node } ∷ observed_from (suc i) os) (observed_from (suc i) os)

module _ {A : Type 0} where
  -- the node, where it is a freeze that keeps no value and was there when a stabilize was accepted last: need begins at it
  abbrev pub frozen_root : GraphView A → NodeId → Option NodeId
  frozen_root g n = cond (is_unfrozen (row_at g.nodes n) (frozen_at g n) && nat_lt n.gen_ g.since) (Some n) None

  -- for which node a holder has put need on
  abbrev pub root_of : GraphView A → Holder → Option NodeId
  root_of g (Observing o) = rooted_at g o
  root_of g (Freezing n) = frozen_root g n

  -- what stands beside the graph: need of the observers and freezes that the last accepted stabilize saw, the links and last calls since, marks and cutoffs
  abbrev pub side_of : GraphView A → Beside
  side_of g = record {
    roots = root_of g;
    links = λ p q. times_linked g p q;
    last = λ n. arguments_of (called_last g n);
    stale = λ n. is_marked g n;
    cutoff = λ n. cutoff_of g n;
  }

  -- the observers in use
  abbrev pub observed_by : GraphView A → List Observed
  observed_by g = observed_from 0 g.observers

-- ---- what stays of the pair

-- the bind of each scope in which a node stands is built
abbrev pub ScopesBuilt : Graph → Type 0
ScopesBuilt G = (n : NodeId) (r : Row) (b : NodeId) → G.row n ≡ Some r → r.scope ≡ Some b → IsSome (G.built b)

-- live freezes stay
abbrev pub FreezesStay : Graph → Graph → Type 0
FreezesStay G G' = (n : NodeId) (r : Row) (kid : NodeId) (f : FnRef) → G.row n ≡ Some r → r.def ≡ graph_def.Freeze kid f → G'.row n ≡ Some r

-- what has a formula stays whole
abbrev pub BodiesStay : State → State → Type 0
BodiesStay before s = (n : ℕ) (b : Body) → IsSome (formula_of_body b) → body_at before n ≡ Some b → body_at s n ≡ Some b

-- what was declared is declared still: formulas, targets and nodes of names stay, and so do live nodes, rows that formulas may have, freezes, and what
-- binds are built for
pub record StillDeclares (before : State) (nodes : List NodeId) (left : Graph) (s : State) (k : Kept) : Type 0 where
  pub formulas : FormulasStay before s
  pub bodies : BodiesStay before s
  pub targets : (n : ℕ) (e : Entry) → entry_at before n ≡ Some e → (d : Entry) × (entry_at s n ≡ Some d) × (d.target ≡ e.target)
  pub names : (n : ℕ) (e : Entry) → entry_at before n ≡ Some e → node_in k.nodes n ≡ node_in nodes n
  pub rows : RowsStay left (graph k.graph)
  pub freezes : FreezesStay left (graph k.graph)
  pub lives : (n : NodeId) (r : Row) → left.row n ≡ Some r → (q : Row) × ((graph k.graph).row n ≡ Some q)
  pub built : (b : NodeId) (r : Row) → left.row b ≡ Some r → (graph k.graph).built b ≡ left.built b

-- the function of the visit's node was last called with the visit's values
pub record WasRun (x : Both) (k : Kept) (v : Visit) : Type 0 where
  pub node : NodeId
  pub is_node : node_of x v.item ≡ Some node
  pub given : Given (arena_of k).given node
  pub call : Call
  pub is_last : called_last k.graph node ≡ Some call
  pub values_are : call.arguments ≡ map (graph_value x.nodes) v.values

-- the node is that of a freeze that kept no value then
pub record WasUnfrozen (before : State) (nodes : List NodeId) (n : NodeId) : Type 0 where
  pub position : ℕ
  pub child : Formula
  pub predicate : FnRef
  pub was : body_at before position ≡ Some (Freeze child predicate None)
  pub node : node_in nodes position ≡ n

-- so is each for which a freeze has put need on
abbrev pub FreezesWereRoots : State → List NodeId → Kept → Type 0
FreezesWereRoots before nodes k = (f n : NodeId) → frozen_root k.graph f ≡ Some n → WasUnfrozen before nodes n

-- no declaration was asked to run anew less often
abbrev pub StampsGrow : State → State → Type 0
StampsGrow before s = (n : ℕ) → stamp_of_body (body_at before n) ≤ stamp_of_body (body_at s n)

-- what an observer looks at that shows something was a root
abbrev pub ShownWereRoots : State → State → Type 0
ShownWereRoots before s = (x : Observer) → Among x s.observers → IsSome x.shown → Among (Named x.target) (roots before)

-- the pair as the last accepted stabilize left it: the state then, the nodes of its declarations, the bodies that were kept and the graph. The two fit;
-- what was declared then is so still, live grabs live; attached links of what is held are of what points depend on there; what is stale was made so
-- since, and freezes that have put need on were roots, of which none is still to be made; and each call that was needed then was the last one of its node
pub record Settled (F : Meanings) (before s : State) (k : Kept) : Type 0 where
  pub nodes : List NodeId
  pub bodies : List Bodies.Body
  pub left : Graph
  pub one_node_each : length nodes ≡ length before.entries
  pub fits : Fits (besides F before nodes bodies left)
  pub scopes : Scoped left
  pub still : StillDeclares before nodes left s k
  pub built : ScopesBuilt (graph k.graph)
  pub grabs : GrabsStay before s
  pub links : LinksDepend (besides F before nodes bodies left) (side_of k.graph) (observed_by k.graph)
  pub stamps : StampsGrow before s
  pub marks : MarksAreNew (besides F before nodes bodies left) (beside F s k) (side_of k.graph)
  pub freezes : FreezesWereRoots before nodes k
  pub past : k.graph.since ≤ (arena_of k).given
  pub ran : (v : Visit) → IsVisit F before v → Needed F before v.item → WasRun (besides F before nodes bodies left) k v
  pub watched : ShownWereRoots before s
  pub today : WasTodays before k
