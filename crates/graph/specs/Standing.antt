-- What a contract sees of a graph.
use Rattle.std.specs.Prelude.{◌≡◌, ◌⊎◌, ◌-◌, ℕ, Bool, List, take, Option, None, Some}
use Rattle.inc_value.specs.declared.node.NodeId.{NodeId}
use Rattle.inc_value.specs.declared.node.Point.{Point}
use Rattle.inc_value.specs.declared.outcome.Outcome.{Outcome}
use Rattle.inc_value.specs.declared.value.Value.{Value}
use Rattle.inc_value.specs.Choice.{and_then}
use Rattle.inc_terms.specs.Graph.{Graph, Row, Built}
use Rattle.inc_terms.specs.Rebuild.{Inside}
use Rattle.map_nodes.specs.declared.cutoff.Cutoff.{Cutoff}
use Rattle.node_arena.specs.Arena.{Arena}
pub use Rattle.observers.specs.Observers.{in_use, looked_at, node_at}
use Rattle.observers.specs.declared.notice.Notice.{Notice}
use Rattle.observers.specs.declared.observer.Observer.{Observer}
use Rattle.stabilize_round.specs.State.{Call}
use Rattle.stabilizer.specs.Look as seen
use Rattle.stabilizer.specs.Look.{Look, look_of}
use Rattle.stabilizer.specs.Telling.{shown_or}
use Rattle.wiring.specs.declared.work.Work.{Work}
use Rattle.wiring.specs.declared.refused.Refused.{Refused}
use Rattle.graph.specs.Fault.{kept_of}
use Rattle.graph.specs.declared.fault.Kept.{Kept}

-- a graph
pub record GraphView (F : Type 0) : Type 0 where
  -- its functions
  pub functions : F
  -- its live nodes, by id, and how many ids were given
  pub nodes : Arena
  -- its observers, in the order in which they were made, and how many of them there were when a stabilize was accepted last
  pub observers : List Observer
  pub rooted : ℕ
  -- how many ids had been given then
  pub since : ℕ
  -- what the stabilize that was accepted last told of watched observers
  pub notices : List Notice
  -- whose functions were called by the stabilize that was accepted last, each once
  pub ran : List NodeId
  -- what a refused stabilize met
  pub refused : Option Refused
  -- what its stabilizer works on: contracts speak of it by the words below alone
  pub work : Work

-- ---- scopes

-- top lives outside all scopes, and it is the node, or the node stands in its scope, or in one within it
pub record IsOwner (G : Graph) (n top : NodeId) : Type 0 where
  pub row : Row
  pub is_row : G.row top ≡ Some row
  pub outside : row.scope ≡ None
  pub round : (top ≡ n) ⊎ Inside G top n

-- the root of what is built, if it was built for a value
abbrev pub root_in : Option Built → Option NodeId
root_in built = and_then built (λ (w : Built). w.root)

-- ---- without functions

-- the graph but for its functions
abbrev pub without_functions : {F : Type 0} → GraphView F → GraphView (Unit {0})
without_functions s = record {
  functions = tt;
  nodes = s.nodes;
  observers = s.observers;
  rooted = s.rooted;
  since = s.since;
  notices = s.notices;
  ran = s.ran;
  refused = s.refused;
  work = s.work;
}

-- ---- what can be looked at

-- the number of the last round: that before the number of the next one, or where a round was refused the number that it had
abbrev pub last_round : Option Refused → ℕ → ℕ
last_round None round = round - 1
last_round (Some refused) round = round

module _ {F : Type 0} where
  -- what can be looked at between two calls, by which contracts say what these do
  abbrev pub look : GraphView F → Look
  look s = look_of (last_round s.refused s.work.round) s.nodes s.work

  -- what is shown of a node: the outcome that it had when it was brought up to date last, Invalid of a dead one
  abbrev pub shown_of : GraphView F → NodeId → Option Outcome
  shown_of s n = (look s).shown n

  -- what a node shows, Invalid where it shows nothing
  abbrev pub shows_now : GraphView F → NodeId → Outcome
  shows_now s n = shown_or (shown_of s n)

  -- by which outcome of its test or child an if or a join last chose its right side
  abbrev pub chosen_by : GraphView F → NodeId → Option Outcome
  chosen_by s n = (look s).chosen n

  -- what a node's function was last called on, and what it gave
  abbrev pub called_last : GraphView F → NodeId → Option Call
  called_last s n = (look s).last n

  -- which outcomes of a node are told to its readers
  abbrev pub cutoff_of : GraphView F → NodeId → Cutoff
  cutoff_of s n = (look s).cutoff n

  -- the value that a freeze keeps, if it keeps one
  abbrev pub frozen_at : GraphView F → NodeId → Option Value
  frozen_at s n = (look s).graph.frozen n

  -- the nodes that an expert lists, in order
  abbrev pub listed_by : GraphView F → NodeId → List NodeId
  listed_by s n = (look s).graph.lists n

  -- whether a node was made stale and not computed since
  abbrev pub is_marked : GraphView F → NodeId → Bool
  is_marked s n = (look s).marked n

  -- how often a point is linked to another
  abbrev pub times_linked : GraphView F → Point → Point → ℕ
  times_linked s p q = (look s).linked p q

  -- how often need begins at a point
  abbrev pub times_rooted : GraphView F → Point → ℕ
  times_rooted s p = (look s).rooted p

  -- ---- words for it

  -- no stabilize was refused
  abbrev pub IsUnbroken : GraphView F → Type 0
  IsUnbroken s = s.refused ≡ None

  -- a stabilize was refused for this cause
  abbrev pub IsBroken : GraphView F → Kept → Type 0
  IsBroken s cause = (r : Refused) × (s.refused ≡ Some r) × (kept_of r ≡ cause)

  -- the nodes as a graph, with what binds are built for, freezes keep and experts list. Its evaluation from scratch says what is shown
  abbrev pub graph : GraphView F → Graph
  graph s = (look s).graph

  -- the nodes of the observers in use that were there when a stabilize was accepted last
  abbrev pub rooted_nodes : GraphView F → List NodeId
  rooted_nodes s = in_use (take s.rooted s.observers)

  -- the point is brought up to date by a stabilize: links lead to it from where need begins
  abbrev pub IsNeeded : GraphView F → Point → Type 0
  IsNeeded s p = seen.IsNeeded (look s) p

  -- need begins at the mains of these nodes, as often at each as it is listed, and at those of freezes that keep no value and were there when a stabilize
  -- was accepted last
  abbrev pub AreRooted : GraphView F → List NodeId → Type 0
  AreRooted s nodes = seen.AreRooted (look s) s.since nodes

  -- ---- the next stabilize

  -- its number: one more than as many as were accepted
  abbrev pub next_number : GraphView F → ℕ
  next_number s = s.work.round

  -- the mains of experts that are to be given links by it: of those to which a node was linked since the last one, while they had their links
  abbrev pub newly_linked : GraphView F → List Point
  newly_linked s = s.work.todo.items
