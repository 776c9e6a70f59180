-- What dies with a bind that is built anew.
use Rattle.std.specs.Prelude.{◌≡◌, ◌≢◌, ◌⊎◌, ◌↔◌, ◌++◌, true, false, [], List, Option, None, Some, IsSome, option_map, option_and_then, ◌≤◌, length}
use Rattle.inc_value.specs.declared.node.NodeId.{NodeId}
use Rattle.inc_value.specs.declared.node.Point.{Point}
use Rattle.inc_value.specs.Choice.{Among, NoRepeats, Reaches}
use Rattle.inc_terms.specs.Depend.{main, change}
use Rattle.inc_value.specs.declared.function.FnRef.{FnRef}
use Rattle.inc_terms.specs.Graph.{Graph, Row, Bind}
use Rattle.scopes.specs.Scopes.{StandsIn, node_count}
use Rattle.inc_terms.specs.Rebuild.{Inside}
use Rattle.inc_terms.specs.Term.{Functions}
use Rattle.link_table.specs.Links.{Reads}
use Rattle.point_map.specs.Rows.{at, Holds, Changes}
use Rattle.recompute_heap.specs.Agree.{IsLeast as IsLowest}
use Rattle.height_order.specs.Levels.{level}
use Rattle.necessary_graph.specs.Part.{Needed, IsInStep}
use Rattle.node_arena.specs.Arena.{Arena, row_at, IsLive}
use Rattle.necessary_graph.specs.Sweep.{IsReduced}
use Rattle.node_arena.specs.Sound.{IsSoundArena}
use Rattle.stabilize_round.specs.Invariant.{Invariant}
use Rattle.stabilize_round.specs.Moves.{Quiet, IsLeast}
use Rattle.stabilize_round.specs.State.{State, Start}
use Rattle.stabilize_round.specs.Steps.{Preparing, TakingOff}
use Rattle.node_outcomes.specs.Choosing.{right_in}
use Rattle.node_outcomes.specs.Row.{settled_in, with_stage, without_outcome}
use Rattle.node_outcomes.specs.declared.row.Stage.TheVariants.{Gated}
use Rattle.wiring.specs.Graph.{died_at, rowless}
use Rattle.wiring.specs.Kept.{IsKept}
use Rattle.wiring.specs.Stands.{MatchesState, Counts}
use Rattle.wiring.specs.Scoped.{HasDetached}
use Rattle.wiring.specs.Turning.{IsAttached}
use Rattle.wiring.specs.Wiring.{IsAtGate, KeepsPlaces, OnlyLoses}
use Rattle.wiring.specs.declared.work.Work.{Work}
use Rattle.stabilizer.specs.Kept.{graph_in}
use Rattle.stabilizer.specs.declared.parts.Parts.{Parts}

-- the parts without a point of the heap that none there is lower than
pub record TakesLeast (old taken : Work) (p : Point) : Type 0 where
  pub held : Holds old.graph.heap p
  pub least : IsLowest old.graph.heap (level old.graph.heights p)
  pub heap : Changes old.graph.heap taken.graph.heap p None
  pub graph : taken.graph ≡ record old.graph { heap = taken.graph.heap }
  pub rest : taken ≡ record old { graph = taken.graph }

-- the state is what parts stand for whose heap lacks the change of the node, which was the least there
pub record StandsBefore (parts : Parts) (counts : Counts) (s : State) (n : NodeId) : Type 0 where
  pub work : Work
  pub taken : TakesLeast work parts.work (change n)
  pub stands : MatchesState parts.arena work counts None s

-- no gate of a node in the bind's scope, or in one within it, was settled
abbrev pub GatesWait : State → NodeId → Type 0
GatesWait s b =
    (n c : NodeId) (r : Row) → Inside s.graph b n → s.graph.row n ≡ Some r → r.scope ≡ Some c → s.settled (change c) ≡ false

-- moves that prepare the change of a bind lead to a state that the parts stand for, where the change is the heap's least still. The graph, outcomes
-- and what was settled stay
pub record CutsTo (F : Functions) (z : Start) (s : State) (b : NodeId) (new : Parts) (counts : Counts) (t : State) : Type 0 where
  pub prepared : Reaches (Preparing F z (change b)) s t
  pub stands : MatchesState new.arena new.work counts None t
  pub least : IsLeast t (change b)
  pub quiet : Quiet t
  pub graph : t.graph ≡ s.graph
  pub out : t.out ≡ s.out
  pub settled : t.settled ≡ s.settled

-- so it is from each state that the parts stand for whose heap lacks the bind's change, where that wasn't settled either
abbrev pub CutsOff : Parts → Parts → NodeId → Type 0
CutsOff old new b =
    (F : Functions) (z : Start) (s : State) (counts : Counts) → Invariant F z s → Quiet s → GatesWait s b → s.settled (change b) ≡ false
    → StandsBefore old counts s b → (t : State) × CutsTo F z s b new counts t

-- the points of what stands in the bind's scope, or in one within it, are linked to their gates alone
abbrev pub HaveGatesAlone : Parts → NodeId → Type 0
HaveGatesAlone parts b =
    (p q : Point) (r : Row) (c : NodeId) → Inside (graph_in parts) b p.node → row_at parts.arena p.node ≡ Some r → r.scope ≡ Some c
    → Reads parts.work.graph.links p q → q ≡ change c

-- the bind's main has no right side, and what stands in its scope, or in one within it, has the links to gates alone; the bind's change is in the
-- heap
pub record IsCutOff (old new : Parts) (b : NodeId) : Type 0 where
  pub cuts : CutsOff old new b
  pub kept : IsKept new.arena new.work
  pub gated : (p : Point) → Inside (graph_in new) b p.node → IsAtGate new.work p
  pub gates : HaveGatesAlone new b
  pub right : IsAttached new.work b → ⊥
  pub own : at new.work.rows (change b) ≡ at old.work.rows (change b)
  pub places : KeepsPlaces old.work new.work
  pub rest : new.work ≡ record old.work { graph = new.work.graph; rows = new.work.rows }
  pub arena : new.arena ≡ old.arena
  pub timed : new.timed ≡ old.timed
  pub ran : new.ran ≡ old.ran

-- the bind's change is in the heap, and its main has no right side
pub record LosesRight (arena : Arena) (old new : Work) (b : NodeId) : Type 0 where
  pub row : Row
  pub is_row : row_at arena b ≡ Some row
  pub detached : HasDetached old new b (right_in old.rows old.roots b row.def)
  pub step : IsInStep new.graph
  pub rest : new ≡ record old { graph = new.graph; rows = new.rows }

-- ---- putting back

-- from each state of a round that the parts stand for, in which the gates wait of what is to die, links are taken off
abbrev pub Invalidates : Parts → Parts → NodeId → Type 0
Invalidates old new b =
    (F : Functions) (z : Start) (s : State) (counts : Counts) → Invariant F z s → GatesWait s b → MatchesState old.arena old.work counts None s
    → (t : State) × Reaches (TakingOff F z) s t × MatchesState new.arena new.work counts None t

-- of a needed point all links but those to its gate came off
pub record KeepsGate (old new : Work) (p gate : Point) : Type 0 where
  pub off : (Needed old.graph p × IsReduced (rowless old) old.graph new.graph p gate) ⊎ ((Needed old.graph p → ⊥) × (new ≡ old))
  pub step : IsInStep new.graph
  pub rest : new ≡ record old { graph = new.graph }

-- the point is the gate of a node
abbrev pub IsGateOf : Arena → NodeId → Point → Type 0
IsGateOf arena n p = (r : Row) × (c : NodeId) × (row_at arena n ≡ Some r) × (r.scope ≡ Some c) × (p ≡ change c)

-- a node's gate wasn't settled
abbrev pub GateWaits : Arena → State → NodeId → Type 0
GateWaits arena s n = (r : Row) (c : NodeId) → row_at arena n ≡ Some r → r.scope ≡ Some c → s.settled (change c) ≡ false

-- from each state that the parts stand for, in which its gate waits, links of the node's points are taken off
abbrev pub PutsBack : Arena → Work → Work → NodeId → Type 0
PutsBack arena old new n =
    (F : Functions) (z : Start) (s : State) (counts : Counts) → Invariant F z s → GateWaits arena s n → MatchesState arena old counts None s
    → (t : State) × Reaches (TakingOff F z) s t × MatchesState arena new counts None t

-- the points of a node that stands in a scope have the links to their gate alone, for which they wait
pub record IsPutToGate (arena : Arena) (old new : Work) (n : NodeId) : Type 0 where
  pub taken : PutsBack arena old new n
  pub kept : IsKept arena new
  pub gated : (p : Point) → p.node ≡ n → IsAtGate new p
  pub gates : (p q : Point) → p.node ≡ n → Reads new.graph.links p q → IsGateOf arena n q
  pub loses : OnlyLoses old.graph new.graph
  pub heap : (p : Point) → Holds new.graph.heap p → Holds old.graph.heap p ⊎ (p.node ≡ n) ⊎ IsGateOf arena n p
  pub rows : (p : Point) → (at new.rows p ≡ at old.rows p) ⊎ ((p.node ≡ n) × (at new.rows p ≡ option_map (with_stage Gated) (at old.rows p)))
  pub places : KeepsPlaces old new
  pub rest : new ≡ record old { graph = new.graph; rows = new.rows }

-- so it was done to nodes inside the bind's scope
pub record AreInvalidated (old new : Parts) (b : NodeId) : Type 0 where
  pub invalidates : Invalidates old new b
  pub kept : IsKept new.arena new.work
  pub loses : OnlyLoses old.work.graph new.work.graph
  pub heap : (p : Point) → Holds new.work.graph.heap p → Holds old.work.graph.heap p ⊎ Inside (graph_in old) b p.node
      ⊎ ((n : NodeId) × Inside (graph_in old) b n × IsGateOf old.arena n p)
  pub rows : (p : Point) → (at new.work.rows p ≡ at old.work.rows p)
      ⊎ (Inside (graph_in old) b p.node × (at new.work.rows p ≡ option_map (with_stage Gated) (at old.work.rows p)))
  pub places : KeepsPlaces old.work new.work
  pub rest : new.work ≡ record old.work { graph = new.work.graph; rows = new.work.rows }
  pub arena : new.arena ≡ old.arena
  pub timed : new.timed ≡ old.timed
  pub ran : new.ran ≡ old.ran

-- just the nodes of the bind's scope, and of those within it, are listed, each once
pub record AreDying (G : Graph) (b : NodeId) (nodes : List NodeId) : Type 0 where
  pub all : (n : NodeId) → Among n nodes ↔ Inside G b n
  pub once : NoRepeats nodes

-- who stood in the bind's scope, or in one within it, stands in none by the scopes; all others stand where they stood, and none waits to be given
pub record LeavesStanding (old new : Parts) (b : NodeId) : Type 0 where
  pub stands : (n c : NodeId) → StandsIn new.scopes n c ↔ (StandsIn old.scopes n c × (Inside (graph_in old) b n → ⊥))
  pub none : new.scopes.killed ≡ []

-- by the scopes those stand in scopes that do so by the nodes, but for what is inside the bind's
pub record StandsBut (parts : Parts) (b : NodeId) : Type 0 where
  pub stands : (n c : NodeId) → StandsIn parts.scopes n c
      ↔ ((r : Row) × (row_at parts.arena n ≡ Some r) × (r.scope ≡ Some c) × (Inside (graph_in parts) b n → ⊥))
  pub none : parts.scopes.killed ≡ []

-- all of them were put back to their gates, and are listed
pub record IsInvalidated (old new : Parts) (b : NodeId) : Type 0 where
  pub done : AreInvalidated old new b
  pub gated : (p : Point) → Inside (graph_in new) b p.node → IsAtGate new.work p
  pub gates : HaveGatesAlone new b
  pub dying : AreDying (graph_in new) b new.dying.items
  pub few : length new.dying.items ≤ node_count old.scopes
  pub scopes : LeavesStanding old new b

-- the scope in which a live node stands
abbrev pub scope_at : Arena → NodeId → Option NodeId
scope_at arena n = option_and_then (λ (r : Row). r.scope) (row_at arena n)

-- a live bind
abbrev pub IsBindNode : Arena → NodeId → Type 0
IsBindNode arena n = (r : Row) × (l : NodeId) × (f : FnRef) × (captures : List NodeId) × (row_at arena n ≡ Some r) × (r.def ≡ Bind l f captures)

-- a node that is a bind has this function
abbrev pub IsBindOf : Arena → NodeId → FnRef → Type 0
IsBindOf arena n f = (r : Row) (l : NodeId) (g : FnRef) (captures : List NodeId) → row_at arena n ≡ Some r → r.def ≡ Bind l g captures → g ≡ f

-- ---- dying

-- of the nodes just those inside the bind's scope died, and the bind is built for nothing; the time stands. What lives on and read one of them is in the heap, unless it was settled;
-- of what died nothing is kept but its needed points with their links
pub record HasDied (old new : Parts) (b : NodeId) : Type 0 where
  pub given : new.arena.given ≡ old.arena.given
  pub time : new.arena.time ≡ old.arena.time
  pub sound : IsSoundArena new.arena
  pub nodes : (n : NodeId) → (Inside (graph_in old) b n × (row_at new.arena n ≡ None))
      ⊎ ((Inside (graph_in old) b n → ⊥) × (row_at new.arena n ≡ row_at old.arena n))
  pub rows : (p : Point) → (Inside (graph_in old) b p.node → ⊥) → p ≢ change b → at new.work.rows p ≡ at old.work.rows p
  pub own : at new.work.rows (change b) ≡ option_map without_outcome (at old.work.rows (change b))
  pub gone : (p : Point) → Inside (graph_in old) b p.node → at new.work.rows p ≡ None
  pub roots : (p : Point) → (Inside (graph_in old) b p.node → ⊥) → p ≢ change b → at new.work.roots p ≡ at old.work.roots p
  pub own_root : at new.work.roots (change b) ≡ None
  pub rootless : (n : NodeId) → Inside (graph_in old) b n → at new.work.roots (change n) ≡ None
  pub links : new.work.graph.links ≡ old.work.graph.links
  pub graph_roots : new.work.graph.roots ≡ old.work.graph.roots
  pub heights : (p : Point) → (Inside (graph_in old) b p.node → ⊥) ⊎ Needed old.work.graph p
      → at new.work.graph.heights p ≡ at old.work.graph.heights p
  pub dropped : (p : Point) → Inside (graph_in old) b p.node → (Needed old.work.graph p → ⊥) → at new.work.graph.heights p ≡ None
  pub out : (p : Point) → Inside (graph_in old) b p.node → at new.work.graph.heap p ≡ None
  pub heap : (p : Point) → (Inside (graph_in old) b p.node → ⊥) → Holds old.work.graph.heap p → Holds new.work.graph.heap p
  pub told : (p : Point) (n : NodeId) → (Inside (graph_in old) b p.node → ⊥) → Inside (graph_in old) b n → Reads old.work.graph.links p (main n)
      → Holds new.work.graph.heap p ⊎ (settled_in old.work.round (at old.work.rows p) ≡ true)
  pub only : (p : Point) → Holds new.work.graph.heap p → Holds old.work.graph.heap p
      ⊎ ((settled_in old.work.round (at old.work.rows p) ≡ false) × (n : NodeId) × Inside (graph_in old) b n × Reads old.work.graph.links p (main n))
  pub died : (n : NodeId) (r : Row) → row_at old.arena n ≡ Some r → Inside (graph_in old) b n → died_at new.work n ≡ r.scope
  pub died_before : (n : NodeId) → (Inside (graph_in old) b n → ⊥) → died_at new.work n ≡ died_at old.work n
  pub pairs : new.work.pairs.nodes ≡ old.work.pairs.nodes
  pub scoped : new.work.scoped.nodes ≡ old.work.scoped.nodes
  pub todo : new.work.todo.items ≡ old.work.todo.items
  pub called : new.work.ran ≡ old.work.ran
  pub retries : new.work.retries ≡ old.work.retries
  pub round : new.work.round ≡ old.work.round
  pub experts : new.work.experts ≡ old.work.experts
  pub ran : new.ran ≡ old.ran

-- ---- step by step

-- the nodes are among those that died in the round, each with its scope, and all else stays
pub record AreListed (arena : Arena) (old new : Work) (nodes : List NodeId) : Type 0 where
  pub died : (n : NodeId) → Among n nodes → died_at new n ≡ scope_at arena n
  pub others : (n : NodeId) → (Among n nodes → ⊥) → died_at new n ≡ died_at old n
  pub rest : new ≡ record old { deaths = new.deaths }

-- just the nodes stand behind those that stood there before, each once
pub record AreBehind (old new nodes : List NodeId) : Type 0 where
  pub more : List NodeId
  pub behind : new ≡ old ++ more
  pub same : (n : NodeId) → Among n more ↔ Among n nodes
  pub once : NoRepeats more

-- the nodes are live with their points, are listed once each, and are among those that died in the round
pub record MayForget (arena : Arena) (work : Work) (nodes : List NodeId) : Type 0 where
  pub sound : IsSoundArena arena
  pub step : IsInStep work.graph
  pub once : NoRepeats nodes
  pub live : (n : NodeId) → Among n nodes → IsLive arena n
  pub died : (n : NodeId) → Among n nodes → IsSome (died_at work n)
  pub mains : (n : NodeId) → Among n nodes → Holds work.rows (main n) × Holds work.graph.heights (main n)
  pub changes : (n : NodeId) → Among n nodes → Holds work.rows (change n) → Holds work.graph.heights (change n)

-- the nodes were dropped, and nothing is kept of them but their needed points with their links. What reads the main of one, and isn't of a node that
-- died in the round, is in the heap, unless it was settled
pub record AreForgotten (before arena : Arena) (old new : Work) (nodes : List NodeId) : Type 0 where
  pub given : arena.given ≡ before.given
  pub time : arena.time ≡ before.time
  pub sound : IsSoundArena arena
  pub dead : (n : NodeId) → Among n nodes → row_at arena n ≡ None
  pub others : (n : NodeId) → (Among n nodes → ⊥) → row_at arena n ≡ row_at before n
  pub rows : (p : Point) → (Among p.node nodes → ⊥) → at new.rows p ≡ at old.rows p
  pub gone : (p : Point) → Among p.node nodes → at new.rows p ≡ None
  pub roots : (p : Point) → (Among p.node nodes → ⊥) → at new.roots p ≡ at old.roots p
  pub fewer : (p : Point) → at old.roots p ≡ None → at new.roots p ≡ None
  pub rootless : (n : NodeId) → Among n nodes → Holds old.rows (change n) → at new.roots (change n) ≡ None
  pub links : new.graph.links ≡ old.graph.links
  pub graph_roots : new.graph.roots ≡ old.graph.roots
  pub heights : (p : Point) → (Among p.node nodes → ⊥) ⊎ Needed old.graph p → at new.graph.heights p ≡ at old.graph.heights p
  pub dropped : (p : Point) → Among p.node nodes → Holds old.rows p → (Needed old.graph p → ⊥) → at new.graph.heights p ≡ None
  pub absent : (p : Point) → at old.graph.heights p ≡ None → at new.graph.heights p ≡ None
  pub out : (p : Point) → Among p.node nodes → Holds old.rows p → at new.graph.heap p ≡ None
  pub heap : (p : Point) → (Among p.node nodes → ⊥) → Holds old.graph.heap p → Holds new.graph.heap p
  pub told : (p : Point) (n : NodeId) → Among n nodes → Reads old.graph.links p (main n)
      → Holds new.graph.heap p ⊎ (settled_in old.round (at old.rows p) ≡ true) ⊎ IsSome (died_at old p.node)
  pub only : (p : Point) → Holds new.graph.heap p → Holds old.graph.heap p
      ⊎ ((settled_in old.round (at old.rows p) ≡ false) × (died_at old p.node ≡ None)
      × (n : NodeId) × Among n nodes × Reads old.graph.links p (main n))
  pub deaths : new.deaths ≡ old.deaths
  pub pairs : new.pairs.nodes ≡ old.pairs.nodes
  pub scoped : new.scoped.nodes ≡ old.scoped.nodes
  pub todo : new.todo.items ≡ old.todo.items
  pub ran : new.ran ≡ old.ran
  pub retries : new.retries ≡ old.retries
  pub round : new.round ≡ old.round
  pub experts : new.experts ≡ old.experts
