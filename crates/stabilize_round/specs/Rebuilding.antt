-- A bind is built anew: its scope dies, and new nodes are made.
use Rattle.std.specs.Prelude.{◌≡◌, ◌⊎◌, ◌≤◌, ◌+◌, ℕ, true, false, Bool, List, Option, None, Some, IsSome}
use Rattle.inc_value.specs.declared.function.FnRef.{FnRef}
use Rattle.inc_value.specs.declared.node.NodeId.{NodeId}
use Rattle.inc_value.specs.declared.node.Point.{Point}
use Rattle.inc_value.specs.declared.outcome.Outcome.{Outcome}
use Rattle.inc_value.specs.declared.outcome.Outcome.TheVariants.{Val, Invalid}
use Rattle.inc_terms.specs.Term.{Functions}
use Rattle.inc_terms.specs.Graph.{Graph, Row, Built}
use Rattle.inc_terms.specs.Within.{Given, Fit}
use Rattle.inc_terms.specs.Rebuild.{Inside, Names, IsDue, Rebuilt, Rebuilds}
use Rattle.inc_terms.specs.Need.{Keeps}
use Rattle.inc_terms.specs.Depend.{Deaths, main, change}
use Rattle.inc_terms.specs.Local.{IsRooted}
use Rattle.stabilize_round.specs.Counts.{RoseBy}
use Rattle.stabilize_round.specs.Ids.{AllGiven}
use Rattle.stabilize_round.specs.State.{State, Start, Call, Stage, Bare, Gated, Full, Linked}
use Rattle.stabilize_round.specs.Moves.{Quiet, IsLeast}

-- what building a bind anew replaces
pub record Remade : Type 0 where
  pub graph : Graph
  pub died : NodeId → Option NodeId
  pub out : Point → Option Outcome
  pub last : NodeId → Option Call
  pub stage : Point → Stage
  pub heap : Point → Bool
  pub given : ℕ
  pub builds : ℕ
  pub adds : ℕ

-- the state with these
abbrev pub remade : State → Remade → State
remade s m = record s {
  graph = m.graph;
  died = m.died;
  out = m.out;
  last = m.last;
  stage = m.stage;
  heap = m.heap;
  given = m.given;
  builds = m.builds;
  adds = m.adds;
}

-- of live nodes and needed points all stays but the outcome of the bind's change, which is gone; new nodes have none. Of what died nothing is said
-- but that it isn't without its stage
pub record KeptBeside (s : State) (b : NodeId) (m : Remade) : Type 0 where
  pub out : (p : Point) (r : Row) → m.graph.row p.node ≡ Some r → Given s.given p.node → (change b ≡ p → ⊥) → m.out p ≡ s.out p
  pub cleared : m.out (change b) ≡ None
  pub new_out : (p : Point) → s.given ≤ p.node.gen_ → m.out p ≡ None
  pub last : (n : NodeId) (r : Row) → m.graph.row n ≡ Some r → Given s.given n → m.last n ≡ s.last n
  pub new_last : (n : NodeId) → s.given ≤ n.gen_ → m.last n ≡ None
  pub stage : (p : Point) (r : Row) → m.graph.row p.node ≡ Some r → s.needed p ≡ true → m.stage p ≡ s.stage p
  pub ghosts : (p : Point) → m.graph.row p.node ≡ None → s.needed p ≡ true → m.stage p ≡ Bare → ⊥

-- what died isn't in the heap, and what is live and reads it is
pub record HeapAfter (s : State) (b : NodeId) (heap' : Point → Bool) : Type 0 where
  pub kept : (q : Point) → (Inside s.graph b q.node → ⊥) → s.heap q ≡ true → heap' q ≡ true
  pub new : (q : Point) → heap' q ≡ true
      → ((s.heap q ≡ true) × (Inside s.graph b q.node → ⊥))
      ⊎ ((r : Row) × (s.graph.row q.node ≡ Some r) × (s.needed q ≡ true) × (s.settled q ≡ false) × (Inside s.graph b q.node → ⊥)
      × (x : Point) × Inside s.graph b x.node × Linked s q x)
  pub told : (q x : Point) (r : Row) → s.graph.row q.node ≡ Some r → (Inside s.graph b q.node → ⊥) → Inside s.graph b x.node → Linked s q x
      → (heap' q ≡ true) ⊎ (s.settled q ≡ true)

-- new nodes stand in the bind's scope and aren't built, and as many were added as ids were given; what is live then, and what the graph keeps, names
-- what was given
pub record NewNodes (z : Start) (s : State) (b : NodeId) (m : Remade) : Type 0 where
  pub number : ℕ
  pub given : m.given ≡ s.given + number
  pub adds : RoseBy s.adds number m.adds
  pub scope : (n : NodeId) (r : Row) → m.graph.row n ≡ Some r → s.given ≤ n.gen_ → (r.scope ≡ Some b) × Given m.given n
  pub unbuilt : (n : NodeId) → s.given ≤ n.gen_ → m.graph.built n ≡ None
  pub names : Names (Given m.given) (Fit m.given z.known z.ids) m.graph
  pub keeps : Keeps (Given m.given) m.graph m.died

-- a right side is built for a value, and none for Invalid
abbrev pub builds_of : Outcome → ℕ
builds_of (Val v) = 1
builds_of Invalid = 0

-- a bind is due whose change is the least of the heap. Its main has no right side, and the needed points of its scope, and of those within, have
-- their gates' links alone; they die
pub record Rebuild (F : Functions) (z : Start) (s : State) (b : NodeId) (now : Outcome) (m : Remade) : Type 0 where
  pub quiet : Quiet s
  pub given : AllGiven F z s
  pub due : IsDue F s.graph b now
  pub rebuilt : Rebuilt (Given s.given) s.graph m.graph b
  pub deaths : Deaths s.graph m.graph s.died m.died
  pub taken : IsLeast s (change b)
  pub right : s.needed (main b) ≡ true → s.stage (main b) ≡ Full → ⊥
  pub gated : (p : Point) → Inside s.graph b p.node → s.needed p ≡ true → s.stage p ≡ Gated
  pub beside : KeptBeside s b m
  pub heap : HeapAfter s b m.heap
  pub nodes : NewNodes z s b m

-- what it does to the graph
abbrev pub rebuilds : {F : Functions} {z : Start} {s : State} {b : NodeId} {now : Outcome} {m : Remade} → Rebuild F z s b now m
    → Rebuilds F z.known z.ids s.given s.graph m.graph b now
rebuilds r = record { laws = r.given.laws; names = r.given.names; due = r.due; rebuilt = r.rebuilt }

-- the bind is built for the outcome, with a root that reads back as its function's term at it, or with none for Invalid, and then nobody stands in its
-- scope
pub record IsBuiltAnew (F : Functions) (G : Graph) (b : NodeId) (f : FnRef) (captures : List NodeId) (now : Outcome) : Type 0 where
  pub built : Built
  pub is_built : G.built b ≡ Some built
  pub for_outcome : built.outcome ≡ now
  pub rooted : IsRooted F G b f captures built
  pub inside : (n : NodeId) (r : Row) → G.row n ≡ Some r → r.scope ≡ Some b → IsSome built.root
