-- What the parts of a stabilizer keep between any two calls.
use Rattle.std.specs.Prelude.{◌≡◌, ◌⊎◌, ◌≤◌, ◌<◌, true, List, length, None, Some, IsSome, is_some, vec_capacity}
use Rattle.inc_value.specs.Choice.{Among, Every}
use Rattle.inc_value.specs.declared.function.FnRef.{FnRef}
use Rattle.inc_value.specs.declared.node.NodeId.{NodeId}
use Rattle.inc_value.specs.declared.node.Point.{Point}
use Rattle.inc_value.specs.declared.outcome.Outcome.{Outcome}
use Rattle.inc_value.specs.declared.outcome.Outcome.TheVariants.{Val}
use Rattle.inc_value.specs.declared.value.Value.{Value}
use Rattle.inc_terms.specs.Depend.{main, change, subject_of, right_of}
use Rattle.inc_terms.specs.Graph.{Row, Def, Bind, Freeze, Expert, kids}
use Rattle.inc_terms.specs.Local.{Scoped}
use Rattle.inc_terms.specs.Within.{Given}
use Rattle.point_map.specs.Rows.{at, Holds}
use Rattle.link_table.specs.Links.{Reads}
use Rattle.necessary_graph.specs.Part.{IsInStep, Needed}
use Rattle.node_arena.specs.Arena.{Arena, live, row_at}
use Rattle.node_arena.specs.Sound.{IsSoundArena}
use Rattle.node_arena.specs.Typing.{Fits, FoldTakes}
use Rattle.stabilize_round.specs.Freezing.{found}
use Rattle.stabilize_round.specs.State.{Call}
use Rattle.expert_nodes.specs.Experts.{kids_at}
use Rattle.node_outcomes.specs.Computing.{AreExperts, CallFits, has_part, IsOfType}
use Rattle.node_outcomes.specs.Row.{outcome_in}
use Rattle.node_outcomes.specs.Progress.{Progress}
use Rattle.wiring.specs.Graph.{graph_at, died_at}
use Rattle.wiring.specs.declared.work.Work.{Work}

-- a point of a node that died in this round is linked to its gate
pub record IsGhostLink (work : Work) (p q : Point) : Type 0 where
  pub scope : NodeId
  pub died : died_at work p.node ≡ Some scope
  pub gate : q ≡ change scope

-- a node that died in this round was given, and so was the bind in whose scope it stood, which has a change while it lives
pub record IsDead (arena : Arena) (n scope : NodeId) : Type 0 where
  pub gone : row_at arena n ≡ None
  pub given : Given arena.given n
  pub scope_given : Given arena.given scope
  pub scope_two : (r : Row) → row_at arena scope ≡ Some r → IsSome (subject_of r.def)

-- the definition is a freeze's
abbrev pub IsFreeze : Def → Type 0
IsFreeze (Freeze kid f) = Unit {0}
IsFreeze def = ⊥

-- the definition is of a node that stands in no scope: a freeze's or an expert's
abbrev pub IsTop : Def → Type 0
IsTop (Freeze kid f) = Unit {0}
IsTop (Expert f v ns) = Unit {0}
IsTop def = ⊥

-- a freeze that keeps a value: its predicate was last found true of that
pub record HasFired (arena : Arena) (n : NodeId) (k : Progress) : Type 0 where
  pub row : Row
  pub is_row : row_at arena n ≡ Some row
  pub is_freeze : IsFreeze row.def
  pub value : Value
  pub last : found k.last ≡ Some value

-- what is kept of a node's main has room for the values of as many children as the node's definition lists
abbrev pub FitsRoom : Row → Progress → Type 0
FitsRoom r k = length (kids r.def) ≤ k.room

-- there is room where functions are called: so it is of each live node, and all of them can be listed as those that ran
pub record HasRooms (arena : Arena) (work : Work) : Type 0 where
  pub calls : (n : NodeId) (r : Row) (k : Progress) → row_at arena n ≡ Some r → at work.rows (main n) ≡ Some k → FitsRoom r k
  pub ran : live arena ≤ vec_capacity work.ran

-- the definition is a bind's
abbrev pub IsBind : Def → Type 0
IsBind def = (left : NodeId) × (f : FnRef) × (captures : List NodeId) × (def ≡ Bind left f captures)

-- the points of live nodes are what has rows, and they are there; what else is there is of a dead node, is needed, and was given; what has links has a
-- row, or died in this round and is linked to its gate alone; what is in the heap has a row; the nodes are as every arena keeps them, each in the scope of
-- a live bind that was given before it, or in none; outcomes and calls have their nodes' types, and so have right sides; only binds have roots, and only
-- where their changes keep values; what was settled was so in no later round; nodes of two points, and those in scopes, are listed; live experts alone have
-- lists, of given nodes of the type that their functions take; freezes and experts stand in no scope, and of points only mains of freezes keep values; and there is room where functions are called
pub record IsKept (arena : Arena) (work : Work) : Type 0 where
  pub step : IsInStep work.graph
  pub rows : (p : Point) → is_some (at work.rows p) ≡ has_part (row_at arena p.node) p.part
  pub leaves : (p : Point) → Holds work.graph.heights p → Holds work.rows p ⊎ ((row_at arena p.node ≡ None) × Needed work.graph p)
  pub there : (p : Point) → Holds work.rows p → Holds work.graph.heights p
  pub given : (p : Point) → Holds work.graph.heights p → Given arena.given p.node
  pub links : (p q : Point) → Reads work.graph.links p q → Holds work.rows p ⊎ IsGhostLink work p q
  pub heap : (p : Point) → Holds work.graph.heap p → Holds work.rows p
  pub dead : (n b : NodeId) → died_at work n ≡ Some b → IsDead arena n b
  pub sound : IsSoundArena arena
  pub scopes : Scoped (graph_at arena work)
  pub older : (n b : NodeId) (r : Row) → row_at arena n ≡ Some r → r.scope ≡ Some b → b.gen_ < n.gen_
  pub outcomes : (n : NodeId) (r : Row) (k : Progress) (v : Value) → row_at arena n ≡ Some r → at work.rows (main n) ≡ Some k
      → k.outcome ≡ Some (Val v) → IsOfType arena v r.ty
  pub rights : (n m : NodeId) (r : Row) (k : Progress) (o : Outcome) → row_at arena n ≡ Some r → at work.rows (change n) ≡ Some k
      → k.outcome ≡ Some o → right_of (graph_at arena work) n r.def o ≡ Some m → Given arena.given m × Fits arena m r.ty
  pub roots : (n : NodeId) → Holds work.roots (change n) → (v : Value) × (outcome_in (at work.rows (change n)) ≡ Some (Val v))
  pub binds : (n : NodeId) (r : Row) → row_at arena n ≡ Some r → Holds work.roots (change n) → IsBind r.def
  pub calls : (n : NodeId) (r : Row) (k : Progress) (c : Call) → row_at arena n ≡ Some r → at work.rows (main n) ≡ Some k
      → k.last ≡ Some c → CallFits arena r.def r.ty c
  pub rounds : (p : Point) (k : Progress) → at work.rows p ≡ Some k → k.settled ≤ work.round
  pub pairs : (n : NodeId) (r : Row) → row_at arena n ≡ Some r → IsSome (subject_of r.def) → Among n work.pairs.nodes
  pub scoped : (n : NodeId) (r : Row) → row_at arena n ≡ Some r → IsSome r.scope → Among n work.scoped.nodes
  pub experts : AreExperts arena work.experts
  pub listed : (n : NodeId) → Every (Given arena.given) (kids_at work.experts n)
  pub lists : (n : NodeId) (r : Row) (f : FnRef) (v : Value) (ns : List NodeId) → row_at arena n ≡ Some r → r.def ≡ Expert f v ns
      → FoldTakes arena r.ty (kids_at work.experts n) f.sig.takes
  pub tops : (n : NodeId) (r : Row) → row_at arena n ≡ Some r → IsTop r.def → r.scope ≡ None
  pub frozen : (n : NodeId) (k : Progress) → at work.rows (main n) ≡ Some k → k.frozen ≡ true → HasFired arena n k
  pub rooms : HasRooms arena work
