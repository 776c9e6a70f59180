-- What can be looked at of a graph between two calls.
use Rattle.std.specs.Prelude.{◌≡◌, ◌-◌, ◌+◌, ◌<◌, ◌&&◌, ℕ, Bool, true, false, cond, nat_lt, List, map, Option, None, Some}
use Rattle.inc_value.specs.declared.node.NodeId.{NodeId}
use Rattle.inc_value.specs.declared.node.Point.{Point}
use Rattle.inc_value.specs.declared.outcome.Outcome.{Outcome}
use Rattle.inc_value.specs.Choice.{Reaches}
use Rattle.inc_terms.specs.Depend.{main, change}
use Rattle.inc_terms.specs.Graph.{Graph, Row, Def, Freeze}
use Rattle.inc_value.specs.declared.node.Part.{Part}
use Rattle.inc_value.specs.declared.node.Part.TheVariants.{Main, Change}
use Rattle.inc_value.specs.declared.value.Value.{Value}
use Rattle.expert_nodes.specs.Experts.{is_stale_at}
use Rattle.link_table.specs.Links.{times}
use Rattle.map_nodes.specs.declared.cutoff.Cutoff.{Cutoff}
use Rattle.necessity.specs.Need.{root_times}
use Rattle.node_arena.specs.Arena.{Arena}
use Rattle.node_outcomes.specs.Computing.{seen}
use Rattle.node_outcomes.specs.Row.{cutoff_in, settled_in, outcome_in}
use Rattle.node_outcomes.specs.Progress.{Progress}
use Rattle.point_map.specs.Rows.{at}
use Rattle.stabilize_round.specs.State.{Call, count}
use Rattle.stabilizer.specs.declared.parts.Parts.{Parts}
use Rattle.wiring.specs.Graph.{graph_at}
use Rattle.wiring.specs.declared.work.Work.{Work}

-- ---- what rows tell

-- what a row keeps of the last call
abbrev pub last_of : Option Progress → Option Call
last_of None = None
last_of (Some k) = k.last

-- what a node's function was last called on, and what it gave
abbrev pub last_call : Work → NodeId → Option Call
last_call work n = last_of (at work.rows (main n))

-- the node's cutoff, Equal of one that has no row
abbrev pub cutoff_at : Work → NodeId → Cutoff
cutoff_at work n = cutoff_in (at work.rows (main n))

-- ---- where need begins by itself

-- the point is a main
abbrev pub is_main : Part → Bool
is_main Main = true
is_main Change = false

-- the definition is a freeze's
abbrev pub is_freeze : Def → Bool
is_freeze (Freeze kid f) = true
is_freeze def = false

-- a live node is a freeze that keeps no value
abbrev pub is_unfrozen : Option Row → Option Value → Bool
is_unfrozen (Some r) None = is_freeze r.def
is_unfrozen row value = false

-- how often need begins at a point without an observer: once at the main of a freeze that keeps no value and was given before the count
abbrev pub freeze_roots : Graph → ℕ → Point → ℕ
freeze_roots G since p = cond (is_main p.part && nat_lt p.node.gen_ since && is_unfrozen (G.row p.node) (G.frozen p.node)) 1 0

-- ---- a look

pub record Look : Type 0 where
  -- how many ids were given
  pub given : ℕ
  -- the live nodes, with what binds are built for
  pub graph : Graph
  -- how often need begins at a point
  pub rooted : Point → ℕ
  -- how often a point is linked to another
  pub linked : Point → Point → ℕ
  -- what is shown of a node: the outcome that it had when it was brought up to date last, Invalid of a dead one
  pub shown : NodeId → Option Outcome
  -- by which outcome of its test or child an if, a join or a bind last chose its right side
  pub chosen : NodeId → Option Outcome
  -- what a node's function was last called on, and what it gave
  pub last : NodeId → Option Call
  -- which outcomes of a node are told to its readers
  pub cutoff : NodeId → Cutoff
  -- whether a node was made stale and not computed since
  pub marked : NodeId → Bool
  -- whether a point was settled by the last round, accepted or refused
  pub settled : Point → Bool

-- of nodes and the work on them, where the last round was that of this number
abbrev pub look_of : ℕ → Arena → Work → Look
look_of number arena work = record {
  given = arena.given;
  graph = graph_at arena work;
  rooted = root_times work.graph.roots;
  linked = times work.graph.links;
  shown = λ n. seen work.rows (main n);
  chosen = λ n. outcome_in (at work.rows (change n));
  last = last_call work;
  cutoff = cutoff_at work;
  marked = is_stale_at work.experts;
  settled = λ p. settled_in number (at work.rows p);
}

-- of parts between two rounds: the next round has the next number
abbrev pub look_between : Parts → Look
look_between parts = look_of (parts.work.round - 1) parts.arena parts.work

-- of parts that a refused round left, whose number is still that of the parts
abbrev pub look_refused : Parts → Look
look_refused parts = look_of parts.work.round parts.arena parts.work

-- ---- words for it

-- a point is linked to another
abbrev pub IsLinked : Look → Point → Point → Type 0
IsLinked look p q = 0 < look.linked p q

-- links lead to the point from where need begins
pub record IsNeeded (look : Look) (p : Point) : Type 0 where
  pub root : Point
  pub is_root : 0 < look.rooted root
  pub leads : Reaches (IsLinked look) root p

-- need begins at the mains of these nodes, as often at each as it is listed, and at those of freezes that were given before the count
abbrev pub AreRooted : Look → ℕ → List NodeId → Type 0
AreRooted look since nodes = (p : Point) → look.rooted p ≡ count p (map main nodes) + freeze_roots look.graph since p
