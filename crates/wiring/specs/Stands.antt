-- How the nodes of an arena, and what a stabilizer keeps of them, stand for a state of a round.
use Rattle.std.specs.Prelude.{◌≡◌, ◌⊎◌, ◌↔◌, ◌&&◌, ℕ, Bool, true, cond, List, [], map, Option, None, Some, is_some, reverse}
use Rattle.inc_value.specs.declared.node.NodeId.{NodeId}
use Rattle.inc_value.specs.declared.node.Point.{Point}
use Rattle.inc_value.specs.Choice.{Among}
use Rattle.inc_terms.specs.Depend.{main}
use Rattle.point_map.specs.Rows.{at}
use Rattle.link_table.specs.Links.{times}
use Rattle.necessity.specs.Need.{root_times}
use Rattle.height_order.specs.Levels.{level}
use Rattle.necessary_graph.specs.Part.{Needed}
use Rattle.node_arena.specs.Arena.{Arena}
use Rattle.expert_nodes.specs.Experts.{fresh_at, is_stale_at}
use Rattle.stabilize_round.specs.State.{State, at_point}
use Rattle.node_outcomes.specs.Row.{is_full, stage_in, stage_of, settled_in}
use Rattle.node_outcomes.specs.Progress.{Progress}
use Rattle.wiring.specs.Graph.{graph_at, died_at}
use Rattle.wiring.specs.declared.work.Work.{Work}

-- a point that is being given its links, and those that are yet to come
pub record PointInHand : Type 0 where
  pub point : Point
  pub owed : List Point

-- the links that a point is owed that is needed, or isn't, beside those of the point in hand: a needed expert that has its links is owed those to what it
-- was linked to since these were taken up
abbrev pub owes : Work → Bool → Point → List Point
owes work needed p = cond (needed && is_full (stage_in (at work.rows p))) (map main (fresh_at work.experts p.node)) []

-- what each point is owed by itself, by who is needed
abbrev pub debts : Work → (Point → Bool) → Point → List Point
debts work needed p = owes work (needed p) p

-- the links that a point is owed: the point in hand has its own
abbrev pub owed_in : (Point → List Point) → Option PointInHand → Point → List Point
owed_in owed None = owed
owed_in owed (Some h) = at_point h.point h.owed owed

-- the point is the one in hand
abbrev pub IsInHand : Option PointInHand → Point → Type 0
IsInHand None p = ⊥
IsInHand (Some h) p = p ≡ h.point

-- how many calls, builds and nodes that were added are counted
pub record Counts : Type 0 where
  pub calls : ℕ
  pub builds : ℕ
  pub adds : ℕ

-- those of a state
abbrev pub counts_of : State → Counts
counts_of s = record { calls = s.calls; builds = s.builds; adds = s.adds }

-- the arena, what is kept beside it, the counts and the point in hand are the state's, where just these points are needed. Heights are told of what is needed
pub record StandsWith (IsNeeded : Point → Type 0) (arena : Arena) (work : Work) (tally : Counts) (hand : Option PointInHand) (s : State) : Type 0 where
  pub graph : s.graph ≡ graph_at arena work
  pub out : (p : Point) (k : Progress) → at work.rows p ≡ Some k → s.out p ≡ k.outcome
  pub last : (n : NodeId) (k : Progress) → at work.rows (main n) ≡ Some k → s.last n ≡ k.last
  pub cutoff : (n : NodeId) (k : Progress) → at work.rows (main n) ≡ Some k → s.cutoff n ≡ k.cutoff
  pub stale : (n : NodeId) → s.stale n ≡ is_stale_at work.experts n
  pub links : (p q : Point) → s.links p q ≡ times work.graph.links p q
  pub root : (p : Point) → s.root p ≡ root_times work.graph.roots p
  pub needed : (p : Point) → (s.needed p ≡ true) ↔ IsNeeded p
  pub height : (p : Point) → IsNeeded p → s.height p ≡ level work.graph.heights p
  pub heap : (p : Point) → s.heap p ≡ is_some (at work.graph.heap p)
  pub settled : (p : Point) → s.settled p ≡ settled_in work.round (at work.rows p)
  pub stage : (p : Point) (k : Progress) → at work.rows p ≡ Some k → s.stage p ≡ stage_of k.stage
  pub owed : (p : Point) → s.owed p ≡ owed_in (debts work s.needed) hand p
  pub todo : (p : Point) → s.todo p ≡ true → Among p work.todo.items ⊎ IsInHand hand p
  pub retries : s.retries ≡ work.retries
  pub died : (n : NodeId) → s.died n ≡ died_at work n
  pub ran : s.ran ≡ reverse work.ran.items
  pub counts : counts_of s ≡ tally
  pub given : s.given ≡ arena.given

-- they are the state's
abbrev pub MatchesState : Arena → Work → Counts → Option PointInHand → State → Type 0
MatchesState arena work counts hand s = StandsWith (Needed work.graph) arena work counts hand s

-- a point in hand
abbrev pub hand : Point → List Point → PointInHand
hand p owed = record { point = p; owed = owed }
