-- The state of a round.
use Rattle.std.specs.Prelude.{◌<◌, ◌+◌, ℕ, Bool, true, false, cond, ◌&&◌, List, [], ◌∷◌, ◌++◌, Option, None, Some}
use Rattle.inc_value.specs.declared.function.FnRef.{FnRef}
use Rattle.inc_value.specs.declared.node.NodeId.{NodeId}
use Rattle.inc_value.specs.declared.node.Part.{Part}
use Rattle.inc_value.specs.declared.node.Part.TheVariants.{Change, Main}
use Rattle.inc_value.specs.declared.node.Point.{Point}
use Rattle.inc_value.specs.declared.outcome.Outcome.{Outcome}
use Rattle.inc_value.specs.declared.value.Value.{Value}
use Rattle.inc_value.specs.Choice.{Reaches}
use Rattle.map_nodes.specs.declared.cutoff.Cutoff.{Cutoff}
use Rattle.inc_terms.specs.Same.{same_node}
use Rattle.inc_terms.specs.Graph.{Graph, Row}
use Rattle.inc_terms.specs.Depend.{fixed_reads}
use Rattle.inc_terms.specs.Plan.{gate_of, plan}

-- the same part, as a test
abbrev pub same_part : Part → Part → Bool
same_part Main Main = true
same_part Change Change = true
same_part a b = false

-- the same point, as a test
abbrev pub same_point : Point → Point → Bool
same_point p q = same_part p.part q.part && same_node p.node q.node

-- the function with another value at one point
unfoldable pub at_point : {A : Type 0} → Point → A → (Point → A) → Point → A
at_point p a f q = cond (same_point p q) a (f q)

-- the function with another value at one node
unfoldable pub at_node : {A : Type 0} → NodeId → A → (NodeId → A) → NodeId → A
at_node n a f m = cond (same_node n m) a (f m)

-- 1 where the points are one
unfoldable pub one : Point → Point → ℕ
one p q = cond (same_point p q) 1 0

-- how often the point stands in the list
abbrev pub count : Point → List Point → ℕ
count p [] = 0
count p (q ∷ qs) = one p q + count p qs

-- which links a point has: none yet; its gate's; moreover its own change's; all
pub data Stage : Type 0 where
  Bare : Stage
  Gated : Stage
  Static : Stage
  Full : Stage

-- a call: what a function was last called on, and what it gave
pub record Call : Type 0 where
  pub arguments : List Value
  pub result : Value

-- how often refused links may be tried again in a round
abbrev pub all_retries : ℕ
all_retries = 1024

-- a state of a round: the graph; per point its outcome, its links, how often it is a root, whether it is needed, its height, whether it is in the
-- heap, whether it was settled in the round, its stage, the links that it is yet to be given, and whether it is in the worklist; per node its
-- last call; the point that was settled last; how often refused links may still be tried again in the round: where never, the round is strict, and
-- refusals are final; the nodes that died in the round, with their scopes;
-- the nodes whose functions were called in it; the counts of calls, of builds, of nodes that were added, and of ids that were given; each node's cutoff;
-- and the experts that were made stale and didn't run since
pub record State : Type 0 where
  pub graph : Graph
  pub out : Point → Option Outcome
  pub last : NodeId → Option Call
  pub links : Point → Point → ℕ
  pub root : Point → ℕ
  pub needed : Point → Bool
  pub height : Point → ℕ
  pub heap : Point → Bool
  pub settled : Point → Bool
  pub stage : Point → Stage
  pub owed : Point → List Point
  pub todo : Point → Bool
  pub taken : Option Point
  pub retries : ℕ
  pub died : NodeId → Option NodeId
  pub ran : List NodeId
  pub calls : ℕ
  pub builds : ℕ
  pub adds : ℕ
  pub given : ℕ
  pub cutoff : NodeId → Cutoff
  pub stale : NodeId → Bool

-- what a round began with: what was held, last calls, the count of calls; the functions that are known, with the nodes that each may name; each
-- node's cutoff; and the experts that were made stale
pub record Start : Type 0 where
  pub held : Point → Bool
  pub last : NodeId → Option Call
  pub calls : ℕ
  pub known : FnRef → Bool
  pub ids : FnRef → List NodeId
  pub cutoff : NodeId → Cutoff
  pub stale : NodeId → Bool

-- linked at least once
abbrev pub Linked : State → Point → Point → Type 0
Linked s p q = 0 < s.links p q

-- reached from a root over links
abbrev pub Reached : State → Point → Type 0
Reached s p = (r : Point) × (0 < s.root r) × Reaches (Linked s) r p

-- the links of a point at a stage
abbrev pub live_plan : Graph → (Point → Option Outcome) → Point → Row → Stage → List Point
live_plan G out p r Bare = []
live_plan G out p r Gated = gate_of r.scope
live_plan G out p r Static = gate_of r.scope ++ fixed_reads G p.node r.def p.part
live_plan G out p r Full = plan G out p r

-- a point of a node that died in the round has its gate's link alone
abbrev pub ghost_plan : Option NodeId → Stage → List Point
ghost_plan scope Bare = []
ghost_plan scope stage = gate_of scope

-- the links of a point at a stage, by its node's row
abbrev pub plan_at : Graph → (Point → Option Outcome) → (NodeId → Option NodeId) → Point → Option Row → Stage → List Point
plan_at G out died p None stage = ghost_plan (died p.node) stage
plan_at G out died p (Some r) stage = live_plan G out p r stage

-- the links of a point at its present stage
abbrev pub planned : State → Point → List Point
planned s p = plan_at s.graph s.out s.died p (s.graph.row p.node) (s.stage p)
