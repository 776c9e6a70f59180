-- What building a right side adds.
use Rattle.std.specs.Prelude.{◌≡◌, ◌≢◌, ◌⊎◌, ◌↔◌, ◌+◌, ◌-◌, ◌≤◌, ◌<◌, ◌^◌, ℕ, false, None, Some, [], is_some, IsSome, vec_capacity}
use Rattle.inc_value.specs.Choice.{Among}
use Rattle.inc_value.specs.declared.node.NodeId.{NodeId}
use Rattle.inc_value.specs.declared.node.Part.{Part}
use Rattle.inc_value.specs.declared.node.Point.{Point}
use Rattle.inc_terms.specs.Depend.{subject_of}
use Rattle.inc_terms.specs.Graph.{Row}
use Rattle.inc_terms.specs.Within.{Given}
use Rattle.necessary_graph.specs.Part.{Needed, IsInStep}
use Rattle.node_arena.specs.Arena.{Arena, row_at, live, IsLive}
use Rattle.node_arena.specs.Sound.{IsSoundArena}
use Rattle.expert_nodes.specs.Experts.{expert_at}
use Rattle.node_outcomes.specs.Computing.{has_part, is_expert}
use Rattle.node_outcomes.specs.Progress.{Progress, new_row}
use Rattle.point_map.specs.Rows.{at, Holds, KeepsRows}
use Rattle.scopes.specs.Scopes.{Scopes, StandsIn, IsApart}
use Rattle.wiring.specs.Places.{ChangesNode, for_parts}
use Rattle.wiring.specs.Wiring.{KeepsRound}
use Rattle.wiring.specs.declared.work.Work.{Work}
use Rattle.wiring.specs.declared.refused.Refused.{Refused}
use Rattle.wiring.specs.declared.refused.Refused.TheVariants.{Full, Memory}
use Rattle.stabilizer.specs.declared.parts.Parts.{Parts}

-- this is kept of a point of a live node that is new
abbrev pub IsNewRow : Arena → NodeId → Progress → Type 0
IsNewRow arena n k = (r : Row) × (row_at arena n ≡ Some r) × (k ≡ new_row r.def)

-- every id that was given keeps its row, or has none as before, and so do its points. Each further node stands in the bind's scope; nothing was done to its points yet. No link was
-- made, and no root; the time stands
pub record HasGrown (old new : Parts) (b : NodeId) : Type 0 where
  pub later : old.arena.given ≤ new.arena.given
  pub time : new.arena.time ≡ old.arena.time
  pub sound : IsSoundArena new.arena
  pub nodes : (n : NodeId) → Given old.arena.given n → row_at new.arena n ≡ row_at old.arena n
  pub scope : (n : NodeId) (r : Row) → row_at new.arena n ≡ Some r → old.arena.given ≤ n.gen_ → (r.scope ≡ Some b) × Given new.arena.given n
  pub rows : (p : Point) → Given old.arena.given p.node → at new.work.rows p ≡ at old.work.rows p
  pub fresh : (p : Point) (k : Progress) → old.arena.given ≤ p.node.gen_ → at new.work.rows p ≡ Some k → IsNewRow new.arena p.node k
  pub heights : (p : Point) → Given old.arena.given p.node → at new.work.graph.heights p ≡ at old.work.graph.heights p
  pub links : new.work.graph.links ≡ old.work.graph.links
  pub roots : new.work.graph.roots ≡ old.work.graph.roots
  pub heap : KeepsRows old.work.graph.heap new.work.graph.heap
  pub todo : new.work.todo.items ≡ old.work.todo.items
  pub round : KeepsRound (record old.work { ran = new.work.ran }) new.work
  pub called : new.work.ran.items ≡ old.work.ran.items
  pub ran : new.ran.items ≡ old.ran.items

-- the bind's function couldn't build: all stays, but that ids were given, which no node has
pub record IsUnbuilt (old new : Parts) (b : NodeId) : Type 0 where
  pub grown : HasGrown old new b
  pub none : (n : NodeId) → old.arena.given ≤ n.gen_ → row_at new.arena n ≡ None

-- so many nodes live, and so many ids were given in a build whose nodes were dropped again, that no further node could be added
abbrev pub LeavesNoRoom : ℕ → Arena → Type 0
LeavesNoRoom before arena = (1048576 ≤ live arena + (arena.given - before)) ⊎ (arena.given ≡ 2 ^ 64 - 1)

-- a build that began when so many ids were given stops where no further node can be added, or there is no memory
abbrev pub StopsBuilding : ℕ → Arena → Refused → Type 0
StopsBuilding before arena Full = LeavesNoRoom before arena
StopsBuilding before arena Memory = Unit {0}
StopsBuilding before arena e = ⊥

-- ---- points of new nodes

-- a live node whose id was given since the count, and before the next
pub record IsNewBefore (arena : Arena) (count next : ℕ) (n : NodeId) : Type 0 where
  pub live : IsLive arena n
  pub since : count ≤ n.gen_
  pub before : n.gen_ < next

-- points whose nodes' ids were given before the count keep what they have, and so do links, needs, the heap and the round
pub record KeepsOlder (count : ℕ) (old new : Work) : Type 0 where
  pub rows : (p : Point) → p.node.gen_ < count → at new.rows p ≡ at old.rows p
  pub points : (p : Point) → p.node.gen_ < count → at new.graph.heights p ≡ at old.graph.heights p
  pub links : new.graph.links ≡ old.graph.links
  pub roots : new.graph.roots ≡ old.graph.roots
  pub heap : KeepsRows old.graph.heap new.graph.heap
  pub todo : new.todo.items ≡ old.todo.items
  pub round : KeepsRound old new

-- live nodes whose ids were given before the count are listed still
pub record KeepsListed (arena : Arena) (count : ℕ) (old new : Work) : Type 0 where
  pub pairs : (n : NodeId) → n.gen_ < count → IsLive arena n → Among n old.pairs.nodes → Among n new.pairs.nodes
  pub scoped : (n : NodeId) → n.gen_ < count → IsLive arena n → Among n old.scoped.nodes → Among n new.scoped.nodes

-- of the nodes whose ids were given since the count just these have points, those of their definitions
pub record HavePoints (arena : Arena) (count : ℕ) (These : NodeId → Type 0) (work : Work) : Type 0 where
  pub parts : (p : Point) → These p.node → is_some (at work.rows p) ≡ has_part (row_at arena p.node) p.part
  pub alone : (p : Point) → count ≤ p.node.gen_ → Holds work.rows p → These p.node
  pub there : (p : Point) → count ≤ p.node.gen_ → is_some (at work.graph.heights p) ≡ is_some (at work.rows p)

-- these nodes are listed, if they are of two points, and as nodes in scopes
pub record AreListed (arena : Arena) (These : NodeId → Type 0) (work : Work) : Type 0 where
  pub pairs : (n : NodeId) (r : Row) → row_at arena n ≡ Some r → These n → IsSome (subject_of r.def) → Among n work.pairs.nodes
  pub scoped : (n : NodeId) (r : Row) → row_at arena n ≡ Some r → These n → Among n work.scoped.nodes

-- of the nodes whose ids were given since the count just these got points, to which nothing was done yet. There may be more room to list those that ran
pub record HasAdopted (arena : Arena) (count : ℕ) (These : NodeId → Type 0) (old new : Work) : Type 0 where
  pub step : IsInStep new.graph
  pub older : KeepsOlder count (record old { ran = new.ran }) new
  pub ran : new.ran.items ≡ old.ran.items
  pub room : vec_capacity old.ran ≤ vec_capacity new.ran
  pub lists : KeepsListed arena count old new
  pub points : HavePoints arena count These new
  pub fresh : (p : Point) (k : Progress) → count ≤ p.node.gen_ → at new.rows p ≡ Some k → IsNewRow arena p.node k
  pub listed : AreListed arena These new

-- beside those who stood in scopes just these nodes stand in the bind's, and no others wait to be given
pub record HaveEntered (old new : Scopes) (b : NodeId) (These : NodeId → Type 0) : Type 0 where
  pub stands : (n s : NodeId) → StandsIn new n s ↔ (StandsIn old n s ⊎ ((s ≡ b) × These n))
  pub killed : new.killed ≡ old.killed

-- just these nodes got points, and entered the bind's scope
pub record Adopts (old new : Parts) (b : NodeId) (count : ℕ) (These : NodeId → Type 0) : Type 0 where
  pub work : HasAdopted old.arena count These old.work new.work
  pub scopes : HaveEntered old.scopes new.scopes b These
  pub arena : new.arena ≡ old.arena
  pub timed : new.timed ≡ old.timed
  pub dying : new.dying.items ≡ old.dying.items
  pub ran : new.ran.items ≡ old.ran.items
  pub room : vec_capacity old.ran ≤ vec_capacity new.ran

-- so did the nodes whose ids were given since the count and before another
abbrev pub AdoptsBefore : Parts → Parts → NodeId → ℕ → ℕ → Type 0
AdoptsBefore old new b count next = Adopts old new b count (IsNewBefore old.arena count next)

-- no live node was given an id since
abbrev pub NoneSince : Arena → ℕ → Type 0
NoneSince arena next = (n : NodeId) → IsLive arena n → n.gen_ < next

-- nodes can be adopted whose ids were given since the count: they have no points, stand in no scope, and are no experts, nor was one created
pub record MayAdopt (parts : Parts) (count : ℕ) : Type 0 where
  pub sound : IsSoundArena parts.arena
  pub step : IsInStep parts.work.graph
  pub later : count ≤ parts.arena.given
  pub no_row : (p : Point) → count ≤ p.node.gen_ → at parts.work.rows p ≡ None
  pub no_point : (p : Point) → count ≤ p.node.gen_ → at parts.work.graph.heights p ≡ None
  pub apart : (n : NodeId) → count ≤ n.gen_ → IsApart parts.scopes n
  pub plain : (n : NodeId) → count ≤ n.gen_ → is_expert (row_at parts.arena n) ≡ false
  pub no_expert : (n : NodeId) → count ≤ n.gen_ → expert_at parts.work.experts n ≡ None

-- a live node got its points, to which nothing was done yet
pub record GetsPoints (arena : Arena) (old new : Work) (n : NodeId) : Type 0 where
  pub row : Row
  pub is_row : row_at arena n ≡ Some row
  pub heights : Part → ℕ
  pub rows : ChangesNode old.rows new.rows n (for_parts row.def (λ part. new_row row.def))
  pub points : ChangesNode old.graph.heights new.graph.heights n (for_parts row.def heights)
  pub pair : IsSome (subject_of row.def) → Among n new.pairs.nodes
  pub in_scope : Among n new.scoped.nodes

-- links, needs, the heap and the round stay, and live nodes are listed still
pub record KeepsRest (arena : Arena) (old new : Work) : Type 0 where
  pub step : IsInStep new.graph
  pub links : new.graph.links ≡ old.graph.links
  pub roots : new.graph.roots ≡ old.graph.roots
  pub heap : KeepsRows old.graph.heap new.graph.heap
  pub todo : new.todo.items ≡ old.todo.items
  pub round : KeepsRound old new
  pub pairs : (n : NodeId) → IsLive arena n → Among n old.pairs.nodes → Among n new.pairs.nodes
  pub scoped : (n : NodeId) → IsLive arena n → Among n old.scoped.nodes → Among n new.scoped.nodes

-- ---- nodes that are dropped again

-- the nodes whose ids were given since the count can be dropped: just those that stand in the bind's scope have points, and none of these is needed; for
-- none an expert was created. No node stands in the scope of one of them, and none waits to be given
pub record MayDisown (parts : Parts) (b : NodeId) (count : ℕ) : Type 0 where
  pub sound : IsSoundArena parts.arena
  pub step : IsInStep parts.work.graph
  pub later : count ≤ parts.arena.given
  pub points : HavePoints parts.arena count (λ n. StandsIn parts.scopes n b) parts.work
  pub new : (n : NodeId) → StandsIn parts.scopes n b → IsNewBefore parts.arena count parts.arena.given n
  pub unneeded : (p : Point) → count ≤ p.node.gen_ → Needed parts.work.graph p → ⊥
  pub experts : (n : NodeId) → count ≤ n.gen_ → expert_at parts.work.experts n ≡ None
  pub scopes : (n s : NodeId) → StandsIn parts.scopes n s → s.gen_ < count
  pub killed : parts.scopes.killed ≡ []

-- the nodes that stand in the bind's scope can leave it with their points: they are live and no experts, none of their points is needed, no node stands in
-- the scope of one of them, and none waits to be given
pub record MayLeave (parts : Parts) (b : NodeId) : Type 0 where
  pub step : IsInStep parts.work.graph
  pub live : (n : NodeId) → StandsIn parts.scopes n b → IsLive parts.arena n
  pub rows : (p : Point) → StandsIn parts.scopes p.node b → is_some (at parts.work.rows p) ≡ has_part (row_at parts.arena p.node) p.part
  pub there : (p : Point) → StandsIn parts.scopes p.node b → is_some (at parts.work.graph.heights p) ≡ is_some (at parts.work.rows p)
  pub unneeded : (p : Point) → StandsIn parts.scopes p.node b → Needed parts.work.graph p → ⊥
  pub experts : (n : NodeId) → StandsIn parts.scopes n b → expert_at parts.work.experts n ≡ None
  pub nested : (n s : NodeId) → StandsIn parts.scopes n s → StandsIn parts.scopes s b → ⊥
  pub killed : parts.scopes.killed ≡ []

-- just the points of nodes that stood in the bind's scope are gone
pub record LosesPoints (old new : Parts) (b : NodeId) : Type 0 where
  pub row : (p : Point) → StandsIn old.scopes p.node b → at new.work.rows p ≡ None
  pub point : (p : Point) → StandsIn old.scopes p.node b → at new.work.graph.heights p ≡ None
  pub rows : (p : Point) → (StandsIn old.scopes p.node b → ⊥) → at new.work.rows p ≡ at old.work.rows p
  pub points : (p : Point) → (StandsIn old.scopes p.node b → ⊥) → at new.work.graph.heights p ≡ at old.work.graph.heights p

-- links, needs, the heap, the round and the lists of nodes stay
pub record KeepsAllBut (old new : Work) : Type 0 where
  pub step : IsInStep new.graph
  pub links : new.graph.links ≡ old.graph.links
  pub roots : new.graph.roots ≡ old.graph.roots
  pub heap : new.graph.heap ≡ old.graph.heap
  pub todo : new.todo ≡ old.todo
  pub round : KeepsRound old new
  pub pairs : new.pairs ≡ old.pairs
  pub scoped : new.scoped ≡ old.scoped

-- the nodes in the bind's scope lost their points and their places there
pub record HaveLeft (old new : Parts) (b : NodeId) : Type 0 where
  pub points : LosesPoints old new b
  pub rest : KeepsAllBut old.work new.work
  pub stands : (n s : NodeId) → StandsIn new.scopes n s ↔ (StandsIn old.scopes n s × (s ≢ b))
  pub killed : new.scopes.killed ≡ []
  pub arena : new.arena ≡ old.arena
  pub timed : new.timed ≡ old.timed
  pub dying : new.dying.items ≡ old.dying.items
  pub ran : new.ran ≡ old.ran

-- the nodes whose ids were given since the count are dropped, one for each of these ids at most, and the time stands
pub record DropsSince (old new : Arena) (count : ℕ) : Type 0 where
  pub sound : IsSoundArena new
  pub given : new.given ≡ old.given
  pub time : new.time ≡ old.time
  pub nodes : (n : NodeId) → n.gen_ < count → row_at new n ≡ row_at old n
  pub gone : (n : NodeId) → count ≤ n.gen_ → row_at new n ≡ None
  pub room : live old ≤ live new + (old.given - count)

-- of the nodes whose ids were given since the count nothing is left, nor is one of them listed, and all else is as it was
pub record HasDisowned (old new : Parts) (b : NodeId) (count : ℕ) : Type 0 where
  pub arena : DropsSince old.arena new.arena count
  pub step : IsInStep new.work.graph
  pub older : KeepsOlder count old.work new.work
  pub lists : KeepsListed old.arena count old.work new.work
  pub no_pair : (n : NodeId) → Among n new.work.pairs.nodes → n.gen_ < count
  pub no_scoped : (n : NodeId) → Among n new.work.scoped.nodes → n.gen_ < count
  pub no_row : (p : Point) → count ≤ p.node.gen_ → at new.work.rows p ≡ None
  pub no_point : (p : Point) → count ≤ p.node.gen_ → at new.work.graph.heights p ≡ None
  pub stands : (n s : NodeId) → StandsIn new.scopes n s ↔ (StandsIn old.scopes n s × (s ≢ b))
  pub killed : new.scopes.killed ≡ []
  pub timed : new.timed ≡ old.timed
  pub dying : new.dying.items ≡ old.dying.items
  pub ran : new.ran ≡ old.ran
