-- What stands between rounds, of the parts alone, and what calls made there leave.
use Rattle.std.specs.Prelude.{◌≡◌, ◌≢◌, ◌⊎◌, ◌↔◌, ◌+◌, ◌++◌, ◌<◌, ◌≤◌, ℕ, Bool, false, true, List, [], ◌∷◌, Option, None, Some, vec_capacity}
use Rattle.inc_value.specs.Choice.{Among}
use Rattle.inc_value.specs.declared.node.NodeId.{NodeId}
use Rattle.inc_value.specs.declared.node.Point.{Point}
use Rattle.inc_value.specs.declared.outcome.Outcome.{Outcome}
use Rattle.inc_value.specs.declared.value.Value.{Value}
use Rattle.inc_terms.specs.Clock.{clock_value}
use Rattle.inc_terms.specs.Depend.{main, change, subject_of}
use Rattle.inc_terms.specs.Graph.{Row, Var}
use Rattle.inc_terms.specs.Local.{shown, Agrees, IsBuilt}
use Rattle.inc_terms.specs.Plan.{plan}
use Rattle.inc_terms.specs.Term.{Functions}
use Rattle.point_map.specs.Rows.{at, Holds, KeepsRows}
use Rattle.link_table.specs.Links.{times}
use Rattle.necessary_graph.specs.Part.{Needed, NecessaryPart}
use Rattle.necessary_graph.specs.Sweep.{IsUnlinked, IsUnrooted}
use Rattle.necessity.specs.Need.{OneRootMore}
use Rattle.node_arena.specs.Arena.{Arena, row_at, live, Changes, with_value}
use Rattle.inc_terms.specs.Work.{taken_by}
use Rattle.expert_nodes.specs.Experts.{ExpertChanges, KeepsExperts, expert_at, expert_of, is_stale_at, kids_at, marked as marked_so, taken_at, with_link, without_link}
use Rattle.stabilize_round.specs.Freezing.{fires}
use Rattle.stabilize_round.specs.State.{Call, count, all_retries}
use Rattle.stabilize_round.specs.Invariant.{IsUnmarked, Recalls, ScopesRooted}
use Rattle.node_outcomes.specs.Computing.{KeepsAnswers}
use Rattle.node_outcomes.specs.Meaning.{Meaning}
use Rattle.wiring.specs.Graph.{graph_at, died_at, rowless}
use Rattle.wiring.specs.Kept.{IsKept}
use Rattle.stabilizer.specs.Kept.{PartsKept}
use Rattle.stabilizer.specs.declared.parts.Parts.{Parts}
use Rattle.map_nodes.specs.declared.cutoff.Cutoff.TheVariants.{Equal}
use Rattle.stabilizer.specs.Look.{last_call, cutoff_at}
use Rattle.stabilizer.specs.Round.{IsReady, AreRooted}
use Rattle.node_outcomes.specs.Row.{kept_in, settled_in, outcome_in}
use Rattle.wiring.specs.Stands.{owes}
use Rattle.wiring.specs.Places.{ChangesNode}
use Rattle.wiring.specs.Wiring.{IsMarked, KeepsRound}
use Rattle.node_outcomes.specs.Progress.{Progress}
use Rattle.node_outcomes.specs.declared.row.Stage.TheVariants.{Full}
use Rattle.wiring.specs.declared.work.Work.{Work}

-- outcomes by point
abbrev pub out_of : Work → Point → Option Outcome
out_of work p = outcome_in (at work.rows p)

-- a point's links, and those that it is owed, are what it reads
abbrev pub HasItsLinks : Arena → Work → Point → Row → Type 0
HasItsLinks arena work p r =
    (q : Point) → times work.graph.links p q + count q (owes work true p) ≡ count q (plan (graph_at arena work) (out_of work) p r)

-- a point agrees with what it is linked to, its function was last called on that, it isn't stale, and it is owed no links
pub record IsCurrent (F : Functions) (arena : Arena) (work : Work) (p : Point) : Type 0 where
  pub agrees : Agrees F (graph_at arena work) (out_of work) p
  pub recalls : Recalls (graph_at arena work) (shown (graph_at arena work) (out_of work)) (last_call work) p
  pub unmarked : IsUnmarked (is_stale_at work.experts) p
  pub unowed : owes work true p ≡ []

-- a needed point of a live node has all its links, but what an expert is owed, which is in the worklist then; and it is in the heap, or current; a bind whose
-- change has run is built for the outcome; each scope is that of a bind with a root; no freeze that keeps no value was last found true; nothing was settled,
-- called or found final since the last round, and no node died
pub record IsBetween (F : Functions) (arena : Arena) (work : Work) : Type 0 where
  pub kept : IsKept arena work
  pub full : (p : Point) (k : Progress) → Needed work.graph p → at work.rows p ≡ Some k → k.stage ≡ Full
  pub links : (p : Point) (r : Row) → Needed work.graph p → row_at arena p.node ≡ Some r → HasItsLinks arena work p r
  pub owing : (p : Point) → Needed work.graph p → (owes work true p ≡ [] → ⊥) → Among p work.todo.items
  pub fresh : (p : Point) (r : Row) → Needed work.graph p → row_at arena p.node ≡ Some r → Holds work.graph.heap p ⊎ IsCurrent F arena work p
  pub built : (n : NodeId) (r : Row) (o : Outcome) → row_at arena n ≡ Some r → out_of work (change n) ≡ Some o → IsBuilt F (graph_at arena work) n r.def o
  pub inside : ScopesRooted (graph_at arena work)
  pub answers : KeepsAnswers F (graph_at arena work) work.rows
  pub unsettled : (p : Point) → settled_in work.round (at work.rows p) ≡ false
  pub deaths : (n : NodeId) → died_at work n ≡ None
  pub numbered : 0 < work.round
  pub retries : work.retries ≡ all_retries
  pub unfired : (n : NodeId) (r : Row) → row_at arena n ≡ Some r → fires r.def (kept_in (at work.rows (main n))) (last_call work n) ≡ None
  pub ran : work.ran.items ≡ []

-- of what is kept beside the nodes all stays, of experts what is seen of each; there may be more room to list those that ran
pub record KeepsWork (old new : Work) : Type 0 where
  pub rows : KeepsRows old.rows new.rows
  pub points : KeepsRows old.graph.heights new.graph.heights
  pub links : new.graph.links ≡ old.graph.links
  pub roots : new.graph.roots ≡ old.graph.roots
  pub heap : KeepsRows old.graph.heap new.graph.heap
  pub todo : new.todo.items ≡ old.todo.items
  pub round : KeepsRound (record old { experts = new.experts; ran = new.ran }) new
  pub ran : new.ran.items ≡ old.ran.items
  pub room : vec_capacity old.ran ≤ vec_capacity new.ran
  pub experts : KeepsExperts old.experts new.experts

-- the node stands in the scope with this row, or is a variable there, as it was
pub record StandsAs (arena : Arena) (n b : NodeId) (was : Row) : Type 0 where
  pub row : Row
  pub is_row : row_at arena n ≡ Some row
  pub scope : row.scope ≡ Some b
  pub same : (row ≡ was) ⊎ ((v : Value) × (was.def ≡ Var v))

-- the point keeps its links, and its node, if that is an expert, its list and its mark; if it was in the worklist, it is
pub record KeepsList (old work : Work) (p : Point) : Type 0 where
  pub links : (q : Point) → times work.graph.links p q ≡ times old.graph.links p q
  pub expert : expert_at work.experts p.node ≡ expert_at old.experts p.node
  pub listed : Among p old.todo.items → Among p work.todo.items

-- the point is in the heap, as its list or its mark is another: it has its links, and is in the worklist where it is owed some, if it was so before
pub record HasAnotherList (before arena : Arena) (old work : Work) (p : Point) : Type 0 where
  pub heap : Holds work.graph.heap p
  pub row : row_at arena p.node ≡ row_at before p.node
  pub links : (r : Row) → row_at before p.node ≡ Some r → HasItsLinks before old p r → HasItsLinks arena work p r
  pub owing : ((owes old true p ≡ [] → ⊥) → Among p old.todo.items) → (owes work true p ≡ [] → ⊥) → Among p work.todo.items

-- between rounds this may change: less may be needed, and what is so keeps its row and its place in the heap, and its links and its list, or is in the heap
-- and has another list; its node shows what it showed by the clock, and stays, or is in the heap and shows another value, or is a variable with one; what was
-- called or has run was so before; no row is settled that wasn't; live binds keep their roots, and live nodes the outcomes of their changes; and the nodes in
-- scopes stand there as they did, each as it is, but for variables
pub record Stays (before arena : Arena) (old work : Work) : Type 0 where
  pub needed : (p : Point) → Needed work.graph p → Needed old.graph p
  pub clock : (p : Point) (r : Row) → Needed work.graph p → row_at arena p.node ≡ Some r
      → Holds work.graph.heap p ⊎ (clock_value arena.time r.def ≡ clock_value before.time r.def)
  pub lists : (p : Point) → Needed work.graph p → KeepsList old work p ⊎ HasAnotherList before arena old work p
  pub heap : (p : Point) → Needed work.graph p → Holds old.graph.heap p → Holds work.graph.heap p
  pub rows : (p : Point) → Needed work.graph p → at work.rows p ≡ at old.rows p
  pub nodes : (p : Point) (r : Row) → Needed work.graph p → row_at arena p.node ≡ Some r → (row_at before p.node ≡ Some r)
      ⊎ (Holds work.graph.heap p × (was : Row) × (v w : Value) × (row_at before p.node ≡ Some was) × (was.def ≡ Var w) × (r ≡ with_value was v))
  pub calls : (n : NodeId) (r : Row) (nodes : List NodeId) (k : Progress) (c : Call) → row_at arena n ≡ Some r → taken_by (graph_at arena work) n r.def ≡ Some nodes
      → at work.rows (main n) ≡ Some k → k.last ≡ Some c → (row_at before n ≡ Some r) × (at old.rows (main n) ≡ Some k)
  pub runs : (n s : NodeId) (r : Row) (o : Outcome) → row_at arena n ≡ Some r → subject_of r.def ≡ Some s → out_of work (change n) ≡ Some o
      → (row_at before n ≡ Some r) × (out_of old (change n) ≡ Some o)
  pub unsettled : (p : Point) (k : Progress) → at work.rows p ≡ Some k → (at old.rows p ≡ Some k) ⊎ (k.settled ≡ 0)
  pub roots : (n : NodeId) (r : Row) → row_at arena n ≡ Some r → at work.roots (change n) ≡ at old.roots (change n)
  pub outcomes : (n : NodeId) (was r : Row) → row_at before n ≡ Some was → row_at arena n ≡ Some r → out_of work (change n) ≡ out_of old (change n)
  pub scoped : (n b : NodeId) (r : Row) → row_at before n ≡ Some r → r.scope ≡ Some b → StandsAs arena n b r
  pub entered : (n b : NodeId) (r : Row) → row_at arena n ≡ Some r → r.scope ≡ Some b
      → (was : Row) × (row_at before n ≡ Some was) × (was.scope ≡ Some b)
  pub deaths : work.deaths ≡ old.deaths
  pub ran : work.ran.items ≡ old.ran.items
  pub retries : work.retries ≡ old.retries
  pub round : work.round ≡ old.round

-- nodes whose ids were given since the count were dropped, none of them needed
pub record HasDropped (old new : Parts) (count : ℕ) : Type 0 where
  pub older : (n : NodeId) → n.gen_ < count → row_at new.arena n ≡ row_at old.arena n
  pub given : new.arena.given ≡ old.arena.given
  pub time : new.arena.time ≡ old.arena.time
  pub rows : (p : Point) → p.node.gen_ < count → at new.work.rows p ≡ at old.work.rows p
  pub cutoffs : (n : NodeId) → n.gen_ < count → cutoff_at new.work n ≡ cutoff_at old.work n
  pub other_cutoffs : (n : NodeId) → (cutoff_at new.work n ≡ cutoff_at old.work n) ⊎ (cutoff_at new.work n ≡ Equal)
  pub links : new.work.graph.links ≡ old.work.graph.links
  pub roots : new.work.graph.roots ≡ old.work.graph.roots
  pub heap : new.work.graph.heap ≡ old.work.graph.heap
  pub right_sides : (n : NodeId) → n.gen_ < count → at new.work.roots (change n) ≡ at old.work.roots (change n)
  pub experts : (n : NodeId) → n.gen_ < count → expert_at new.work.experts n ≡ expert_at old.work.experts n
  pub unscoped : (n b : NodeId) (r : Row) → row_at new.arena n ≡ Some r → r.scope ≡ Some b → (n.gen_ < count) × (b.gen_ < count)
  pub kept : PartsKept new
  pub ready : (M : Meaning) → IsReady M old → IsReady M new

-- ---- what calls between rounds leave

-- as many nodes live as before, no id was given, and of what is kept beside the nodes only the heap may be another; a round may still begin
pub record StaysButHeap (old new : Parts) : Type 0 where
  pub lives : live new.arena ≡ live old.arena
  pub given : new.arena.given ≡ old.arena.given
  pub rows : new.work.rows ≡ old.work.rows
  pub heights : new.work.graph.heights ≡ old.work.graph.heights
  pub links : new.work.graph.links ≡ old.work.graph.links
  pub roots : new.work.graph.roots ≡ old.work.graph.roots
  pub right_sides : new.work.roots ≡ old.work.roots
  pub experts : new.work.experts ≡ old.work.experts
  pub ran : new.ran ≡ old.ran
  pub kept : PartsKept new
  pub ready : (M : Meaning) → IsReady M old → IsReady M new

-- a node was linked behind the others of an expert: where the expert is needed it is in the worklist and in the heap; a round may still begin
pub record GainsLink (old new : Parts) (expert kid : NodeId) : Type 0 where
  pub experts : ExpertChanges old.work.experts new.work.experts expert (Some (with_link kid (expert_of old.work.experts expert)))
  pub marked : IsMarked old.work.graph new.work.graph (main expert)
  pub listed : Needed old.work.graph (main expert) → Among (main expert) new.work.todo.items
  pub still : (p : Point) → Among p old.work.todo.items → Among p new.work.todo.items
  pub only : (p : Point) → Among p new.work.todo.items → Among p old.work.todo.items ⊎ (p ≡ main expert)
  pub rest : new ≡ record old { work = record old.work { experts = new.work.experts; graph = new.work.graph; todo = new.work.todo } }
  pub kept : PartsKept new
  pub ready : (M : Meaning) → IsReady M old → IsReady M new

-- nothing was linked, for want of memory, and all stays that is seen
pub record GainsNothing (old new : Parts) : Type 0 where
  pub experts : KeepsExperts old.work.experts new.work.experts
  pub todo : new.work.todo.items ≡ old.work.todo.items
  pub rest : new ≡ record old { work = record old.work { experts = new.work.experts; todo = new.work.todo } }
  pub kept : PartsKept new
  pub ready : (M : Meaning) → IsReady M old → IsReady M new

-- the link of a needed point is off that had been taken up, and else none
abbrev pub IsCut : Work → Work → Point → Point → Bool → Type 0
IsCut old new p q taken =
    ((taken ≡ true) × Needed old.graph p × IsUnlinked (rowless old) old.graph new.graph p q)
    ⊎ ((new.graph ≡ old.graph) × ((taken ≡ false) ⊎ (Needed old.graph p → ⊥)))

-- an expert lost the first link of a node. Where it is needed, and that had been taken up, what is no longer needed lost its links; and it is in the heap. A
-- round may still begin
pub record LosesLink (old new : Parts) (expert kid : NodeId) : Type 0 where
  pub taken : Bool
  pub was_taken : (taken ≡ true) ↔ Among kid (taken_at old.work.experts expert)
  pub there : Among kid (kids_at old.work.experts expert)
  pub experts : ExpertChanges old.work.experts new.work.experts expert (Some (without_link kid taken (expert_of old.work.experts expert)))
  pub middle : NecessaryPart
  pub unlinked : taken ≡ true → Needed old.work.graph (main expert) → IsUnlinked (rowless old.work) old.work.graph middle (main expert) (main kid)
  pub untouched : (taken ≡ false) ⊎ (Needed old.work.graph (main expert) → ⊥) → middle ≡ old.work.graph
  pub marked : IsMarked middle new.work.graph (main expert)
  pub rest : new ≡ record old { work = record old.work { experts = new.work.experts; graph = new.work.graph } }
  pub kept : PartsKept new
  pub ready : (M : Meaning) → IsReady M old → IsReady M new

-- an expert was made stale, and is in the heap where it is needed; a round may still begin
pub record IsMadeStale (old new : Parts) (expert : NodeId) : Type 0 where
  pub experts : ExpertChanges old.work.experts new.work.experts expert (Some (marked_so true (expert_of old.work.experts expert)))
  pub marked : IsMarked old.work.graph new.work.graph (main expert)
  pub rest : new ≡ record old { work = record old.work { experts = new.work.experts; graph = new.work.graph } }
  pub kept : PartsKept new
  pub ready : (M : Meaning) → IsReady M old → IsReady M new

-- a node has a root less, and what is no longer needed lost its links; a round may still begin
pub record LosesRoot (old new : Parts) (id : NodeId) : Type 0 where
  pub unrooted : IsUnrooted (rowless old.work) old.work.graph new.work.graph (main id)
  pub roots : OneRootMore new.work.graph.roots old.work.graph.roots (main id)
  pub rooted : (since : ℕ) (before after : List NodeId) → AreRooted old.arena old.work since (before ++ id ∷ after) → AreRooted new.arena new.work since (before ++ after)
  pub arena : new.arena ≡ old.arena
  pub rows : new.work.rows ≡ old.work.rows
  pub right_sides : new.work.roots ≡ old.work.roots
  pub experts : new.work.experts ≡ old.work.experts
  pub ran : new.ran ≡ old.ran
  pub kept : PartsKept new
  pub ready : (M : Meaning) → IsReady M old → IsReady M new

-- a node was dropped with its points, and what is kept of others stays; a round may still begin
pub record LosesNode (old new : Parts) (id : NodeId) : Type 0 where
  pub dropped : Changes old.arena new.arena id None
  pub lives : live new.arena + 1 ≡ live old.arena
  pub given : new.arena.given ≡ old.arena.given
  pub rows : ChangesNode old.work.rows new.work.rows id (λ part. None)
  pub links : new.work.graph.links ≡ old.work.graph.links
  pub roots : new.work.graph.roots ≡ old.work.graph.roots
  pub heap : new.work.graph.heap ≡ old.work.graph.heap
  pub right_sides : ChangesNode old.work.roots new.work.roots id (λ part. None)
  pub experts : (n : NodeId) → n ≢ id → expert_at new.work.experts n ≡ expert_at old.work.experts n
  pub scopes : new.scopes ≡ old.scopes
  pub ran : new.ran ≡ old.ran
  pub kept : PartsKept new
  pub ready : (M : Meaning) → IsReady M old → IsReady M new

-- no node is left whose id was given since the count, what is kept of others stays, and the time stands; a round may still begin
pub record IsTakenBack (old new : Parts) (count : ℕ) : Type 0 where
  pub older : (n : NodeId) → n.gen_ < count → row_at new.arena n ≡ row_at old.arena n
  pub dropped : (n : NodeId) → count ≤ n.gen_ → row_at new.arena n ≡ None
  pub given : new.arena.given ≡ old.arena.given
  pub time : new.arena.time ≡ old.arena.time
  pub no_pair : (n : NodeId) → Among n new.work.pairs.nodes → n.gen_ < count
  pub no_scoped : (n : NodeId) → Among n new.work.scoped.nodes → n.gen_ < count
  pub rows : (p : Point) → p.node.gen_ < count → at new.work.rows p ≡ at old.work.rows p
  pub cutoffs : (n : NodeId) → n.gen_ < count → cutoff_at new.work n ≡ cutoff_at old.work n
  pub other_cutoffs : (n : NodeId) → (cutoff_at new.work n ≡ cutoff_at old.work n) ⊎ (cutoff_at new.work n ≡ Equal)
  pub links : new.work.graph.links ≡ old.work.graph.links
  pub roots : new.work.graph.roots ≡ old.work.graph.roots
  pub heap : new.work.graph.heap ≡ old.work.graph.heap
  pub right_sides : (n : NodeId) → n.gen_ < count → at new.work.roots (change n) ≡ at old.work.roots (change n)
  pub experts : (n : NodeId) → n.gen_ < count → expert_at new.work.experts n ≡ expert_at old.work.experts n
  pub ran : new.ran ≡ old.ran
  pub kept : PartsKept new
  pub ready : (M : Meaning) → IsReady M old → IsReady M new
