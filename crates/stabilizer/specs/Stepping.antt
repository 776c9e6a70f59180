-- What a step does.
use Rattle.std.specs.Prelude.{◌≡◌, ◌≢◌, ◌⊎◌, ◌↔◌, ◌<◌, ◌≤◌, ◌+◌, ◌*◌, ℕ, Bool, not, ◌&&◌, List, [], length, Option, None, Some, is_some, vec_capacity}
use Rattle.inc_value.specs.declared.node.NodeId.{NodeId}
use Rattle.inc_value.specs.declared.node.Point.{Point}
use Rattle.inc_value.specs.declared.outcome.Outcome.{Outcome}
use Rattle.inc_value.specs.declared.outcome.Outcome.TheVariants.{Invalid}
use Rattle.inc_value.specs.Choice.{Among}
use Rattle.inc_terms.specs.Depend.{main, change, subject_of}
use Rattle.inc_value.specs.declared.function.FnRef.{FnRef}
use Rattle.inc_terms.specs.Graph.{Row, Def, Bind}
use Rattle.inc_terms.specs.Term.{Functions}
use Rattle.point_map.specs.Rows.{at, Holds, KeepsRows}
use Rattle.node_arena.specs.Arena.{Arena, row_at}
use Rattle.node_arena.specs.RightSide.{RightSide}
use Rattle.recompute_heap.specs.Agree.{IsEmpty}
use Rattle.stabilize_round.specs.Calling.{cost_at}
use Rattle.stabilize_round.specs.Counts.{RoseBy, RoseAtMost, number_of}
use Rattle.stabilize_round.specs.Moves.{Quiet, IsLeast, CallIsDue, calls_of}
use Rattle.stabilize_round.specs.Machine.{Moves, Stops}
use Rattle.stabilize_round.specs.State.{State, Start, Call}
use Rattle.inc_value.specs.Choice.{Reaches}
use Rattle.stabilize_round.specs.Steps.{Step, Preparing}
use Rattle.expert_nodes.specs.Experts.{SameExperts, Unmarks, is_stale_at}
use Rattle.node_outcomes.specs.Computing.{IsComputed, HasCalledSome, seen}
use Rattle.node_outcomes.specs.Meaning.{Meaning}
use Rattle.wiring.specs.Began.{IsRoundOf}
use Rattle.wiring.specs.Deciding.{is_needed}
use Rattle.wiring.specs.Graph.{graph_at}
use Rattle.wiring.specs.Refusing.{TellsWhy}
use Rattle.node_outcomes.specs.Row.{settled_in, outcome_in, stage_in, is_full}
use Rattle.stabilizer.specs.Settling.{IsSettled}
use Rattle.wiring.specs.Turning.{HasTurned, IsWaiting}
use Rattle.node_outcomes.specs.Choosing.{right_in}
use Rattle.wiring.specs.Wiring.{Wires, WireRefused, Attaches, AttachRefused, WaitsFor}
use Rattle.node_outcomes.specs.declared.row.Stage.TheVariants.{Full}
use Rattle.wiring.specs.Stands.{MatchesState, Counts, PointInHand}
use Rattle.stabilizer.specs.Building.{StopsBuilding}
use Rattle.stabilizer.specs.Dying.{TakesLeast, StandsBefore}
use Rattle.stabilizer.specs.Giving.{GivesLive, GivesFew, StopsFull}
use Rattle.stabilizer.specs.Kept.{PartsKept}
use Rattle.stabilizer.specs.Rebuilding.{IsToBuild, BuildsAnew}
use Rattle.stabilizer.specs.Round.{Settles}
use Rattle.stabilizer.specs.declared.parts.Parts.{Parts}
use Rattle.wiring.specs.declared.refused.Refused.{Refused}
use Rattle.wiring.specs.declared.refused.Refused.TheVariants.{Memory}
use Rattle.wiring.specs.declared.work.Work.{Work}

-- nothing was built
pub record IsOfBuilds (before after : Counts) : Type 0 where
  pub builds : after.builds ≡ before.builds
  pub adds : after.adds ≡ before.adds

-- a live main was computed, and settled on its outcome. For those that ran there is as much room as there was at least
pub record MainIsSettled (F : Functions) (arena : Arena) (old new : Work) (n : NodeId) (before after : Counts) : Type 0 where
  pub outcome : Outcome
  pub last : Option Call
  pub called : Bool
  pub computed : IsComputed F (graph_at arena old) (is_stale_at old.experts) old.round old.rows n outcome last called
  pub marks : Unmarks old.experts new.experts n
  pub settled : IsSettled old new n outcome last (calls_of called (cost_at (graph_at arena old) n))
  pub count : RoseBy before.calls (calls_of called (cost_at (graph_at arena old) n)) after.calls
  pub room : vec_capacity old.ran ≤ vec_capacity new.ran
  pub rest : IsOfBuilds before after

-- without memory a main stays as it was; where its function was due, some of the calls that it takes may have been made
pub record MainIsLeft (arena : Arena) (old new : Work) (n : NodeId) (before after : Counts) : Type 0 where
  pub rows : KeepsRows old.rows new.rows
  pub experts : SameExperts old.experts new.experts
  pub graph : new.graph ≡ old.graph
  pub roots : new.roots ≡ old.roots
  pub deaths : new.deaths ≡ old.deaths
  pub todo : new.todo.items ≡ old.todo.items
  pub ran : new.ran.items ≡ old.ran.items
  pub retries : new.retries ≡ old.retries
  pub round : new.round ≡ old.round
  pub count : (after.calls ≡ before.calls) ⊎ HasCalledSome (graph_at arena old) (is_stale_at old.experts) n old.round old.rows before.calls after.calls
  pub rest : IsOfBuilds before after

-- the points in the scope of a bind that wait for its change are in the worklist, and none else
pub record AreWoken (old new : Work) (n : NodeId) : Type 0 where
  pub listed : (p : Point) → Among p new.todo.items ↔ WaitsFor old p (change n)
  pub rest : new ≡ record old { todo = new.todo }

-- a bind that is built by this function from these captures isn't built for the outcome
abbrev pub IsUnbuiltBind : Def → FnRef → List NodeId → Option Outcome → Outcome → Type 0
IsUnbuiltBind def f captures o given = (left : NodeId) × (def ≡ Bind left f captures) × (o ≢ Some given)

-- a bind is built for the outcome
abbrev pub IsBuiltFor : Def → Option Outcome → Outcome → Type 0
IsBuiltFor def o given = (left : NodeId) (f : FnRef) (captures : List NodeId) → def ≡ Bind left f captures → o ≡ Some given

-- then a change was settled on the outcome
pub record IsTurnedAwake (old new : Work) (n : NodeId) (def : Def) (given : Outcome) : Type 0 where
  pub woken : Work
  pub wakes : AreWoken old woken n
  pub turned : HasTurned woken new n (right_in woken.rows woken.roots n def) given

-- there was no memory to put them there, and the worklist is empty
pub record IsAsleep (old new : Work) (e : Refused) : Type 0 where
  pub rest : new ≡ record old { todo = new.todo }
  pub quiet : new.todo.items ≡ []
  pub memory : e ≡ Memory

-- the parts turned: a change of the heap was settled on what its subject shows, for which its node, if it is a bind, is built
pub record ChangeIsTurned (arena : Arena) (old new : Work) (n : NodeId) : Type 0 where
  pub row : Row
  pub subject : NodeId
  pub given : Outcome
  pub is_row : row_at arena n ≡ Some row
  pub is_subject : subject_of row.def ≡ Some subject
  pub sees : (seen old.rows (main subject) ≡ Some given) ⊎ ((seen old.rows (main subject) ≡ None) × (given ≡ Invalid))
  pub built : (left : NodeId) (f : FnRef) (captures : List NodeId) → row.def ≡ Bind left f captures → outcome_in (at old.rows (change n)) ≡ Some given
  pub woken : Work
  pub wakes : AreWoken old woken n
  pub turned : HasTurned woken new n (right_in old.rows old.roots n row.def) given

-- a change that was taken was turned, or its bind was built anew and that was settled; then the ids that were given are of live nodes
pub data IsTurned (M : Meaning) (old new : Parts) (n : NodeId) (before after : Counts) : Type 0 where
  turned : ChangeIsTurned old.arena old.work new.work n → new ≡ record old { work = new.work } → after ≡ before → IsTurned M old new n before after
  built : {f : FnRef} {captures : List NodeId} {given : Outcome} → IsToBuild old n f captures given → BuildsAnew M old new n before after
      → after.calls ≡ before.calls → GivesLive old.arena.given 0 new.arena → IsTurned M old new n before after

-- then its main got its right side, if it waits, and what is newly needed its links; else all stays
pub record ChangeIsSettled (M : Meaning) (old new : Parts) (n : NodeId) (before after : Counts) : Type 0 where
  pub turned : Parts
  pub turns : IsTurned M old turned n before after
  pub attached : Work
  pub attaches : Attaches turned.arena turned.work attached n
  pub full : IsWaiting turned.work n → (stage_in (at attached.rows (main n)) ≡ Some Full) ⊎ (attached.retries < turned.work.retries)
  pub wires : Wires turned.arena attached new.work None
  pub still : IsWaiting turned.work n ⊎ (attached ≡ turned.work)
  pub idle : attached.todo.items ≡ [] → new.work ≡ record attached { todo = new.work.todo }
  pub rest : new ≡ record turned { work = new.work }

-- or that was refused: the change is in the heap again and all else as it was; the bind couldn't be built; or a link was refused, or found no memory
pub data ChangeIsLeft (M : Meaning) (right : FnRef → RightSide) (old new : Parts) (n : NodeId) (before after : Counts) (e : Refused) : Type 0 where
  as_it_was : ((s : State) → StandsBefore old before s n → MatchesState new.arena new.work after None s) → new.arena ≡ old.arena → after ≡ before → e ≡ Memory
      → ChangeIsLeft M right old new n before after e
  unbuilt : {count : ℕ} → ((z : Start) (s : State) → IsRoundOf M z s → Quiet s → StandsBefore old before s n
      → (ready stopped : State) × Reaches (Preparing M.functions z (change n)) s ready × Stops M.functions z ready stopped
      × MatchesState new.arena new.work after None stopped)
      → after.calls ≡ before.calls → old.arena.given ≤ count → StopsBuilding count new.arena e → GivesFew right old.arena.given new.arena
      → StopsFull right new.arena before after e → ChangeIsLeft M right old new n before after e
  unattached : {turned : Parts} → IsTurned M old turned n before after → AttachRefused turned.arena turned.work new.work n e
      → new ≡ record turned { work = new.work } → ChangeIsLeft M right old new n before after e
  unwired : {turned : Parts} {attached : Work} → IsTurned M old turned n before after → Attaches turned.arena turned.work attached n
      → WireRefused turned.arena attached new.work None e → new ≡ record turned { work = new.work } → ChangeIsLeft M right old new n before after e

-- a least point left the heap and was settled: a main was computed, or a change turned or its bind built anew
pub data SettlesLeast (M : Meaning) (old new : Parts) (before after : Counts) : Type 0 where
  of_main : {n : NodeId} {taken : Work} → TakesLeast old.work taken (main n) → MainIsSettled M.functions old.arena taken new.work n before after
      → new ≡ record old { work = new.work } → SettlesLeast M old new before after
  of_change : {n : NodeId} {taken : Work} → TakesLeast old.work taken (change n)
      → ChangeIsSettled M (record old { work = taken }) new n before after → SettlesLeast M old new before after

-- steps were made, one after the other; those before each of them led to what it begins with
pub data StepsMade (M : Meaning) (old : Parts) (before : Counts) : Parts → Counts → Type 0 where
  none_made : StepsMade M old before old before
  one_made : {mid new : Parts} {between after : Counts} → StepsMade M old before mid between → PartsKept mid → Settles M old mid before between
      → SettlesLeast M mid new between after → StepsMade M old before new after

-- from each state that the parts stand for, with the counts, a step leads to one that they stand for then
abbrev pub Steps : Meaning → Parts → Parts → Counts → Counts → Type 0
Steps M old new before after =
    (z : Start) (s : State) → IsRoundOf M z s → Quiet s → MatchesState old.arena old.work before None s
    → (t : State) × Step M.functions z s t × MatchesState new.arena new.work after None t

-- so it is of a step that takes the point
abbrev pub StepsAt : Meaning → Parts → Parts → Counts → Counts → Point → Type 0
StepsAt M old new before after p =
    (z : Start) (s : State) → IsRoundOf M z s → Quiet s → MatchesState old.arena old.work before None s
    → (t : State) × (k : Step M.functions z s t) × MatchesState new.arena new.work after None t × (k.point ≡ p)

-- the function of a least point was due, and some of the calls were made that it takes
pub record HasCalledDue (s : State) (before after : Counts) : Type 0 where
  pub node : NodeId
  pub row : Row
  pub least : IsLeast s (main node)
  pub is_row : s.graph.row node ≡ Some row
  pub due : CallIsDue s node row.def
  pub count : RoseAtMost before.calls (cost_at s.graph node) after.calls
  pub rest : IsOfBuilds before after

-- where a step stops that is refused: as it was, but for some of the calls of a least point's function, which was due; where a bind couldn't be built; or where points get
-- their links, of which one was refused, or had no memory
pub data StepStops (F : Functions) (z : Start) (s : State) (new : Parts) (before after : Counts) (e : Refused) : Type 0 where
  as_it_was : MatchesState new.arena new.work before None s
      → (after ≡ before) ⊎ HasCalledDue s before after → e ≡ Memory → StepStops F z s new before after e
  unbuilt : {r t : State} {count : ℕ} → Moves F z s r → Stops F z r t → MatchesState new.arena new.work after None t → after.calls ≡ before.calls
      → s.given ≤ count → StopsBuilding count new.arena e → StepStops F z s new before after e
  wiring : {t : State} {left : Option PointInHand} → Moves F z s t → MatchesState new.arena new.work after left t → after.calls ≡ before.calls → TellsWhy F t new.work left e
      → StepStops F z s new before after e

-- so it is from each state that the parts stand for
abbrev pub StepRefused : Meaning → Parts → Parts → Counts → Counts → Refused → Type 0
StepRefused M old new before after e =
    (z : Start) (s : State) → IsRoundOf M z s → Quiet s → MatchesState old.arena old.work before None s → StepStops M.functions z s new before after e

-- where the parts stand for some state of a round, a step stops as full only in a build that lacked room
abbrev pub StepStopsFull : Meaning → (FnRef → RightSide) → Parts → Parts → Counts → Counts → Refused → Type 0
StepStopsFull M right old new before after e =
    (z : Start) (s : State) → IsRoundOf M z s → Quiet s → MatchesState old.arena old.work before None s → StopsFull right new.arena before after e

-- ---- what is left of a round

-- the change of a node is settled, and its main isn't needed with all its links, as a test
abbrev pub is_loose : Work → NodeId → Bool
is_loose work n = settled_in work.round (at work.rows (change n)) && not (is_needed work.graph (main n) && is_full (stage_in (at work.rows (main n))))

-- the point is settled and in the heap again, as a test
abbrev pub is_again : Work → Point → Bool
is_again work p = settled_in work.round (at work.rows p) && is_some (at work.graph.heap p)

-- the point isn't settled, as a test
abbrev pub is_unsettled : Work → Point → Bool
is_unsettled work p = not (settled_in work.round (at work.rows p))

-- a number for each of these in the order in which they count: links that may be tried again; points to settle; settled changes whose mains lack links;
-- settled points that are in the heap again
abbrev pub left_to_settle : Work → List Point → List NodeId → ℕ
left_to_settle work points nodes =
    ((work.retries * (length points + 1) + number_of (is_unsettled work) points) * (length nodes + 1) + number_of (is_loose work) nodes)
    * (length points + 1) + number_of (is_again work) points

-- each point that has a row is of these, and its node
pub record CoversRows (work : Work) (points : List Point) (nodes : List NodeId) : Type 0 where
  pub points_of : (p : Point) → Holds work.rows p → Among p points
  pub nodes_of : (p : Point) → Holds work.rows p → Among p.node nodes

-- less is left after a step, where the parts stand for some state of a round
abbrev pub StepFalls : Meaning → Parts → Parts → Counts → Type 0
StepFalls M old new before =
    (z : Start) (s : State) → IsRoundOf M z s → Quiet s → MatchesState old.arena old.work before None s → (points : List Point) (nodes : List NodeId)
    → CoversRows old.work points nodes → left_to_settle new.work points nodes < left_to_settle old.work points nodes

-- ---- what a step says

-- the point was taken and settled, as a step of the round; so less is left
pub record StepIsMade (M : Meaning) (old new : Parts) (before after : Counts) (p : Point) : Type 0 where
  pub stepped : StepsAt M old new before after p
  pub settled : SettlesLeast M old new before after
  pub falls : StepFalls M old new before
  pub more : ¬ IsEmpty old.work.graph.heap

-- the heap was empty, and nothing was done
pub record NoneIsLeft (old new : Parts) (before after : Counts) : Type 0 where
  pub empty : IsEmpty old.work.graph.heap
  pub unchanged : new ≡ old
  pub uncalled : after ≡ before

-- a step was refused, and few ids were given; as full only in a build that lacked room
pub record StepIsRefused (M : Meaning) (right : FnRef → RightSide) (old new : Parts) (before after : Counts) (e : Refused) : Type 0 where
  pub refused : StepRefused M old new before after e
  pub spends : GivesFew right old.arena.given new.arena
  pub full : StepStopsFull M right old new before after e
