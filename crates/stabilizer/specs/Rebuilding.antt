-- Binds that are built anew.
use Rattle.std.specs.Prelude.{◌≡◌, ◌≢◌, ◌⊎◌, ◌≤◌, ℕ, true, [], List, None, Some}
use Rattle.inc_value.specs.declared.function.FnRef.{FnRef}
use Rattle.inc_value.specs.declared.node.NodeId.{NodeId}
use Rattle.inc_value.specs.declared.outcome.Outcome.{Outcome}
use Rattle.inc_value.specs.declared.outcome.Outcome.TheVariants.{Invalid}
use Rattle.inc_value.specs.Choice.{Reaches}
use Rattle.inc_terms.specs.Depend.{main, change}
use Rattle.inc_terms.specs.Graph.{Row, Bind}
use Rattle.point_map.specs.Rows.{at, Holds, Changes}
use Rattle.necessity.specs.Need.{KeepsRoots}
use Rattle.necessary_graph.specs.Part.{IsInStep}
use Rattle.node_arena.specs.Arena.{row_at}
use Rattle.node_arena.specs.RightSide.{RightSide}
use Rattle.node_arena.specs.declared.functions.Functions.{Ghosts}
use Rattle.stabilize_round.specs.Machine.{Move, Stops}
use Rattle.stabilize_round.specs.Moves.{Quiet}
use Rattle.stabilize_round.specs.State.{State, Start}
use Rattle.stabilize_round.specs.Steps as steps
use Rattle.stabilize_round.specs.Steps.{Preparing}
use Rattle.node_outcomes.specs.Computing.{seen}
use Rattle.node_outcomes.specs.Meaning.{Meaning, meaning_of}
use Rattle.node_outcomes.specs.Row.{outcome_in, IsRewritten, with_outcome}
use Rattle.wiring.specs.Began.{IsRoundOf}
use Rattle.wiring.specs.Stands.{MatchesState, Counts}
use Rattle.wiring.specs.Wiring.{IsTurnedIn, KeepsGraph}
use Rattle.wiring.specs.declared.refused.Refused.{Refused}
use Rattle.wiring.specs.declared.refused.Refused.TheVariants.{Memory}
use Rattle.wiring.specs.declared.work.Work.{Work}
use Rattle.stabilizer.specs.Building.{StopsBuilding}
use Rattle.stabilizer.specs.Dying.{StandsBefore}
use Rattle.stabilizer.specs.Giving.{GivesLive, GivesFew, StopsFull}
use Rattle.stabilizer.specs.Kept.{PartsKept, KeepsMeaning, counts_by}
use Rattle.stabilizer.specs.Weights.{SidesFit}
use Rattle.stabilizer.specs.declared.parts.Parts.{Parts}

-- what is seen of a node, or Invalid where nothing was yet
abbrev pub IsSeenOf : Parts → NodeId → Outcome → Type 0
IsSeenOf parts n o = (seen parts.work.rows (main n) ≡ Some o) ⊎ ((seen parts.work.rows (main n) ≡ None) × (o ≡ Invalid))

-- a live bind with this function and these captures, whose left shows the outcome, and which isn't built for that
pub record IsToBuild (parts : Parts) (n : NodeId) (f : FnRef) (captures : List NodeId) (given : Outcome) : Type 0 where
  pub row : Row
  pub left : NodeId
  pub is_row : row_at parts.arena n ≡ Some row
  pub is_bind : row.def ≡ Bind left f captures
  pub sees : IsSeenOf parts left given
  pub differs : outcome_in (at parts.work.rows (change n)) ≢ Some given

-- from each state of a round in which the bind's change was taken, its scope dies, it is built anew, and its change is settled
abbrev pub BuildsAnew : Meaning → Parts → Parts → NodeId → Counts → Counts → Type 0
BuildsAnew M old new n before after =
    (z : Start) (s : State) → IsRoundOf M z s → Quiet s → StandsBefore old before s n
    → (ready turned : State) × Reaches (Preparing M.functions z (change n)) s ready × (m : Move M.functions z ready turned) × steps.Settles (change n) m
    × IsTurnedIn M.functions z turned new.arena new.work after n

-- or the build stops: before anything died, or with the bind built for nothing, no node in its scope, and its change in the heap; the ids that it spent
-- are no more than its function takes
pub data BuildRefused (M : Meaning) (right : FnRef → RightSide) (old new : Parts) (n : NodeId) (before after : Counts) (e : Refused) : Type 0 where
  as_it_was : ((s : State) → StandsBefore old before s n → StandsBefore new after s n) → new.arena ≡ old.arena → after ≡ before → e ≡ Memory
      → BuildRefused M right old new n before after e
  unbuilt : {count : ℕ} → ((z : Start) (s : State) → IsRoundOf M z s → Quiet s → StandsBefore old before s n
      → (ready stopped : State) × Reaches (Preparing M.functions z (change n)) s ready × Stops M.functions z ready stopped
      × MatchesState new.arena new.work after None stopped × (stopped.heap (change n) ≡ true))
      → after.calls ≡ before.calls → old.arena.given ≤ count → StopsBuilding count new.arena e → GivesFew right old.arena.given new.arena
      → StopsFull right new.arena before after e → BuildRefused M right old new n before after e

-- ---- before the change is settled

-- a change was settled on an outcome for which its bind is built: its row and its place in the heap are others
pub record IsSettledOn (old new : Work) (n : NodeId) (given : Outcome) : Type 0 where
  pub rows : IsRewritten old.rows new.rows (change n) (with_outcome given old.round)
  pub graph : KeepsGraph old.graph new.graph
  pub heap : Changes old.graph.heap new.graph.heap (change n) None
  pub step : IsInStep new.graph
  pub rest : new ≡ record old { graph = new.graph; rows = new.rows }

module _ {K More : Type 0} (keeper : Ghosts K More) (fs fs' : K) where
  -- once the change is settled the bind is built anew; all ids that were given are of live nodes
  pub record IsToSettle (old new : Parts) (n : NodeId) (given : Outcome) : Type 0 where
    pub builds : (work : Work) → IsSettledOn new.work work n given
        → BuildsAnew (meaning_of keeper fs) old (record new { work = work }) n (counts_by keeper fs) (counts_by keeper fs')
    pub kept : (work : Work) → IsSettledOn new.work work n given → PartsKept (record new { work = work })
    pub step : IsInStep new.work.graph
    pub gives : GivesLive old.arena.given 0 new.arena

  -- what stays where a bind is built anew, or couldn't be
  pub record RebuildStays (old new : Parts) (n : NodeId) : Type 0 where
    pub calls : keeper.calls fs' ≡ keeper.calls fs
    pub wants : keeper.wants fs' ≡ keeper.wants fs
    pub own : (r : Row) → row_at old.arena n ≡ Some r → row_at new.arena n ≡ Some r
    pub there : Holds new.work.rows (change n)
    pub ran : new.ran.items ≡ old.ran.items
    pub roots : KeepsRoots old.work.graph.roots new.work.graph.roots
    pub round : new.work.round ≡ old.work.round
    pub quiet : new.work.todo.items ≡ []
    pub fit : SidesFit (keeper.known fs') (keeper.right fs') new.arena
    pub meaning : KeepsMeaning keeper fs fs'
