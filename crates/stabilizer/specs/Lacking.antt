-- What a step or a round lacked that was refused.
use Rattle.std.specs.Prelude.{◌≡◌, ◌≢◌, ◌⊎◌, ℕ, ◌≤◌, List, [], length, None, Some, vec_capacity}
use Rattle.inc_value.specs.Counts.{raised}
use Rattle.inc_value.specs.Value.{type_of}
use Rattle.inc_value.specs.declared.function.FnRef.{FnRef}
use Rattle.inc_value.specs.declared.node.NodeId.{NodeId}
use Rattle.inc_value.specs.declared.node.Point.{Point}
use Rattle.inc_value.specs.declared.outcome.Outcome.{Outcome}
use Rattle.inc_value.specs.declared.outcome.Outcome.TheVariants.{Val}
use Rattle.inc_value.specs.declared.ty.Ty.TheVariants.{Text}
use Rattle.inc_value.specs.declared.value.Value.{Value}
use Rattle.inc_terms.specs.Depend.{main, change, subject_of}
use Rattle.inc_terms.specs.Graph.{Row}
use Rattle.point_map.specs.Rows.{at, Holds}
use Rattle.node_arena.specs.Arena.{Arena, row_at}
use Rattle.node_outcomes.specs.Computing.{seen}
use Rattle.node_outcomes.specs.Lacking.{NodeLacksRoom}
use Rattle.node_outcomes.specs.Meaning.{Meaning}
use Rattle.node_outcomes.specs.Row.{outcome_in}
use Rattle.observers.specs.Observers.{AllLight}
use Rattle.observers.specs.declared.observer.Observer.{Observer}
use Rattle.stabilize_round.specs.Counts.{last_count}
use Rattle.expert_nodes.specs.Experts.{is_stale_at}
use Rattle.wiring.specs.Graph.{graph_at}
use Rattle.wiring.specs.Stands.{Counts}
use Rattle.wiring.specs.Turning.{IsAttached, IsWaiting}
use Rattle.wiring.specs.Wiring.{PutsRoots, WaitsFor, Wires}
use Rattle.wiring.specs.declared.work.Work.{Work}
use Rattle.stabilizer.specs.Kept.{PartsKept}
use Rattle.stabilizer.specs.Rebuilding.{IsSeenOf, IsToBuild}
use Rattle.stabilizer.specs.Round.{Settles}
use Rattle.stabilizer.specs.Stepping.{StepsMade}
use Rattle.stabilizer.specs.Telling.{shows_of}
use Rattle.stabilizer.specs.declared.parts.Parts.{Parts}

-- why computing a main found no memory: a function found none, and was counted, or the node lacks room
abbrev pub MainLacks : Arena → Work → NodeId → ℕ → ℕ → Type 0
MainLacks arena work n old new =
    (new ≡ raised old)
    ⊎ NodeLacksRoom (graph_at arena work) (is_stale_at work.experts) work.round work.rows (vec_capacity work.ran) (length work.ran.items) n

-- the subject of a live node of two points shows a text
pub record SeesText (parts : Parts) (n : NodeId) : Type 0 where
  pub row : Row
  pub subject : NodeId
  pub value : Value
  pub is_row : row_at parts.arena n ≡ Some row
  pub is_subject : subject_of row.def ≡ Some subject
  pub shows : seen parts.work.rows (main subject) ≡ Some (Val value)
  pub type : type_of value ≡ Text

-- its main has all its links, and the subject shows another outcome than its change was settled on last: so the main loses its right side
pub record LosesRight (parts : Parts) (n : NodeId) : Type 0 where
  pub row : Row
  pub subject : NodeId
  pub given : Outcome
  pub is_row : row_at parts.arena n ≡ Some row
  pub is_subject : subject_of row.def ≡ Some subject
  pub sees : IsSeenOf parts subject given
  pub differs : outcome_in (at parts.work.rows (change n)) ≢ Some given
  pub attached : IsAttached parts.work n

-- why settling a change was refused: its subject shows a text; a bind was to be built anew; its main loses its right side, or waits for one; or a point
-- of the bind's scope waits for the change
pub data ChangeLacks (parts : Parts) (n : NodeId) : Type 0 where
  sees_text : SeesText parts n → ChangeLacks parts n
  builds : {f : FnRef} {captures : List NodeId} {given : Outcome} → IsToBuild parts n f captures given → ChangeLacks parts n
  loses : LosesRight parts n → ChangeLacks parts n
  waits : IsWaiting parts.work n → ChangeLacks parts n
  gates : (p : Point) → WaitsFor parts.work p (change n) → ChangeLacks parts n

-- why a step was refused: a main was to be computed, or a change to be settled
pub data StepLacks (parts : Parts) (old new : ℕ) : Type 0 where
  of_main : (n : NodeId) → Holds parts.work.graph.heap (main n) → MainLacks parts.arena parts.work n old new → StepLacks parts old new
  of_change : (n : NodeId) → Holds parts.work.graph.heap (change n) → ChangeLacks parts n → StepLacks parts old new

-- why one of some steps was refused: by what the steps before it left, in which no function found no memory
pub record SettleLacks (M : Meaning) (old : Parts) (before : Counts) (wants wants' : ℕ) : Type 0 where
  pub left : Parts
  pub counts : Counts
  pub settles : Settles M old left before counts
  pub steps : StepsMade M old before left counts
  pub kept : PartsKept left
  pub lacks : StepLacks left wants wants'

-- all steps were made, in which no function found no memory, and telling these observers needs memory: one of them shows or is told of a text
pub record TellingLacks (M : Meaning) (old : Parts) (made : List Observer) (before : Counts) (wants wants' : ℕ) : Type 0 where
  pub left : Parts
  pub counts : Counts
  pub settles : Settles M old left before counts
  pub steps : StepsMade M old before left counts
  pub kept : PartsKept left
  pub unwanted : wants' ≡ wants
  pub heavy : ¬ AllLight (shows_of left) made

-- why steps and what is told behind them were refused: one of the steps was, or telling observers
pub data SettleOrTellLacks (M : Meaning) (old : Parts) (made : List Observer) (before : Counts) (wants wants' : ℕ) : Type 0 where
  in_step : SettleLacks M old before wants wants' → SettleOrTellLacks M old made before wants wants'
  in_telling : TellingLacks M old made before wants wants' → SettleOrTellLacks M old made before wants wants'

-- a round began: what was linked to experts got its links, and roots were put on; where neither was to be done all stays
pub record HasBegun (old : Parts) (nodes : List NodeId) (wired rooted : Work) : Type 0 where
  pub wires : Wires old.arena old.work wired None
  pub puts : PutsRoots old.arena wired rooted
  pub idle : old.work.todo.items ≡ [] → wired ≡ record old.work { todo = wired.todo }
  pub still : nodes ≡ [] → rooted ≡ wired

-- why a round was refused that tells these observers: it has the last number, it puts on links to what was linked to experts, or roots; one of its steps was
-- refused, or telling was
pub data RoundLacks (M : Meaning) (old : Parts) (nodes : List NodeId) (made : List Observer) (before : Counts) (wants wants' : ℕ) : Type 0 where
  of_number : last_count ≤ old.work.round → RoundLacks M old nodes made before wants wants'
  of_lists : old.work.todo.items ≢ [] → RoundLacks M old nodes made before wants wants'
  of_roots : nodes ≢ [] → RoundLacks M old nodes made before wants wants'
  of_step : {wired rooted : Work} → HasBegun old nodes wired rooted → SettleLacks M (record old { work = rooted }) before wants wants'
      → RoundLacks M old nodes made before wants wants'
  of_telling : {wired rooted : Work} → HasBegun old nodes wired rooted → TellingLacks M (record old { work = rooted }) made before wants wants'
      → RoundLacks M old nodes made before wants wants'
