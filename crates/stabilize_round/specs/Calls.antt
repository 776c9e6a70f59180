-- How many calls a round makes.
use Rattle.std.specs.Prelude.{◌≡◌, ◌+◌, ℕ, Bool, true, List, Option, None, Some}
use Rattle.inc_value.specs.declared.node.NodeId.{NodeId}
use Rattle.inc_value.specs.declared.node.Point.{Point}
use Rattle.inc_value.specs.declared.value.Value.{Value}
use Rattle.inc_value.specs.Choice.{Among, NoRepeats}
use Rattle.inc_terms.specs.Term.{Functions}
use Rattle.inc_terms.specs.Evaluate.{GiveAll}
use Rattle.inc_terms.specs.Graph.{Graph, Row}
use Rattle.inc_terms.specs.Depend.{main}
use Rattle.inc_terms.specs.Need.{Beside, Observed, nodes_of, Held}
use Rattle.inc_terms.specs.Work.{taken_by, WithinWork}
use Rattle.stabilize_round.specs.Calling.{Reason, costs_of}
use Rattle.stabilize_round.specs.Counts.{RoseAtMost}
use Rattle.stabilize_round.specs.State.{State, Start, Call}
use Rattle.stabilize_round.specs.Invariant.{MetNow}
use Rattle.stabilize_round.specs.Machine.{Entry, Moves, Stops}
use Rattle.stabilize_round.specs.Ended.{RootsAre}

-- the arguments of a call
abbrev pub arguments_of : Option Call → Option (List Value)
arguments_of None = None
arguments_of (Some c) = Some c.arguments

-- a round begins with what stood beside the graph: what is held for it was held there, last calls have the arguments that are kept there, and cutoffs,
-- and the nodes that were made stale, are the same
pub record BeginsFrom (z : Start) (before : Beside) (observers : List Observed) : Type 0 where
  pub held : (p : Point) → z.held p ≡ true → Held before observers p
  pub last : (n : NodeId) → before.last n ≡ arguments_of (z.last n)
  pub cutoff : (n : NodeId) → before.cutoff n ≡ z.cutoff n
  pub stale : (n : NodeId) → before.stale n ≡ z.stale n

-- whatever was called so far is within the work
abbrev pub RoundIsWithinWork : Type 0
RoundIsWithinWork =
    (F : Functions) (z : Start) (s t : State) (before : Beside) (observers : List Observed) (calls : ℕ) → Entry F z s → Moves F z s t
    → RootsAre t (nodes_of observers) → BeginsFrom z before observers → t.calls ≡ z.calls + calls → WithinWork F t.graph t.died observers before calls

-- a node's function was due in a round: the node is met, its children give these values, and there is a reason by what the round began with
pub record WasDue (F : Functions) (z : Start) (G : Graph) (died : NodeId → Option NodeId) (root : Point → ℕ) (settled : Point → Bool) (n : NodeId) : Type 0 where
  pub row : Row
  pub kids : List NodeId
  pub values : List Value
  pub is_row : G.row n ≡ Some row
  pub takes : taken_by G n row.def ≡ Some kids
  pub gives : GiveAll F G kids values
  pub reason : Reason z.last z.cutoff settled z.stale n kids values
  pub met : MetNow F z G died root (main n)

-- where a refused round stops, the count of calls rose by at most what it takes to compute each of some nodes once, whose functions were due
abbrev pub RefusedCalls : Type 0
RefusedCalls =
    (F : Functions) (z : Start) (s t u : State) → Entry F z s → Moves F z s t → Stops F z t u
    → (called : List NodeId) × NoRepeats called × RoseAtMost z.calls (costs_of u.graph called) u.calls
    × ((n : NodeId) → Among n called → WasDue F z u.graph u.died u.root u.settled n)
