-- What is kept of a point.
use Rattle.std.specs.Prelude.{◌≡◌, ◌≢◌, ◌==◌, ◌&&◌, ℕ, Bool, true, false, Option, None, Some, option_map}
use Rattle.inc_value.specs.declared.node.Point.{Point}
use Rattle.inc_value.specs.declared.outcome.Outcome.{Outcome}
use Rattle.inc_value.specs.declared.outcome.Outcome.TheVariants.{Val}
use Rattle.inc_value.specs.declared.value.Value.{Value}
use Rattle.map_nodes.specs.declared.cutoff.Cutoff.{Cutoff}
use Rattle.map_nodes.specs.declared.cutoff.Cutoff.TheVariants.{Equal, Never}
use Rattle.point_map.specs.Rows.{Rows, at}
use Rattle.stabilize_round.specs.Freezing.{found}
use Rattle.stabilize_round.specs.State as machine
use Rattle.node_outcomes.specs.LastCall.{Last}
use Rattle.node_outcomes.specs.Progress.{Progress}
use Rattle.node_outcomes.specs.declared.row.Stage.{Stage}
use Rattle.node_outcomes.specs.declared.row.Stage.TheVariants as stage

-- the row with another stage
abbrev pub with_stage : Stage → Progress → Progress
with_stage s k = record { stage = s; settled = k.settled; outcome = k.outcome; last = k.last; cutoff = k.cutoff; frozen = k.frozen; room = k.room }

-- the row with another outcome, settled in a round
abbrev pub with_outcome : Outcome → ℕ → Progress → Progress
with_outcome o round k = record { stage = k.stage; settled = round; outcome = Some o; last = k.last; cutoff = k.cutoff; frozen = k.frozen; room = k.room }

-- the row with no outcome
abbrev pub without_outcome : Progress → Progress
without_outcome k = record { stage = k.stage; settled = k.settled; outcome = None; last = k.last; cutoff = k.cutoff; frozen = k.frozen; room = k.room }

-- the row with another last call
abbrev pub with_call : machine.Call → Progress → Progress
with_call c k = record { stage = k.stage; settled = k.settled; outcome = k.outcome; last = Some c; cutoff = k.cutoff; frozen = k.frozen; room = k.room }

-- the row with another last call, or none
abbrev pub with_last : Option machine.Call → Progress → Progress
with_last c k = record { stage = k.stage; settled = k.settled; outcome = k.outcome; last = c; cutoff = k.cutoff; frozen = k.frozen; room = k.room }

-- the row of a node whose last call is lent, with the room for the next
abbrev pub with_none : Progress → Progress
with_none k = record { stage = k.stage; settled = k.settled; outcome = k.outcome; last = None; cutoff = k.cutoff; frozen = k.frozen; room = 0 }

-- the row to which they are given back
abbrev pub with_lent : Last → Progress → Progress
with_lent l k = record { stage = k.stage; settled = k.settled; outcome = k.outcome; last = l.call; cutoff = k.cutoff; frozen = k.frozen; room = l.room }

-- the row with another cutoff
abbrev pub with_cutoff : Cutoff → Progress → Progress
with_cutoff c k = record { stage = k.stage; settled = k.settled; outcome = k.outcome; last = k.last; cutoff = c; frozen = k.frozen; room = k.room }

-- the row of a freeze that keeps the value on which its predicate was called last
abbrev pub with_frozen : Progress → Progress
with_frozen k = record { stage = k.stage; settled = k.settled; outcome = k.outcome; last = k.last; cutoff = k.cutoff; frozen = true; room = k.room }

-- the value that a row's freeze keeps: that of its last call
abbrev pub kept_by : Bool → Option machine.Call → Option Value
kept_by false last = None
kept_by true last = found last

-- the value that a freeze keeps, if it keeps one
abbrev pub kept_in : Option Progress → Option Value
kept_in None = None
kept_in (Some k) = kept_by k.frozen k.last

-- the value of which the predicate of a freeze that keeps none was last found true
abbrev pub fires_by : Bool → Option machine.Call → Option Value
fires_by false last = found last
fires_by true last = None

abbrev pub fires_in : Option Progress → Option Value
fires_in None = None
fires_in (Some k) = fires_by k.frozen k.last

-- a point's row is changed so, and all other rows stay
pub record IsRewritten (old new : Rows Progress) (p : Point) (change : Progress → Progress) : Type 0 where
  pub changed : at new p ≡ option_map change (at old p)
  pub others : (q : Point) → q ≢ p → at new q ≡ at old q

-- the machine's stage that a row's stage stands for
abbrev pub stage_of : Stage → machine.Stage
stage_of stage.Bare = machine.Bare
stage_of stage.Gated = machine.Gated
stage_of stage.Static = machine.Static
stage_of stage.Full = machine.Full

-- whether a row was settled in the round
abbrev pub settled_in : ℕ → Option Progress → Bool
settled_in round None = false
settled_in round (Some k) = k.settled == round

-- readers are told even of an outcome that stays, as a test
abbrev pub tells_again : Cutoff → Bool
tells_again Equal = false
tells_again Never = true

-- a row's cutoff, and Equal without one
abbrev pub cutoff_in : Option Progress → Cutoff
cutoff_in None = Equal
cutoff_in (Some k) = k.cutoff

-- whether a row was settled in the round that tells even of an outcome that stays
abbrev pub passes_in : ℕ → Option Progress → Bool
passes_in round x = tells_again (cutoff_in x) && settled_in round x

-- the value that a row shows
abbrev pub value_of : Option Outcome → Option Value
value_of (Some (Val v)) = Some v
value_of o = None

-- the value that a point shows, if it has a row that does
abbrev pub value_in : Option Progress → Option Value
value_in None = None
value_in (Some k) = value_of k.outcome

-- the stage of a point, if it has a row
abbrev pub stage_in : Option Progress → Option Stage
stage_in None = None
stage_in (Some k) = Some k.stage

-- the outcome of a point that has a row
abbrev pub outcome_in : Option Progress → Option Outcome
outcome_in None = None
outcome_in (Some k) = k.outcome

-- all links
abbrev pub is_full : Option Stage → Bool
is_full (Some stage.Full) = true
is_full s = false
