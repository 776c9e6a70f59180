-- Rounds that began with certain functions known.
use Rattle.std.specs.Prelude.{◌≡◌}
use Rattle.node_outcomes.specs.Meaning.{Meaning}
use Rattle.stabilize_round.specs.Ids.{AllGiven}
use Rattle.stabilize_round.specs.Invariant.{Invariant}
use Rattle.stabilize_round.specs.State.{State, Start}

-- a state of a round that began with just these functions known: the machine's invariant holds, and all that the round speaks of was given
pub record IsRoundOf (M : Meaning) (z : Start) (s : State) : Type 0 where
  pub holds : Invariant M.functions z s
  pub given : AllGiven M.functions z s
  pub knows : z.known ≡ M.known
  pub names : z.ids ≡ M.ids
