-- A round that began with certain functions known goes on so.
use Rattle.node_outcomes.specs.Meaning.{Meaning}
use Rattle.stabilize_round.specs.Machine.{Moves}
use Rattle.stabilize_round.specs.State.{State, Start}
use Rattle.stabilize_round.proofs.Ids.{moves_given}
use Rattle.stabilize_round.proofs.Machine.{moves_keep}
use Rattle.wiring.specs.Began.{IsRoundOf}

pub round_on : (M : Meaning) (z : Start) (s t : State) → Moves M.functions z s t → IsRoundOf M z s → IsRoundOf M z t
round_on M z s t run begun = record {
  holds = moves_keep M.functions z s t run begun.holds;
  given = moves_given M.functions z s t begun.given run;
  knows = begun.knows;
  names = begun.names;
}
