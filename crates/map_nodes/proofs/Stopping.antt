-- What a cutoff stops.
use Rattle.std.proofs.Common.{◌≡◌, Option, None, Some, refl, ap}
use Rattle.inc_value.specs.declared.outcome.Outcome.{Outcome}
use Rattle.inc_value.specs.declared.outcome.Outcome.TheVariants.{Invalid}
use Rattle.map_nodes.specs.Cutoff.{IsStopped, TellsAgain}
use Rattle.map_nodes.specs.declared.cutoff.Cutoff.{Cutoff}
use Rattle.map_nodes.specs.declared.cutoff.Cutoff.TheVariants.{Equal, Never}

-- an outcome that is stopped is the one that was shown before
pub stopped_same : (c : Cutoff) (before : Option Outcome) (now : Outcome) → IsStopped c before now → before ≡ Some now
stopped_same c None now h = absurd h
stopped_same Equal (Some before) now h = ap Some h
stopped_same Never (Some before) now h = absurd h

-- Equal stops an outcome that stays
pub equal_stops : (c : Cutoff) → c ≡ Equal → TellsAgain c → ⊥
equal_stops Equal is tells = tells Invalid refl
equal_stops Never is tells = absurd (cc)
