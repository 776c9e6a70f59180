-- Where a change of a node's outcome ends.
use Rattle.std.specs.Prelude.{◌≡◌, Option, None, Some}
use Rattle.inc_value.specs.declared.outcome.Outcome.{Outcome}
use Rattle.map_nodes.specs.declared.cutoff.Cutoff.{Cutoff}
use Rattle.map_nodes.specs.declared.cutoff.Cutoff.TheVariants.{Equal, Never}

-- which outcome a node's readers needn't be told of, by the one that it showed before: under Equal the same one, under Never none
abbrev pub IsStoppedAfter : Cutoff → Outcome → Outcome → Type 0
IsStoppedAfter Equal before now = before ≡ now
IsStoppedAfter Never before now = ⊥

-- so it is by what it showed before, if it showed something: its first outcome is told
abbrev pub IsStopped : Cutoff → Option Outcome → Outcome → Type 0
IsStopped c None now = ⊥
IsStopped c (Some before) now = IsStoppedAfter c before now

-- readers are told even of an outcome that stays
abbrev pub TellsAgain : Cutoff → Type 0
TellsAgain c = (o : Outcome) → IsStopped c (Some o) o → ⊥
