-- Laws of runs: what counts by turn say in all, and what is written where nothing stands behind a line.
use Rattle.std.specs.Prelude.{◌≡◌, ◌≤◌, ◌+◌, List, []}
use Rattle.script_model.specs.Run.{bytes_of, transcript, work_of}
use Rattle.script_run.specs.Counts.{Count, Counted, AreCounts, turns_of}
use Rattle.script_run.specs.Telling.{Behind, told_of, all_told}

-- nothing is written behind lines
abbrev pub plain : Behind
plain replies was is = []

-- in all turns together no more calls are counted than are due in them
abbrev pub CountsAreWithinWork : Type 0
CountsAreWithinWork = (was is : Count) (counted : List Counted) → AreCounts was counted is → is.calls ≤ was.calls + work_of (turns_of counted)

-- where nothing is written behind lines, what is written of turns is their transcript, and of a turn what it prints
pub record PlainWritesTranscripts : Type 0 where
  pub all : (counted : List Counted) → all_told plain counted ≡ transcript (turns_of counted)
  pub each : (c : Counted) → told_of plain c ≡ bytes_of c.turn
