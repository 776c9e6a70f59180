-- A run after some of its lines.
use Rattle.std.specs.Prelude.{◌≡◌, ℕ, Bool, List, Option, IfSome}
use Rattle.std.specs.Io.KnownBytes.{Appends}
use Rattle.script_io.specs.Lines.{Reader}
use Rattle.script_io.specs.Reading.{ReadSoFar}
use Rattle.script_model.specs.Formula.{Meanings}
use Rattle.script_model.specs.Run.{Chain, lines_read, any_refused}
use Rattle.script_model.specs.Step.{Moment, first_moment}
use Rattle.script_graph.specs.Kept.{Kept}
use Rattle.script_graph.specs.State.{Stands}
use Rattle.script_run.specs.Counts.{Count, Counted, AreCounts, count_at_first, turns_of}
use Rattle.script_run.specs.Running.{Outside}
use Rattle.script_run.specs.Telling.{Behind, all_told}

-- how far a run has come: the reader of lines, what the source has left and what the sink was given, where they tell it,
-- what the session keeps, what was counted so far, and whether a line was refused
pub record Point : Type 0 where
  pub reader : Reader
  pub left : Option (List ℕ)
  pub written : Option (List ℕ)
  pub kept : Kept
  pub count : Count
  pub refused : Bool

-- the turns lead to a moment that the session stands for, over the lines so far, and each has its counts
pub record CourseSoFar (F : Meanings) (limit : ℕ) (before : Outside) (point : Point) (counted : List Counted) (end : Moment) : Type 0 where
  pub chain : Chain F first_moment (turns_of counted) end
  pub stands : Stands F point.kept end
  pub counts : AreCounts (count_at_first before.calls) counted point.count
  pub refused : any_refused (turns_of counted) ≡ point.refused
  pub read : IfSome before.left (λ bytes. ReadSoFar limit bytes point.reader point.left (lines_read (turns_of counted)))

-- a run so far: its turns, of which all was written
pub record Progress (F : Meanings) (behind : Behind) (limit : ℕ) (before : Outside) (point : Point) : Type 0 where
  pub counted : List Counted
  pub end : Moment
  pub course : CourseSoFar F limit before point counted end
  pub written : Appends before.written point.written (all_told behind counted)
