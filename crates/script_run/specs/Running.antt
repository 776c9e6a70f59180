-- Runs over a script.
use Rattle.std.specs.Prelude.{◌≡◌, ◌≢◌, ◌<◌, ◌≤◌, ℕ, ◌+◌, true, false, List, [], ◌∷◌, ◌++◌, length, take, Option, IfSome}
use Rattle.std.specs.Io.KnownBytes.{Appends}
use Rattle.script_io.specs.Endings.{Reads, number_of}
use Rattle.script_io.specs.declared.ending.Ending.{Ending}
use Rattle.script_io.specs.declared.ending.Ending.TheVariants.{Accepted, Refused, WriteFault, Memory}
use Rattle.script_model.specs.Formula.{Meanings}
use Rattle.script_model.specs.Run.{IsTurn, Chain, Halts, lines_read, any_refused}
use Rattle.script_model.specs.Step.{Moment, first_moment}
use Rattle.script_run.specs.Counts.{Count, Counted, IsCount, AreCounts, count_at_first, turns_of}
use Rattle.script_run.specs.Telling.{Behind, told_of, all_told}

-- what is outside a run: the bytes that the source has left and those that the sink was given, where they tell them,
-- and how many functions of the library were called
pub record Outside : Type 0 where
  pub left : Option (List ℕ)
  pub written : Option (List ℕ)
  pub calls : ℕ

-- where a run that had come to a moment found no memory: before it had a line; at a line, for which no more functions were called
-- than were due; or at what is written behind a turn. The lines are the one at which it stopped, or none
pub data Halted (F : Meanings) (behind : Behind) (m : Moment) (lines : List (List ℕ)) (was : Count) (calls : ℕ) : Type 0 where
  before_line : lines ≡ [] → calls ≡ was.calls → Halted F behind m lines was calls
  at_line : (line : List ℕ) (after : Moment) (due : ℕ) → lines ≡ line ∷ [] → Halts F m line after due → was.calls ≤ calls → calls ≤ was.calls + due
      → Halted F behind m lines was calls
  behind_turn : (c : Counted) → lines ≡ c.turn.line ∷ [] → c.turn.before ≡ m → IsTurn F c.turn → IsCount c → c.was ≡ was → c.is.calls ≡ calls
      → behind c.turn.replies c.was c.is ≢ [] → Halted F behind m lines was calls

-- where a run stopped, and what the library counted behind the turns: a run with memory stopped at no line, and counted nothing more
abbrev pub Stopped : Meanings → Behind → Ending → Moment → List (List ℕ) → Count → ℕ → Type 0
Stopped F behind Memory end lines was calls = Halted F behind end lines was calls
Stopped F behind ending end lines was calls = (lines ≡ []) × (calls ≡ was.calls)

-- all that is written of the turns before the last one was written, and a front of what is written of the last one, but not all of it
pub record IsCutInLast (behind : Behind) (before after : Option (List ℕ)) (counted : List Counted) : Type 0 where
  pub earlier : List Counted
  pub last : Counted
  pub are : counted ≡ earlier ++ last ∷ []
  pub size : ℕ
  pub short : size < length (told_of behind last)
  pub appended : Appends before after (all_told behind earlier ++ take size (told_of behind last))

-- all that is written of the turns was written, and the run is accepted exactly where none of them is a refusal; a sink that failed has
-- all but an end of what is written of the last turn
abbrev pub Writes : Behind → Ending → Option (List ℕ) → Option (List ℕ) → List Counted → Type 0
Writes behind Accepted before after counted = Appends before after (all_told behind counted) × (any_refused (turns_of counted) ≡ false)
Writes behind Refused before after counted = Appends before after (all_told behind counted) × (any_refused (turns_of counted) ≡ true)
Writes behind WriteFault before after counted = IsCutInLast behind before after counted
Writes behind ending before after counted = Appends before after (all_told behind counted)

-- a course of the model from the first moment on: its turns, each with its counts, from what the library had counted before the first one, and
-- where it stopped
pub record Course (F : Meanings) (behind : Behind) (ending : Ending) (called calls : ℕ) : Type 0 where
  pub counted : List Counted
  pub end : Moment
  pub chain : Chain F first_moment (turns_of counted) end
  pub reached : Count
  pub counts : AreCounts (count_at_first called) counted reached
  pub halted : List (List ℕ)
  pub stopped : Stopped F behind ending end halted reached calls

-- one run: a course over the lines that were read, of which that was written
pub record Ran (F : Meanings) (behind : Behind) (ending : Ending) (limit : ℕ) (before after : Outside) : Type 0 where
  pub course : Course F behind ending before.calls after.calls
  pub read : IfSome before.left (λ bytes. Reads ending limit bytes after.left (lines_read (turns_of course.counted) ++ course.halted))
  pub written : Writes behind ending before.written after.written course.counted

-- the status tells how the run ended
pub record RanTo (F : Meanings) (behind : Behind) (status limit : ℕ) (before after : Outside) : Type 0 where
  pub ending : Ending
  pub is_status : status ≡ number_of ending
  pub ran : Ran F behind ending limit before after
