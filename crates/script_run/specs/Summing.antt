-- Runs over a text, of which only a summary of what they print is told.
use Rattle.std.specs.Prelude.{◌≡◌, ◌<◌, ◌≤◌, ℕ, ◌+◌, Bool, List, [], ◌∷◌, ◌++◌, length, take, Option, if◌then◌else◌}
use Rattle.std.specs.Io.KnownBytes.{Appends}
use Rattle.generated_script.specs.Counting.{Count, counted, nothing}
use Rattle.inc_value.specs.declared.function.FnRef.{FnRef}
use Rattle.script_graph.specs.Kept.{Kept}
use Rattle.script_graph.specs.State.{Stands}
use Rattle.script_io.specs.Causes.{Tells}
use Rattle.script_io.specs.Lines.{lines_of}
use Rattle.script_model.specs.Formula.{Meanings}
use Rattle.generated_script.specs.Generated.{generated_text}
use Rattle.script_model.specs.Run.{Turn, Chain, Halts, any_refused, lines_read, transcript, work_of}
use Rattle.script_model.specs.Step.{Moment, first_moment}
use Rattle.generated_script.specs.Summary.{summary_of, summary_line}
use Rattle.session.specs.Taken.{Takes}
use Rattle.session.specs.declared.answer.Did.{Did}
use Rattle.script_run.specs.Programs.{KeepsLibrary}
use Rattle.script_run.specs.Saying.{is_refusal_said}

-- ---- one line

-- a line was taken, and what it printed was counted
pub record CountsTurn (F : Meanings) (line : List ℕ) (old new : Kept) (called calls : ℕ) (before after : Count) (refused : Bool) : Type 0 where
  pub how : Did
  pub appended : List ℕ
  pub takes : (m : Moment) → Stands F old m → Takes F m line new [] appended called calls how
  pub said : refused ≡ is_refusal_said how
  pub sums : after ≡ counted before appended

-- ---- all lines

-- turns over the first lines of a text from the first moment on, behind which the rest stands: the session stands for where they lead, no more
-- functions were called than are due in them, and what they print was counted
pub record CountsSoFar (F : Meanings) (text rest : List ℕ) (called : ℕ) (kept : Kept) (calls : ℕ) (tally : Count) (any : Bool) : Type 0 where
  pub turns : List Turn
  pub end : Moment
  pub chain : Chain F first_moment turns end
  pub stands : Stands F kept end
  pub reads : lines_read turns ++ lines_of rest ≡ lines_of text
  pub within : calls ≤ called + work_of turns
  pub refused : any_refused turns ≡ any
  pub sums : tally ≡ counted nothing (transcript turns)

-- the turns over all lines of a text, and how many functions were called in them
pub record Sums (F : Meanings) (text : List ℕ) (called calls : ℕ) : Type 0 where
  pub turns : List Turn
  pub end : Moment
  pub chain : Chain F first_moment turns end
  pub reads : lines_read turns ≡ lines_of text
  pub within : calls ≤ called + work_of turns

-- the same over the first lines of a text, behind which no memory was found for a line
pub record SumsUntil (F : Meanings) (text : List ℕ) (called calls : ℕ) : Type 0 where
  pub turns : List Turn
  pub end : Moment
  pub chain : Chain F first_moment turns end
  pub line : List ℕ
  pub more : List (List ℕ)
  pub reads : lines_read turns ++ line ∷ more ≡ lines_of text
  pub after : Moment
  pub due : ℕ
  pub halts : Halts F end line after due
  pub within : calls ≤ called + work_of turns + due

-- the summary of what was printed, and whether a line was refused
pub record IsSummary (F : Meanings) (text : List ℕ) (called calls : ℕ) (line : List ℕ) (any : Bool) : Type 0 where
  pub sums : Sums F text called calls
  pub line_is : line ≡ summary_line (summary_of (lines_of (transcript sums.turns)))
  pub refused : any_refused sums.turns ≡ any

-- no memory was found: before the first line, for a line, or for the summary
pub data NoSummary (F : Meanings) (text : List ℕ) (called calls : ℕ) : Type 0 where
  at_first : calls ≡ called → NoSummary F text called calls
  at_line : SumsUntil F text called calls → NoSummary F text called calls
  at_summary : Sums F text called calls → NoSummary F text called calls

-- ---- what is told

-- how a generated script ended: its summary was written, and the status tells whether a line was refused; the sink failed, and took a front of it,
-- but not all; or no memory was found, and nothing was written
pub data EndsGenerated (F : Meanings) (text : List ℕ) (called calls : ℕ) (before after : Option (List ℕ)) (status : ℕ) : Type 0 where
  all_written : (line : List ℕ) (refused : Bool) → IsSummary F text called calls line refused → status ≡ (if refused then 1 else 0)
      → Appends before after line → EndsGenerated F text called calls before after status
  cut_off : (line : List ℕ) (refused : Bool) (size : ℕ) → IsSummary F text called calls line refused → status ≡ 4 → size < length line
      → Appends before after (take size line) → EndsGenerated F text called calls before after status
  not_summed : NoSummary F text called calls → status ≡ 5 → after ≡ before → EndsGenerated F text called calls before after status

module _ {L : Type 0} (meanings : L → Meanings) (known : L → FnRef → Bool) (calls : L → ℕ) where
  -- the script of so many steps and this seed was taken, line by line, and its summary told
  pub record TellsGenerated (steps seed : ℕ) (old new : L) (before after : Option (List ℕ)) (was_faults is_faults : ℕ) (status : ℕ) : Type 0 where
    pub ends : EndsGenerated (meanings old) (generated_text steps seed) (calls old) (calls new) before after status
    pub library : KeepsLibrary meanings known calls old new
    -- 4 tells that a write failed
    pub sink : Tells (status ≡ 4) was_faults is_faults
