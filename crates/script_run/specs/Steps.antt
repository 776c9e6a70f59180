-- One line more of a run.
use Rattle.std.specs.Prelude.{◌≡◌, ◌≢◌, ◌||◌, ◌<◌, ◌≤◌, ◌+◌, ◌^◌, ℕ, Bool, false, List, [], ◌++◌, length, take, Option, Result, Ok, Err, IfOk, IfErr, OnOk}
use Rattle.std.specs.Io.KnownBytes.{Appends}
use Rattle.inc_value.specs.declared.function.FnRef.{FnRef}
use Rattle.script_graph.specs.Kept.{Kept}
use Rattle.script_graph.specs.State.{Stands}
use Rattle.script_io.specs.Causes.{Tells}
use Rattle.script_io.specs.Lines.{Reader}
use Rattle.script_io.specs.declared.ending.Ending.{Ending}
use Rattle.script_io.specs.declared.ending.Ending.TheVariants.{Memory, ReadFault, WriteFault}
use Rattle.script_model.specs.Formula.{Meanings}
use Rattle.script_model.specs.Step.{Moment, Reply}
use Rattle.session.specs.Session.{SessionView}
use Rattle.session.specs.Taken.{AsksStabilize, Says, Stops, Takes}
use Rattle.session.specs.declared.answer.Did.{Did}
use Rattle.script_run.specs.Counts.{Count}
use Rattle.script_run.specs.Progress.{Point, Progress}
use Rattle.script_run.specs.Programs.{Around, KeepsLibrary, outside_of}
use Rattle.script_run.specs.Running.{Outside, Ran}
use Rattle.script_run.specs.Saying.{is_refusal_said}
use Rattle.script_run.specs.Telling.{Behind, TellsRound}

-- where a line is answered: the session, what the sink was given, where it tells it, how often the sink failed, and what is still to be written
pub record Desk (L : Type 0) : Type 0 where
  pub session : SessionView L
  pub written : Option (List ℕ)
  pub sink_faults : ℕ
  pub buffer : List ℕ

-- where a run is: the reader of lines, what the source has left, where it tells it, how often the source failed, and the desk
pub record Place (L : Type 0) : Type 0 where
  pub reader : Reader
  pub left : Option (List ℕ)
  pub source_faults : ℕ
  pub desk : Desk L

-- a desk, and a place, by what there is
abbrev pub desk_of : {L : Type 0} → SessionView L → Option (List ℕ) → ℕ → List ℕ → Desk L
desk_of session written faults buffer = record { session = session; written = written; sink_faults = faults; buffer = buffer }

abbrev pub place_of : {L : Type 0} → Reader → Option (List ℕ) → ℕ → Desk L → Place L
place_of reader left faults desk = record { reader = reader; left = left; source_faults = faults; desk = desk }

-- what was counted where a session is: by the library, and by the session itself
abbrev pub counted_at : {L : Type 0} → (L → ℕ) → SessionView L → Count
counted_at calls session = record { calls = calls session.library; builds = session.builds }

-- how far a run has come at a place
abbrev pub point_at : {L : Type 0} → (L → ℕ) → Place L → Bool → Point
point_at calls p refused = record {
  reader = p.reader;
  left = p.left;
  written = p.desk.written;
  kept = p.desk.session.kept;
  count = counted_at calls p.desk.session;
  refused = refused;
}

-- what is outside a run at a place
abbrev pub outside_at : {L : Type 0} → (L → ℕ) → Place L → Outside
outside_at calls p = record { left = p.left; written = p.desk.written; calls = calls p.desk.session.library }

-- another line may be taken at a place: bytes were taken within the limit, no more lines than bytes, and nothing is left to be written
pub record IsReady {L : Type 0} (limit : ℕ) (p : Place L) : Type 0 where
  pub unended : p.reader.ended ≡ false
  pub within : p.reader.taken ≤ limit
  pub few : limit ≤ 2 ^ 30
  pub lines : p.desk.session.lines ≤ p.reader.taken
  pub empty : p.desk.buffer ≡ []

-- a line was taken by the session, and this is all that is to be written of it
pub record IsPrinted (F : Meanings) (behind : Behind) (IsLine : List ℕ → Type 0) (old new : Kept) (was is : Count) (how : Did)
    (appended whole : List ℕ) : Type 0 where
  pub takes : (m : Moment) (line : List ℕ) → IsLine line → Stands F old m → Takes F m line new [] appended was.calls is.calls how
  pub told : (replies : List Reply) → Says how replies → TellsRound old.accepted new.accepted replies → whole ≡ appended ++ behind replies was is

-- how a line is answered: all of it is written, and whether a line was refused so far; the sink fails, and took a front of it; the session
-- found no memory for the line; or there was none for what stands behind it
pub data LineEnds (F : Meanings) (behind : Behind) (IsLine : List ℕ → Type 0) (refused : Bool) (old new : Kept) (was is : Count)
    (before after : Option (List ℕ)) (result : Result Bool Ending) : Type 0 where
  all_written : (how : Did) (appended whole : List ℕ) → IsPrinted F behind IsLine old new was is how appended whole
      → result ≡ Ok (refused || is_refusal_said how) → Appends before after whole
      → LineEnds F behind IsLine refused old new was is before after result
  cut_off : (how : Did) (appended whole : List ℕ) (size : ℕ) → IsPrinted F behind IsLine old new was is how appended whole
      → result ≡ Err WriteFault → size < length whole → Appends before after (take size whole)
      → LineEnds F behind IsLine refused old new was is before after result
  not_taken : ((m : Moment) (line : List ℕ) → IsLine line → Stands F old m → Stops F m line new was.calls is.calls)
      → result ≡ Err Memory → after ≡ before
      → LineEnds F behind IsLine refused old new was is before after result
  not_told : (how : Did) (appended : List ℕ)
      → ((m : Moment) (line : List ℕ) → IsLine line → Stands F old m → Takes F m line new [] appended was.calls is.calls how)
      → ((replies : List Reply) → Says how replies → TellsRound old.accepted new.accepted replies → behind replies was is ≢ [])
      → result ≡ Err Memory → after ≡ before
      → LineEnds F behind IsLine refused old new was is before after result

module _ {L : Type 0} (meanings : L → Meanings) (known : L → FnRef → Bool) (calls : L → ℕ) (behind : Behind) where
  -- a line was answered
  pub record AnswersLine (IsLine : List ℕ → Type 0) (refused : Bool) (old new : Desk L) (result : Result Bool Ending) : Type 0 where
    pub ends : LineEnds (meanings old.session.library) behind IsLine refused old.session.kept new.session.kept
        (counted_at calls old.session) (counted_at calls new.session) old.written new.written result
    pub lines : new.session.lines ≡ old.session.lines + 1
    -- builds are counted in stabilizes alone
    pub builds_grow : old.session.builds ≤ new.session.builds
    pub quiet : (line : List ℕ) → IsLine line → (AsksStabilize line → ⊥) → new.session.builds ≡ old.session.builds
    -- where a run goes on nothing is left to be written
    pub empty : OnOk result (new.buffer ≡ [])
    pub library : KeepsLibrary meanings known calls old.session.library new.session.library
    pub sink : Tells (result ≡ Err WriteFault) old.sink_faults new.sink_faults
    -- the source has no part in it
    pub unread : result ≢ Err ReadFault

  -- the next line of a source was taken and answered, or the run ends
  pub record TakesLine (limit : ℕ) (refused : Bool) (old new : Place L) (result : Result Bool Ending) : Type 0 where
    -- where a run goes on another line may be taken, behind the bytes of this one
    pub ready : OnOk result (IsReady limit new)
    pub grows : OnOk result (old.reader.taken < new.reader.taken)
    pub within : new.reader.taken ≤ limit
    pub library : KeepsLibrary meanings known calls old.desk.session.library new.desk.session.library
    pub source : Tells (result ≡ Err ReadFault) old.source_faults new.source_faults
    pub sink : Tells (result ≡ Err WriteFault) old.desk.sink_faults new.desk.sink_faults
    -- a run so far, in whose progress it lies, goes on
    pub goes_on : IfOk result (λ now_refused. (before : Outside)
        → Progress (meanings old.desk.session.library) behind limit before (point_at calls old refused)
        → Progress (meanings old.desk.session.library) behind limit before (point_at calls new now_refused))
    -- or ends
    pub ends : IfErr result (λ ending. (before : Outside)
        → Progress (meanings old.desk.session.library) behind limit before (point_at calls old refused)
        → Ran (meanings old.desk.session.library) behind ending limit before (outside_at calls new))

  -- line after line was taken and answered, until the run ended
  pub record EndsRun (limit : ℕ) (refused : Bool) (old new : Place L) (ending : Ending) : Type 0 where
    pub library : KeepsLibrary meanings known calls old.desk.session.library new.desk.session.library
    pub source : Tells (ending ≡ ReadFault) old.source_faults new.source_faults
    pub sink : Tells (ending ≡ WriteFault) old.desk.sink_faults new.desk.sink_faults
    -- a run so far, in whose progress it lay, has ended
    pub ends : (before : Outside) → Progress (meanings old.desk.session.library) behind limit before (point_at calls old refused)
        → Ran (meanings old.desk.session.library) behind ending limit before (outside_at calls new)

  -- a run over a source, with its own session
  pub record RunsLines (limit : ℕ) (old new : Around L) (ending : Ending) : Type 0 where
    pub ran : Ran (meanings old.library) behind ending limit (outside_of calls old) (outside_of calls new)
    pub library : KeepsLibrary meanings known calls old.library new.library
    pub source : Tells (ending ≡ ReadFault) old.read_faults new.read_faults
    pub sink : Tells (ending ≡ WriteFault) old.write_faults new.write_faults
