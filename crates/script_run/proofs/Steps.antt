-- One line more of a run, and its end.
use Rattle.std.proofs.Common.{if◌then◌else◌, ◌≡◌, ◌≢◌, ◌||◌, ℕ, ◌≤◌, ◌<◌, Bool, true, false, List, [], Option, Result, Ok, Err, IsTrue, refl, sym, ◌∙◌, ap, subst, arith}
use Rattle.inc_value.specs.declared.function.FnRef.{FnRef}
use Rattle.script_graph.specs.State.{Stands}
use Rattle.script_io.specs.Causes.{Rose, Tells}
use Rattle.script_io.specs.Lines.{fresh}
use Rattle.script_io.specs.declared.ending.Ending.{Ending}
use Rattle.script_io.specs.declared.ending.Ending.TheVariants as ending
use Rattle.script_io.specs.declared.line_reader.Got.TheVariants as answer
use Rattle.script_model.specs.Formula.{Meanings}
use Rattle.script_model.specs.Step.{first_moment}
use Rattle.script_run.proofs.Course.{CountsRise, IsTaken, Progress-more, Progress-start, Ran-no_memory, Ran-no_memory_behind, Ran-write_fault}
use Rattle.script_run.specs.Programs.{KeepsLibrary, around}
use Rattle.script_run.specs.Progress.{Progress}
use Rattle.script_run.specs.Running.{Outside, Ran}
use Rattle.script_run.specs.Saying.{is_refusal_said}
use Rattle.script_run.specs.Steps.{AnswersLine, Desk, EndsRun, IsReady, LineEnds, Place, RunsLines, TakesLine, all_written, counted_at, cut_off, not_taken, not_told, outside_at, point_at}
use Rattle.script_run.specs.Telling.{Behind}

-- ---- faults

pub no_fault : {Came : Type 0} (before now : ℕ) → now ≡ before → (Came → ⊥) → Tells Came before now
no_fault before now same none = record { later = omega (arith, same); fault = λ came. absurd (none came); unfailed = λ none'. same }

pub faulted : {Came : Type 0} (before now : ℕ) → before ≤ now → Rose before now → Came → Tells Came before now
faulted before now later rose came = record { later = later; fault = λ came'. rose; unfailed = λ none. absurd (none came) }

-- where no fault came, others may come
tells_on : {Came Later : Type 0} (before between now : ℕ) → between ≡ before → Tells Later between now → (Came → Later) → (Later → Came) → Tells Came before now
tells_on before between now same h to from =
    let later = h.later in
    record {
      later = omega (arith, same, later);
      fault = λ came. subst (λ n. Rose n now) same (h.fault (to came));
      unfailed = λ none. h.unfailed (λ is. none (from is)) ∙ same;
    }

-- what ends a run in one way ends it in no other
pub memory_unwritten : ◌≢◌ {A = Result Bool Ending} (Err ending.Memory) (Err ending.WriteFault)
memory_unwritten is = cc

pub memory_unread : ◌≢◌ {A = Result Bool Ending} (Err ending.Memory) (Err ending.ReadFault)
memory_unread is = cc

pub write_unread : ◌≢◌ {A = Result Bool Ending} (Err ending.WriteFault) (Err ending.ReadFault)
write_unread is = cc

pub limit_unread : ◌≢◌ {A = Result Bool Ending} (Err ending.Limit) (Err ending.ReadFault)
limit_unread is = cc

pub limit_whole : ending.Limit ≢ ending.WriteFault
limit_whole is = cc

pub read_whole : ending.ReadFault ≢ ending.WriteFault
read_whole is = cc

pub memory_no_write : ending.Memory ≢ ending.WriteFault
memory_no_write is = cc

pub memory_no_read : ending.Memory ≢ ending.ReadFault
memory_no_read is = cc

-- and what goes on has not ended
pub on_unwritten : (b : Bool) → ◌≢◌ {A = Result Bool Ending} (Ok b) (Err ending.WriteFault)
on_unwritten b is = cc

pub on_unread : (b : Bool) → ◌≢◌ {A = Result Bool Ending} (Ok b) (Err ending.ReadFault)
on_unread b is = cc

-- an answer of the reader that is no failed read
pub line_read : answer.Line ≢ answer.ReadFault
line_read is = cc

pub long_read : answer.TooLong ≢ answer.ReadFault
long_read is = cc

pub end_read : answer.End ≢ answer.ReadFault
end_read is = cc

pub limit_read : answer.Limit ≢ answer.ReadFault
limit_read is = cc

-- at the end of the input nothing failed
pub ends_whole : (refused : Bool) (e : Ending) → e ≡ (if refused then ending.Refused else ending.Accepted) → e ≢ ending.WriteFault
ends_whole true e is fault = let clash : ending.Refused ≡ ending.WriteFault = sym is ∙ fault in cc
ends_whole false e is fault = let clash : ending.Accepted ≡ ending.WriteFault = sym is ∙ fault in cc

pub ends_read : (refused : Bool) (e : Ending) → e ≡ (if refused then ending.Refused else ending.Accepted)
    → ◌≢◌ {A = Result Bool Ending} (Err e) (Err ending.ReadFault)
ends_read true e is fault = let clash : ◌≡◌ {A = Result Bool Ending} (Err ending.Refused) (Err ending.ReadFault) = ap (λ (x : Ending). Err x) (sym is) ∙ fault in cc
ends_read false e is fault = let clash : ◌≡◌ {A = Result Bool Ending} (Err ending.Accepted) (Err ending.ReadFault) = ap (λ (x : Ending). Err x) (sym is) ∙ fault in cc

module _ {L : Type 0} (meanings : L → Meanings) (known : L → FnRef → Bool) (calls : L → ℕ) where
  -- ---- libraries

  pub keeps_same : (old new : L) → new ≡ old → KeepsLibrary meanings known calls old new
  keeps_same old new same =
      let counts : calls new ≡ calls old = ap calls same in
      record {
        functions = ap meanings same;
        known_still = λ f h. subst (λ l. IsTrue (known l f)) (sym same) h;
        calls_grow = omega (arith, counts);
      }

  pub keeps_on : (old between new : L) → KeepsLibrary meanings known calls old between → KeepsLibrary meanings known calls between new
      → KeepsLibrary meanings known calls old new
  keeps_on old between new first second =
      let low = first.calls_grow in
      let high = second.calls_grow in
      record {
        functions = second.functions ∙ first.functions;
        known_still = λ f h. second.known_still f (first.known_still f h);
        calls_grow = omega (arith, low, high);
      }

  module _ (behind : Behind) where
    -- ---- one line

    module _ (limit : ℕ) (refused : Bool) (old new : Place L) where
      abbrev F : Meanings
      F = meanings old.desk.session.library

      -- how the counts rise over a line that is answered
      rise : (IsLine : List ℕ → Type 0) (line : List ℕ) → IsLine line → {result : Result Bool Ending}
          → AnswersLine meanings known calls behind IsLine refused old.desk new.desk result
          → CountsRise line (counted_at calls old.desk.session) (counted_at calls new.desk.session)
      rise IsLine line is_line answers =
          record { calls = answers.library.calls_grow; builds = answers.builds_grow; quiet = answers.quiet line is_line }

      -- a line was taken off the bytes, and answered
      pub takes_line : (IsLine : List ℕ → Type 0) (line part : List ℕ) → IsLine line → IsReady limit old
          → IsTaken limit old.reader new.reader old.left new.left line part → old.reader.taken < new.reader.taken → new.reader.ended ≡ false
          → new.source_faults ≡ old.source_faults → (result : Result Bool Ending)
          → AnswersLine meanings known calls behind IsLine refused old.desk new.desk result
          → TakesLine meanings known calls behind limit refused old new result
      takes_line IsLine line part is_line ready taken grows unended source result answers = go answers.ends
        where
          lines : new.desk.session.lines ≤ new.reader.taken
          lines = let more = answers.lines in let few = ready.lines in omega (arith, more, few, grows)

          go : LineEnds F behind IsLine refused old.desk.session.kept new.desk.session.kept
              (counted_at calls old.desk.session) (counted_at calls new.desk.session) old.desk.written new.desk.written result
              → TakesLine meanings known calls behind limit refused old new result
          go (all_written how appended whole p is print) =
              let a = subst (AnswersLine meanings known calls behind IsLine refused old.desk new.desk) is answers in
              subst (TakesLine meanings known calls behind limit refused old new) (sym is) (record {
                ready = record { unended = unended; within = taken.within; few = ready.few; lines = lines; empty = a.empty };
                grows = grows;
                within = taken.within;
                library = a.library;
                source = no_fault old.source_faults new.source_faults source a.unread;
                sink = a.sink;
                goes_on = λ before so_far. Progress-more F behind limit before (point_at calls old refused)
                    (point_at calls new (refused || is_refusal_said how)) line part [] appended whole how so_far
                    (λ m st. p.takes m line is_line st) (rise IsLine line is_line a) taken refl refl p.told print;
                ends = tt;
              })
          go (cut_off how appended whole size p is short print) =
              let a = subst (AnswersLine meanings known calls behind IsLine refused old.desk new.desk) is answers in
              subst (TakesLine meanings known calls behind limit refused old new) (sym is) (record {
                ready = tt;
                grows = tt;
                within = taken.within;
                library = a.library;
                source = no_fault old.source_faults new.source_faults source a.unread;
                sink = a.sink;
                goes_on = tt;
                ends = λ before so_far. Ran-write_fault F behind limit before (point_at calls old refused)
                    (point_at calls new (refused || is_refusal_said how)) line part [] appended whole how so_far
                    (λ m st. p.takes m line is_line st) (rise IsLine line is_line a) taken refl refl p.told (size, short, print);
              })
          go (not_taken stops is same) =
              let a = subst (AnswersLine meanings known calls behind IsLine refused old.desk new.desk) is answers in
              subst (TakesLine meanings known calls behind limit refused old new) (sym is) (record {
                ready = tt;
                grows = tt;
                within = taken.within;
                library = a.library;
                source = no_fault old.source_faults new.source_faults source a.unread;
                sink = a.sink;
                goes_on = tt;
                ends = λ before so_far. subst (λ (w : Option (List ℕ)). Ran F behind ending.Memory limit before
                    (record { left = new.left; written = w; calls = calls new.desk.session.library })) (sym same)
                    (Ran-no_memory F behind limit before (point_at calls old refused) (point_at calls new refused) line part so_far
                    (λ m st. stops m line is_line st) (rise IsLine line is_line a) taken);
              })
          go (not_told how appended takes wanted is same) =
              let a = subst (AnswersLine meanings known calls behind IsLine refused old.desk new.desk) is answers in
              subst (TakesLine meanings known calls behind limit refused old new) (sym is) (record {
                ready = tt;
                grows = tt;
                within = taken.within;
                library = a.library;
                source = no_fault old.source_faults new.source_faults source a.unread;
                sink = a.sink;
                goes_on = tt;
                ends = λ before so_far. subst (λ (w : Option (List ℕ)). Ran F behind ending.Memory limit before
                    (record { left = new.left; written = w; calls = calls new.desk.session.library })) (sym same)
                    (Ran-no_memory_behind F behind limit before (point_at calls old refused) (point_at calls new refused) line part [] appended how so_far
                    (λ m st. takes m line is_line st) (rise IsLine line is_line a) taken refl wanted);
              })

      -- no line was taken, and the run ends
      pub takes_none : (e : Ending) → new.desk ≡ old.desk → new.reader.taken ≤ limit → e ≢ ending.WriteFault
          → Tells (◌≡◌ {A = Result Bool Ending} (Err e) (Err ending.ReadFault)) old.source_faults new.source_faults
          → ((before : Outside) → Progress F behind limit before (point_at calls old refused)
          → Ran F behind e limit before (record { left = new.left; written = old.desk.written; calls = calls old.desk.session.library }))
          → TakesLine meanings known calls behind limit refused old new (Err e)
      takes_none e same within whole source ends = record {
        ready = tt;
        grows = tt;
        within = within;
        library = keeps_same old.desk.session.library new.desk.session.library (ap (λ (d : Desk L). d.session.library) same);
        source = source;
        sink = no_fault old.desk.sink_faults new.desk.sink_faults (ap (λ (d : Desk L). d.sink_faults) same)
            (λ (is : ◌≡◌ {A = Result Bool Ending} (Err e) (Err ending.WriteFault)). whole (cc));
        goes_on = tt;
        ends = λ before so_far. subst (λ (d : Desk L). Ran F behind e limit before
            (record { left = new.left; written = d.written; calls = calls d.session.library })) (sym same) (ends before so_far);
      }

    -- ---- line after line

    -- the lines so far, behind which another one may be taken
    pub record SoFar (limit : ℕ) (refused now_refused : Bool) (old new : Place L) : Type 0 where
      pub ready : IsReady limit new
      pub library : KeepsLibrary meanings known calls old.desk.session.library new.desk.session.library
      pub source : new.source_faults ≡ old.source_faults
      pub sink : new.desk.sink_faults ≡ old.desk.sink_faults
      pub goes_on : (before : Outside) → Progress (meanings old.desk.session.library) behind limit before (point_at calls old refused)
          → Progress (meanings old.desk.session.library) behind limit before (point_at calls new now_refused)

    pub so_far_none : (limit : ℕ) (refused : Bool) (p : Place L) → IsReady limit p → SoFar limit refused refused p p
    so_far_none limit refused p ready = record {
      ready = ready;
      library = keeps_same p.desk.session.library p.desk.session.library refl;
      source = refl;
      sink = refl;
      goes_on = λ before so_far. so_far;
    }

    module _ (limit : ℕ) (refused between_refused : Bool) (old between new : Place L) (so_far : SoFar limit refused between_refused old between) where
      pub so_far_more : (now_refused : Bool) (result : Result Bool Ending) → result ≡ Ok now_refused
          → TakesLine meanings known calls behind limit between_refused between new result → SoFar limit refused now_refused old new
      so_far_more now_refused result is takes =
          let t = subst (TakesLine meanings known calls behind limit between_refused between new) is takes in
          record {
            ready = t.ready;
            library = keeps_on old.desk.session.library between.desk.session.library new.desk.session.library so_far.library t.library;
            source = t.source.unfailed (on_unread now_refused) ∙ so_far.source;
            sink = t.sink.unfailed (on_unwritten now_refused) ∙ so_far.sink;
            goes_on = λ before p.
                let F = so_far.library.functions in
                subst (λ (f : Meanings). Progress f behind limit before (point_at calls new now_refused)) F
                (t.goes_on before (subst (λ (f : Meanings). Progress f behind limit before (point_at calls between between_refused)) (sym F)
                (so_far.goes_on before p)));
          }

      pub so_far_ends : (e : Ending) (result : Result Bool Ending) → result ≡ Err e
          → TakesLine meanings known calls behind limit between_refused between new result
          → EndsRun meanings known calls behind limit refused old new e
      so_far_ends e result is takes =
          let t = subst (TakesLine meanings known calls behind limit between_refused between new) is takes in
          record {
            library = keeps_on old.desk.session.library between.desk.session.library new.desk.session.library so_far.library t.library;
            source = tells_on old.source_faults between.source_faults new.source_faults so_far.source t.source
                (λ is. ap (λ (x : Ending). Err x) is) (λ is. cc);
            sink = tells_on old.desk.sink_faults between.desk.sink_faults new.desk.sink_faults so_far.sink t.sink
                (λ is. ap (λ (x : Ending). Err x) is) (λ is. cc);
            ends = λ before p.
                let F = so_far.library.functions in
                subst (λ (f : Meanings). Ran f behind e limit before (outside_at calls new)) F
                (t.ends before (subst (λ (f : Meanings). Progress f behind limit before (point_at calls between between_refused)) (sym F)
                (so_far.goes_on before p)));
          }

    -- ---- a run over a source

    -- the session is new and the reader has read nothing, and the library is given back in the end
    pub runs_lines : (limit : ℕ) (lib given : L) (old new : Place L) (e : Ending) → old.desk.session.library ≡ lib → given ≡ new.desk.session.library
        → old.desk.session.builds ≡ 0 → Stands (meanings lib) old.desk.session.kept first_moment → old.reader ≡ fresh → EndsRun meanings known calls behind limit false old new e
        → RunsLines meanings known calls behind limit (around lib old.left old.source_faults old.desk.written old.desk.sink_faults)
        (around given new.left new.source_faults new.desk.written new.desk.sink_faults) e
    runs_lines limit lib given old new e first last unbuilt stands none run =
        let before : Outside = record { left = old.left; written = old.desk.written; calls = calls lib } in
        let same : meanings old.desk.session.library ≡ meanings lib = ap meanings first in
        record {
          ran = subst (λ (x : L). Ran (meanings lib) behind e limit before (record { left = new.left; written = new.desk.written; calls = calls x }))
              (sym last)
              (subst (λ (f : Meanings). Ran f behind e limit before (outside_at calls new)) same
              (run.ends before (Progress-start (meanings old.desk.session.library) behind limit before old.reader old.desk.session.kept
              (counted_at calls old.desk.session) (subst (λ (f : Meanings). Stands f old.desk.session.kept first_moment) (sym same) stands) none
              (ap (λ (n : ℕ). record { calls = n; builds = old.desk.session.builds }) (ap calls first)
              ∙ ap (λ (n : ℕ). record { calls = calls lib; builds = n }) unbuilt))));
          library = keeps_on lib old.desk.session.library given (keeps_same lib old.desk.session.library first)
              (keeps_on old.desk.session.library new.desk.session.library given run.library (keeps_same new.desk.session.library given last));
          source = run.source;
          sink = run.sink;
        }
