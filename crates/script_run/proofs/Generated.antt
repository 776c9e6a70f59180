-- Laws of runs that are summed up.
use Rattle.std.proofs.Common.{if◌then◌else◌, ◌≡◌, true, ℕ, ◌+◌, ◌≤◌, ◌||◌, Bool, false, List, [], ◌∷◌, ◌++◌, map, Option, Result, Ok, Err, OnErr, sym, ◌∙◌, ap, subst, append_assoc, append-nil, arith}
use Rattle.std.proofs.lemmas.Grind.{flat_map-append}
use Rattle.std.proofs.lemmas.List.{map-append}
use Rattle.std.proofs.lemmas.List.Sums.{sum_by-append}
use Rattle.generated_script.proofs.Printed.{counted-append, ended-all, ended-line}
use Rattle.generated_script.specs.Counting.{Count as Counted, IsEnded, counted, nothing}
use Rattle.inc_value.specs.declared.function.FnRef.{FnRef}
use Rattle.script_graph.specs.Kept.{Kept}
use Rattle.script_graph.specs.State.{Stands}
use Rattle.script_io.specs.Causes.{Tells}
use Rattle.script_io.specs.Lines.{lines_of}
use Rattle.script_model.specs.Formula.{Meanings}
use Rattle.generated_script.specs.Generated.{generated_text}
use Rattle.script_model.specs.Run.{Turn, Chain, bytes_of, is_refused, any_refused, lines_read, transcript, work_of}
use Rattle.script_model.specs.Step.{Moment, first_moment, printed, printed_reply, name_of}
use Rattle.session.specs.Taken.{Stops}
use Rattle.script_run.proofs.Course.{Chain-more, any_refused-more, refusal-said}
use Rattle.script_run.proofs.Steps.{keeps_on, keeps_same}
use Rattle.script_run.specs.Programs.{KeepsLibrary}
use Rattle.script_run.specs.Summing.{CountsSoFar, CountsTurn, EndsGenerated, Sums, SumsUntil, TellsGenerated}

-- ---- one turn more

transcript-more : (turns : List Turn) (t : Turn) → transcript (turns ++ t ∷ []) ≡ transcript turns ++ bytes_of t
transcript-more turns t = flat_map-append bytes_of turns (t ∷ []) ∙ ap (λ (l : List ℕ). transcript turns ++ l) (append-nil (bytes_of t))

lines_read-more : (turns : List Turn) (t : Turn) (line : List ℕ) (rest behind text : List (List ℕ)) → t.line ≡ line → rest ≡ line ∷ behind
    → lines_read turns ++ rest ≡ text → lines_read (turns ++ t ∷ []) ++ behind ≡ text
lines_read-more turns t line rest behind text over split reads =
    ap (λ (l : List (List ℕ)). l ++ behind) (map-append (λ (u : Turn). u.line) turns (t ∷ []) ∙ ap (λ (x : List ℕ). lines_read turns ++ x ∷ []) over)
    ∙ append_assoc (lines_read turns) (line ∷ []) behind ∙ ap (λ (l : List (List ℕ)). lines_read turns ++ l) (sym split) ∙ reads

work-more : (turns : List Turn) (t : Turn) (called between calls : ℕ) → between ≤ called + work_of turns → calls ≤ between + t.work
    → calls ≤ called + work_of (turns ++ t ∷ [])
work-more turns t called between calls first more =
    let whole = sum_by-append (λ (u : Turn). u.work) turns (t ∷ []) in omega (arith, first, more, whole)

module _ (F : Meanings) (text : List ℕ) (called : ℕ) where
  module _ (rest behind line : List ℕ) (kept new : Kept) (between calls : ℕ) (tally after : Counted) (refused : Bool)
      (so : CountsSoFar F text rest called kept between tally refused) (split : lines_of rest ≡ line ∷ lines_of behind) where
    -- one line more
    pub sums_more : (now : Bool) → CountsTurn F line kept new between calls tally after now → CountsSoFar F text behind called new calls after (refused || now)
    sums_more now c =
        let t = c.takes so.end so.stands in
        record {
          turns = so.turns ++ t.turn ∷ [];
          end = t.turn.after;
          chain = Chain-more F first_moment so.end so.turns t.turn so.chain t.from t.is_turn;
          stands = t.stands;
          reads = lines_read-more so.turns t.turn line (lines_of rest) (lines_of behind) (lines_of text) t.over split so.reads;
          within = work-more so.turns t.turn called between calls so.within t.within;
          refused = any_refused-more so.turns t.turn
              ∙ ap (λ (b : Bool). b || is_refused t.turn) so.refused
              ∙ ap (λ (b : Bool). refused || b) (refusal-said F t.turn c.how t.is_turn t.says ∙ sym c.said);
          sums = c.sums ∙ ap (counted tally) t.printed ∙ ap (λ (d : Counted). counted d (bytes_of t.turn)) so.sums
              ∙ sym (counted-append nothing (transcript so.turns) (bytes_of t.turn)) ∙ ap (counted nothing) (sym (transcript-more so.turns t.turn));
        }

    -- no memory for the line
    pub sums_until : ((m : Moment) → Stands F kept m → Stops F m line new between calls) → SumsUntil F text called calls
    sums_until stops =
        let s = stops so.end so.stands in
        record {
          turns = so.turns;
          end = so.end;
          chain = so.chain;
          line = line;
          more = lines_of behind;
          reads = ap (λ (l : List (List ℕ)). lines_read so.turns ++ l) (sym split) ∙ so.reads;
          after = s.after;
          due = s.due;
          halts = s.halts;
          within = let first = so.within in let more = s.within in omega (arith, first, more);
        }

  -- behind the last line
  abbrev pub sums_all : (kept : Kept) (calls : ℕ) (tally : Counted) (refused : Bool) → CountsSoFar F text [] called kept calls tally refused → Sums F text called calls
  sums_all kept calls tally refused so = record {
    turns = so.turns;
    end = so.end;
    chain = so.chain;
    reads = sym (append-nil (lines_read so.turns)) ∙ so.reads;
    within = so.within;
  }

-- ---- what is printed ends with a newline

bytes_ended : (t : Turn) → IsEnded (bytes_of t)
bytes_ended t = ended-all (printed t.after.present) t.replies (λ r. ended-line (printed_reply (name_of t.after.present) r))

pub transcript_ended : (turns : List Turn) → IsEnded (transcript turns)
transcript_ended turns = ended-all bytes_of turns bytes_ended

-- ---- what is told

-- what holds, holds of an error
pub on_err : {T E P : Type 0} (r : Result T E) → P → OnErr r P
on_err (Ok x) p = tt
on_err (Err e) p = p

module _ {L : Type 0} (meanings : L → Meanings) (known : L → FnRef → Bool) (calls : L → ℕ) where
  -- the session is new, and its library is given back in the end
  pub tells : (steps seed : ℕ) (lib given old new : L) (before after : Option (List ℕ)) (was is status : ℕ) → old ≡ lib → given ≡ new
      → KeepsLibrary meanings known calls old new → EndsGenerated (meanings old) (generated_text steps seed) (calls old) (calls new) before after status
      → Tells (status ≡ 4) was is → TellsGenerated meanings known calls steps seed lib given before after was is status
  tells steps seed lib given old new before after was is status first last keeps ends sink = record {
    ends = subst (λ (x : L). EndsGenerated (meanings lib) (generated_text steps seed) (calls lib) (calls x) before after status) (sym last)
        (subst (λ (x : L). EndsGenerated (meanings x) (generated_text steps seed) (calls x) (calls new) before after status) first ends);
    library = keeps_on meanings known calls lib old given (keeps_same meanings known calls lib old first)
        (keeps_on meanings known calls old new given keeps (keeps_same meanings known calls new given last));
    sink = sink;
  }

-- no status of a script that was taken whole is 4, nor is 5
pub whole-not_four : (refused : Bool) (n : ℕ) → n ≡ (if refused then 1 else 0) → n ≡ 4 → ⊥
whole-not_four true n is four = omega (arith, is, four)
whole-not_four false n is four = omega (arith, is, four)

pub five-not_four : (n : ℕ) → n ≡ 5 → n ≡ 4 → ⊥
five-not_four n is four = omega (arith, is, four)
