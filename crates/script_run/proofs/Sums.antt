-- Laws of counts by turn, and of what is written where nothing stands behind a line.
use Rattle.std.proofs.Common.{◌≡◌, ◌+◌, ◌≤◌, List, [], ◌∷◌, ◌++◌, refl, ◌∙◌, ap, append-nil, arith}
use Rattle.std.proofs.lemmas.List.Sums.{sum_by-append}
use Rattle.script_model.specs.Run.{Turn, bytes_of, transcript, work_of}
use Rattle.script_run.specs.Counts.{Count, Counted, AreCounts, turns_of}
use Rattle.script_run.specs.Plain.{plain}
use Rattle.script_run.specs.Telling.{told_of, all_told}

-- no more calls are counted than are due
pub within_work : (was is : Count) (counted : List Counted) → AreCounts was counted is → is.calls ≤ was.calls + work_of (turns_of counted)
within_work was is [] h = let same = ap (λ (c : Count). c.calls) h in omega (arith, same)
within_work was is (c ∷ counted) h =
    let from = ap (λ (x : Count). x.calls) h.0 in
    let within = h.1.within in
    let rest = within_work c.is is counted h.2 in
    let whole = sum_by-append (λ (t : Turn). t.work) (c.turn ∷ []) (turns_of counted) in
    omega (arith, from, within, rest, whole)

-- nothing stands behind what a line prints
pub told_is_printed : (c : Counted) → told_of plain c ≡ bytes_of c.turn
told_is_printed c = append-nil (bytes_of c.turn)

-- all that is written is the transcript
pub told_is_transcript : (counted : List Counted) → all_told plain counted ≡ transcript (turns_of counted)
told_is_transcript [] = refl
told_is_transcript (c ∷ counted) = ap (λ l. l ++ all_told plain counted) (told_is_printed c) ∙ ap (λ l. bytes_of c.turn ++ l) (told_is_transcript counted)
