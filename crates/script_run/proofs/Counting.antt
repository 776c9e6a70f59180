-- Laws of the counts of turns.
use Rattle.std.proofs.Common.{◌≡◌, ◌+◌, List, [], ◌∷◌, ◌++◌, refl, sym, ◌∙◌, ap, arith}
use Rattle.std.proofs.lemmas.List.Sums.{sum_by-append}
use Rattle.script_run.specs.Counts.{Count, Counted, IsCount, AreCounts, count_of, sum_of}

-- the count of one turn more
pub AreCounts-more : (was between : Count) (counted : List Counted) (c : Counted) → AreCounts was counted between → c.was ≡ between → IsCount c
    → AreCounts was (counted ++ c ∷ []) c.is
AreCounts-more was between [] c h from is = (from ∙ sym h, is, refl)
AreCounts-more was between (d ∷ counted) c h from is = (h.0, h.1, AreCounts-more d.is between counted c h.2 from is)

-- the counts add up
pub counts_add_up : (was is : Count) (counted : List Counted) → AreCounts was counted is → was.calls + sum_of counted ≡ is.calls
counts_add_up was is [] h = let same = ap (λ (c : Count). c.calls) h in omega (arith, same)
counts_add_up was is (c ∷ counted) h =
    let from = ap (λ (x : Count). x.calls) h.0 in
    let later = h.1.later in
    let rest = counts_add_up c.is is counted h.2 in
    let whole = sum_by-append count_of (c ∷ []) counted in
    omega (arith, from, later, rest, whole)
