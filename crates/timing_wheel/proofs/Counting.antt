-- How many timers there are.
use Rattle.std.proofs.Common.{◌≡◌, ◌∙◌, ℕ, suc, ◌+◌, List, [], ◌∷◌, length, sum_by, refl, sym, ap, arith, inl, inr, cond}
use Rattle.std.proofs.lemmas.List.{length-map, length-append}
use Rattle.std.proofs.lemmas.List.Sums.{sum_by-append}
use Rattle.timing_wheel.specs.declared.levels.Timer.{Timer}
use Rattle.timing_wheel.specs.Queue.{placed}
use Rattle.timing_wheel.specs.Levels.{rows, timers_of}
use Rattle.timing_wheel.specs.Timers.{by_deadline, no_later}
use Rattle.timing_wheel.proofs.Queue.{either}

length_placed : (a : Timer) (xs : List Timer) → length (placed no_later a xs) ≡ suc (length xs)
length_placed a [] = refl
length_placed a (b ∷ bs) = elim (either (no_later a b)) [
  | inl yes_le ↦ ap (λ t. length (cond t (a ∷ b ∷ bs) (b ∷ placed no_later a bs))) yes_le
  | inr no_le ↦ ap (λ t. length (cond t (a ∷ b ∷ bs) (b ∷ placed no_later a bs))) no_le ∙ ap suc (length_placed a bs)
]

length_queue : (xs : List Timer) → length (by_deadline xs) ≡ length xs
length_queue [] = refl
length_queue (a ∷ rest) = length_placed a (by_deadline rest) ∙ ap suc (length_queue rest)

length_timers : (lists : List (List (ℕ × Timer))) → length (timers_of lists) ≡ sum_by length lists
length_timers [] = refl
length_timers (es ∷ lists) =
    (let e = length-append (rows es) (timers_of lists) in let m = length-map es (λ (e : ℕ × Timer). e.1) in let more = length_timers lists in
    let s : sum_by length (es ∷ lists) ≡ (0 + length es) + sum_by length lists = sum_by-append length (es ∷ []) lists in
    omega (arith, e, m, more, s))

pub length_all : (lists : List (List (ℕ × Timer))) → sum_by length lists ≡ length (by_deadline (timers_of lists))
length_all lists = sym (length_queue (timers_of lists) ∙ length_timers lists)
