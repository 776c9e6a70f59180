-- The numbers that digits write.
use Rattle.std.proofs.Common.{ℕ, ◌+◌, ◌-◌, ◌*◌, ◌<◌, ◌≤◌, List, [], ◌∷◌, length, drop, get_or, arith}
use Rattle.std.proofs.lemmas.List.{at_drop_more}
use Rattle.script_model.specs.Language.{number_from}

-- what digits are behind never makes a number fall
number_from-grows : (digits : List ℕ) (n : ℕ) → n ≤ number_from n digits
number_from-grows [] n = omega arith
number_from-grows (d ∷ digits) n = omega (arith, number_from-grows digits (10 * n + (d - 48)))

-- a number is no less than its first digits
pub number_from-front : (digits : List ℕ) (n i : ℕ) → i < length digits → 10 * n + (get_or digits i 0 - 48) ≤ number_from n (drop i digits)
number_from-front digits n i h = rw (at_drop_more (number_from n) digits i 0 h)
    (number_from-grows (drop (i + 1) digits) (10 * n + (get_or digits i 0 - 48)))
