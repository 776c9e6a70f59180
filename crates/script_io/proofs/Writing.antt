-- Writes one after another.
use Rattle.std.proofs.Common.{◌≡◌, ℕ, ◌+◌, ◌≤◌, List, ◌++◌, length, take, drop, Option, sym, ◌∙◌, ap, subst}
use Rattle.std.proofs.lemmas.List.{length-take-le, take-append-drop}
use Rattle.std.proofs.Math.Seq.{take-append-add}
use Rattle.std.specs.Io.KnownBytes.{Appends}
use Rattle.std.proofs.KnownBytes.{Appends-trans}

-- the front of a list, and the front of what follows
pub take-plus : (m n : ℕ) (xs : List ℕ) → m ≤ length xs → take (m + n) xs ≡ take m xs ++ take n (drop m xs)
take-plus m n xs h =
    sym (ap (λ k. take (k + n) xs) (length-take-le m xs h)) ∙ sym (ap (take (length (take m xs) + n)) (take-append-drop m xs))
    ∙ take-append-add (take m xs) (drop m xs) n

-- what was written before, and the front of the rest
pub Appends-plus : (a b c : Option (List ℕ)) (m n : ℕ) (xs : List ℕ) → m ≤ length xs → Appends a b (take m xs) → Appends b c (take n (drop m xs))
    → Appends a c (take (m + n) xs)
Appends-plus a b c m n xs h p q = subst (Appends a c) (sym (take-plus m n xs h)) (Appends-trans a b c _ _ p q)
