-- Bytes that are printed one after the other.
use Rattle.std.proofs.Common.{◌≡◌, ℕ, ◌==◌, List, [], ◌∷◌, ◌++◌, refl}
use Rattle.std.specs.List.{flat_map}
use Rattle.generated_script.specs.Counting.{Count, IsEnded, counted, counts_byte}

-- what is counted of bytes, and of those behind them
pub counted-append : (c : Count) (xs ys : List ℕ) → counted c (xs ++ ys) ≡ counted (counted c xs) ys
counted-append c [] ys = refl
counted-append c (b ∷ xs) ys = counted-append (counts_byte (b == 10) c b) xs ys

-- ---- bytes that end with a newline

pub ended-append : (xs ys : List ℕ) → IsEnded xs → IsEnded ys → IsEnded (xs ++ ys)
ended-append [] ys front rest = rest
ended-append (b ∷ []) [] front rest = front
ended-append (b ∷ []) (c ∷ ys) front rest = rest
ended-append (b ∷ c ∷ xs) ys front rest = ended-append (c ∷ xs) ys front rest

pub ended-line : (line : List ℕ) → IsEnded (line ++ 10 ∷ [])
ended-line [] = refl
ended-line (b ∷ []) = refl
ended-line (b ∷ c ∷ line) = ended-line (c ∷ line)

pub ended-all : {X : Type 0} (f : X → List ℕ) (xs : List X) → ((x : X) → IsEnded (f x)) → IsEnded (flat_map f xs)
ended-all f [] each = tt
ended-all f (x ∷ xs) each = ended-append (f x) (flat_map f xs) (each x) (ended-all f xs each)
