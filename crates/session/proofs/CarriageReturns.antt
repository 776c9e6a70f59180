-- The carriage return at a line's end.
use Rattle.std.proofs.Common.{◌≡◌, ◌≢◌, ℕ, List, [], ◌∷◌, ◌++◌, refl, ap}
use Rattle.std.proofs.lemmas.Bool.{ne_eqb}
use Rattle.script_model.specs.Language.{without_return}

-- what the carriage return is dropped from, and what stays whole
pub without_return-with : (bytes : List ℕ) → without_return (bytes ++ 13 ∷ []) ≡ bytes
without_return-with [] = refl
without_return-with (b ∷ []) = refl
without_return-with (b ∷ c ∷ bytes) = ap (λ l. b ∷ l) (without_return-with (c ∷ bytes))

pub without_return-lacking : (bytes : List ℕ) → ((front : List ℕ) → bytes ≢ front ++ 13 ∷ []) → without_return bytes ≡ bytes
without_return-lacking [] h = refl
without_return-lacking (b ∷ []) h = rw (ne_eqb b 13 (λ e. h [] (ap (λ x. x ∷ []) e))) refl
without_return-lacking (b ∷ c ∷ bytes) h = ap (λ l. b ∷ l) (without_return-lacking (c ∷ bytes) (λ front e. h (b ∷ front) (ap (λ l. b ∷ l) e)))
