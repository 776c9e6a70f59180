-- A fold, value by value.
use Rattle.std.proofs.Common.{◌≡◌, ℕ, ◌<◌, ◌+◌, ◌++◌, List, [], ◌∷◌, length, take, get_or, refl, ap, ◌∙◌}
use Rattle.std.proofs.lemmas.List.{take_more}
use Rattle.inc_value.specs.declared.value.Value.{Value}
use Rattle.inc_terms.specs.Evaluate.{folded}

-- equal values give equal results
pub of_two : (f : List Value → Value) (a a' b b' : Value) → a ≡ a' → b ≡ b' → f (a ∷ b ∷ []) ≡ f (a' ∷ b' ∷ [])
of_two f a a' b b' first second = rw (first, second) refl

-- one value more
folded_push : (f : List Value → Value) (v : Value) (xs : List Value) (x : Value) → folded f v (xs ++ x ∷ []) ≡ f (folded f v xs ∷ x ∷ [])
folded_push f v [] x = refl
folded_push f v (y ∷ ys) x = folded_push f (f (v ∷ y ∷ [])) ys x

-- the next value of the list
pub folded_take : (f : List Value → Value) (v : Value) (xs : List Value) (i : ℕ) (d : Value) → i < length xs
    → folded f v (take (i + 1) xs) ≡ f (folded f v (take i xs) ∷ get_or xs i d ∷ [])
folded_take f v xs i d h = ap (folded f v) (take_more xs i d h) ∙ folded_push f v (take i xs) (get_or xs i d)
