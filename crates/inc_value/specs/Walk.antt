-- Walks along a relation.
use Rattle.std.specs.Prelude.{◌≡◌, ◌<◌, ℕ, List, [], ◌∷◌, length}
use Rattle.inc_value.specs.Choice.{Reaches}

-- each is followed by one that it leads to
abbrev pub IsWalk : {A : Type 0} → (A → A → Type 0) → List A → Type 0
IsWalk R [] = Unit {0}
IsWalk R (a ∷ []) = Unit {0}
IsWalk R (a ∷ b ∷ rest) = R a b × IsWalk R (b ∷ rest)

-- a walk of 130 begins here, which is one more than heights from 0 to 128 allow
abbrev pub IsDeep : {A : Type 0} → (A → A → Type 0) → A → Type 0
IsDeep {A} R a = (rest : List A) × (length rest ≡ 129) × IsWalk R (a ∷ rest)

-- a walk that comes back
abbrev pub IsOnCycle : {A : Type 0} → (A → A → Type 0) → A → Type 0
IsOnCycle {A} R a = (b : A) × R a b × Reaches R b a

-- each is higher than what it leads to
abbrev pub Rises : {A : Type 0} → (A → A → Type 0) → (A → ℕ) → Type 0
Rises {A} R height = (a b : A) → R a b → height b < height a
