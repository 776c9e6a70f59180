-- Counts that rise, and stand still at the last value that they can show; and how many of a list have a property.
use Rattle.std.specs.Prelude.{◌≡◌, ◌≤◌, ◌<◌, ◌+◌, ◌-◌, ◌^◌, ℕ, Bool, cond, List, [], ◌∷◌}

-- the last value that a count can show
abbrev pub last_count : ℕ
last_count = 2 ^ 64 - 1

-- the count rose by so much, below its last value
pub record RoseBy (before more after : ℕ) : Type 0 where
  pub kept : before ≤ after
  pub most : after ≤ before + more
  pub exact : after < last_count → after ≡ before + more

-- the count rose by so much at most
pub record RoseAtMost (before most after : ℕ) : Type 0 where
  pub kept : before ≤ after
  pub within : after ≤ before + most

-- how many of the list are so
abbrev pub number_of : {A : Type 0} → (A → Bool) → List A → ℕ
number_of f [] = 0
number_of f (x ∷ xs) = cond (f x) 1 0 + number_of f xs
