-- What the library counts.
use Rattle.std.specs.Prelude.{ℕ}

-- how many calls there were, and how many of them found no memory
pub record Calls : Type 0 where
  pub calls : ℕ
  pub wants : ℕ
