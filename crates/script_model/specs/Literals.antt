-- Literals as they are written.
use Rattle.std.specs.Prelude as std
use Rattle.std.specs.Prelude.{ℕ, ℤ, List}

-- a literal; the last is a reference to the target of a name
pub data Literal : Type 0 where
  Integer : (value : ℤ) → Literal
  Bool : (value : std.Bool) → Literal
  Text : (content : List ℕ) → Literal
  Referred : (name : List ℕ) → Literal
