-- What is kept of the last call.
use Rattle.std.specs.Prelude.{◌≢◌, Bool, true, false, List, Option, None, Some, ℕ}
use Rattle.inc_value.specs.declared.value.Value.{Value}

-- the values that are kept, if some are, and how many there is room for
pub record Kept : Type 0 where
  pub values : Option (List Value)
  pub room : ℕ

-- the values, where some are kept
abbrev pub kept_if : Bool → List Value → Option (List Value)
kept_if true values = Some values
kept_if false values = None

-- nothing is kept, or what is kept differs from these values
abbrev pub IsStale : Option (List Value) → List Value → Type 0
IsStale None values = Unit {0}
IsStale (Some kept) values = kept ≢ values
