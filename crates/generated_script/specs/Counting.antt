-- Printed bytes, counted as they come.
use Rattle.std.specs.Prelude.{◌≡◌, ℕ, ◌+◌, ◌%◌, ◌==◌, if◌then◌else◌, Bool, true, false, List, [], ◌∷◌, Option, None, Some, codes}
use Rattle.script_model.specs.Language.{is_digit}
use Rattle.generated_script.specs.Summary.{Summary}

-- what was counted so far, and with which bytes, and then a digit, the line that has begun goes on where it is a refusal; none where that is settled
pub record Count : Type 0 where
  pub lines : ℕ
  pub bytes : ℕ
  pub sum : ℕ
  pub refused : ℕ
  pub ahead : Option (List ℕ)

-- before the first byte
abbrev pub nothing : Count
nothing = record { lines = 0; bytes = 0; sum = 0; refused = 0; ahead = Some (codes "refused ") }

-- a line that has begun goes on with a byte
abbrev pub ahead_of : Option (List ℕ) → ℕ → Option (List ℕ)
ahead_of None b = None
ahead_of (Some []) b = None
ahead_of (Some (x ∷ bytes)) b = if b == x then Some bytes else None

-- whether that makes it a refusal
abbrev pub settles : Option (List ℕ) → ℕ → ℕ
settles (Some []) b = if is_digit b then 1 else 0
settles ahead b = 0

-- one byte more: a newline, or a byte of a line
abbrev pub counts_byte : Bool → Count → ℕ → Count
counts_byte true c b = record {
  lines = c.lines + 1;
  bytes = c.bytes + 1;
  sum = (c.sum + b) % 4294967296;
  refused = c.refused;
  ahead = Some (codes "refused ");
}
counts_byte false c b = record {
  lines = c.lines;
  bytes = c.bytes + 1;
  sum = (c.sum + b) % 4294967296;
  refused = c.refused + settles c.ahead b;
  ahead = ahead_of c.ahead b;
}

-- all bytes that come behind a count
abbrev pub counted : Count → List ℕ → Count
counted c [] = c
counted c (b ∷ bytes) = counted (counts_byte (b == 10) c b) bytes

-- bytes that end with a newline, where there are any
abbrev pub IsEnded : List ℕ → Type 0
IsEnded [] = Unit {0}
IsEnded (b ∷ []) = b ≡ 10
IsEnded (b ∷ c ∷ bytes) = IsEnded (c ∷ bytes)

-- the summary that was counted
abbrev pub summary_counted : Count → Summary
summary_counted c = record { lines = c.lines; bytes = c.bytes; sum = c.sum; refused = c.refused }
