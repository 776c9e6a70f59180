-- Texts as lists of bytes.
use Rattle.std.specs.Prelude.{ℕ, ◌≤◌, List, length, All}

-- printable ASCII
abbrev pub IsPrintable : ℕ → Type 0
IsPrintable b = (32 ≤ b) × (b ≤ 126)

-- at most 4,096 printable bytes
abbrev pub IsText : List ℕ → Type 0
IsText bytes = (length bytes ≤ 4096) × All IsPrintable bytes
