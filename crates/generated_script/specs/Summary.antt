-- What printed lines come to.
use Rattle.std.specs.Prelude.{ℕ, ◌%◌, ◌==◌, if◌then◌else◌, Bool, false, List, [], ◌++◌, ◌∷◌, length, sum, codes, count_by}
use Rattle.std.specs.Fmt.{decimal}
use Rattle.generated_script.specs.Generated.{text_of}
use Rattle.script_model.specs.Language.{is_digit}

-- how many lines there are, how many bytes they have with their newlines, the sum of all these bytes modulo 2^32, and how
-- many lines are refusals
pub record Summary : Type 0 where
  pub lines : ℕ
  pub bytes : ℕ
  pub sum : ℕ
  pub refused : ℕ

-- whether a line begins with these bytes and a digit
abbrev pub begins : List ℕ → List ℕ → Bool
begins [] [] = false
begins [] (b ∷ line) = is_digit b
begins (x ∷ bytes) [] = false
begins (x ∷ bytes) (b ∷ line) = if b == x then begins bytes line else false

-- a refusal begins with `refused`, a space and a digit
abbrev pub is_refusal_line : List ℕ → Bool
is_refusal_line line = begins (codes "refused ") line

abbrev pub summary_of : List (List ℕ) → Summary
summary_of lines = record {
  lines = length lines;
  bytes = length (text_of lines);
  sum = sum (text_of lines) % 4294967296;
  refused = count_by is_refusal_line lines;
}

-- the line that tells a summary
abbrev pub summary_line : Summary → List ℕ
summary_line s =
    codes "lines " ++ decimal s.lines ++ codes " bytes " ++ decimal s.bytes ++ codes " sum " ++ decimal s.sum
    ++ codes " refused " ++ decimal s.refused ++ codes "\n"
