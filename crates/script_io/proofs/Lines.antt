-- Laws of the lines of bytes.
use Rattle.std.proofs.Common.{◌≡◌, ℕ, ◌<◌, List, [], ◌∷◌, ◌++◌, length, refl, arith}
use Rattle.std.proofs.lemmas.Bool.{ne_eqb}
use Rattle.script_io.specs.Lines.{HasNoNewline, lines_of}

-- a line that ends at a newline stands before the lines of the rest
pub lines_of-newline : (line rest : List ℕ) → HasNoNewline line → lines_of (line ++ 10 ∷ rest) ≡ line ∷ lines_of rest
lines_of-newline [] rest h = refl
lines_of-newline (b ∷ line) rest h = rw (ne_eqb b 10 h.0, lines_of-newline line rest h.1) refl

-- bytes without a newline are one line where there are any
pub lines_of-last : (line : List ℕ) → HasNoNewline line → 0 < length line → lines_of line ≡ line ∷ []
lines_of-last [] h some = absurd (omega arith)
lines_of-last (b ∷ []) h some = rw (ne_eqb b 10 h.0) refl
lines_of-last (b ∷ c ∷ line) h some = rw (ne_eqb b 10 h.0, lines_of-last (c ∷ line) h.1 (omega arith)) refl
