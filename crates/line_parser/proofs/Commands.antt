-- What the bytes of a line are, by what is read of their tokens.
use Rattle.std.proofs.Common.{◌≡◌, ℕ, false, inr, List, None, Some}
use Rattle.script_model.specs.Grammar.{Line, IsLine, IsNoLine, WriteNothing}
use Rattle.script_model.specs.Parsing.{command_read}
use Rattle.script_model.specs.Tokens.{Token, AreSpelled, is_too_deep}
use Rattle.script_model.proofs.Found.{command_found}
use Rattle.script_model.proofs.Written.{command_written}

pub read_line : (tokens : List Token) (bytes : List ℕ) (line : Line) → AreSpelled tokens bytes → is_too_deep 0 0 tokens ≡ false
    → command_read tokens ≡ Some line → IsLine bytes line
read_line tokens bytes line spelled shallow found = record {
  tokens = tokens;
  spelled = spelled;
  level = λ deep. absurd (cc);
  writes = command_found tokens line found;
}

nothing_written : (tokens : List Token) → command_read tokens ≡ None → WriteNothing tokens
nothing_written tokens none line writes = let found = command_written line tokens writes in absurd (cc)

pub read_nothing : (tokens : List Token) (bytes : List ℕ) → AreSpelled tokens bytes → is_too_deep 0 0 tokens ≡ false → command_read tokens ≡ None
    → IsNoLine bytes
read_nothing tokens bytes spelled shallow none = inr (tokens, spelled, (λ deep. absurd (cc)), nothing_written tokens none)
