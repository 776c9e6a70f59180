-- What the lexer reads, as the model of scripts sees it.
use Rattle.std.specs.Prelude.{ℕ, List}
use Rattle.std.specs.Borrow.{Bor}
use Rattle.script_model.specs.Tokens as tokens
use Rattle.line_tokens.specs.View.{token_view}
use Rattle.line_tokens.specs.declared.token.Token.{Token}

-- a token, and the bytes that are left behind it
abbrev pub front_view : Token × Bor (List ℕ) → tokens.Token × List ℕ
front_view front = (token_view front.0, front.1.now)

-- the content of a text, and the bytes that are left behind its closing quote
abbrev pub content_view : List ℕ × Bor (List ℕ) → List ℕ × List ℕ
content_view text = (text.0, text.1.now)
