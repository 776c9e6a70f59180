-- Tokens as the model of scripts sees them.
use Rattle.script_model.specs.Tokens as tokens
use Rattle.line_tokens.specs.declared.token.Sign.TheVariants as sign
use Rattle.line_tokens.specs.declared.token.Sign.{Sign}
use Rattle.line_tokens.specs.declared.token.TimeUnit.TheVariants as unit
use Rattle.line_tokens.specs.declared.token.TimeUnit.{TimeUnit}
use Rattle.line_tokens.specs.declared.token.Token.TheVariants as token
use Rattle.line_tokens.specs.declared.token.Token.{Token}

abbrev pub unit_view : TimeUnit → tokens.TimeUnit
unit_view unit.Nanoseconds = tokens.Nanoseconds
unit_view unit.Microseconds = tokens.Microseconds
unit_view unit.Milliseconds = tokens.Milliseconds
unit_view unit.Seconds = tokens.Seconds

abbrev pub sign_view : Sign → tokens.Sign
sign_view sign.Open = tokens.Open
sign_view sign.Close = tokens.Close
sign_view sign.OpenBracket = tokens.OpenBracket
sign_view sign.CloseBracket = tokens.CloseBracket
sign_view sign.Comma = tokens.Comma
sign_view sign.Colon = tokens.Colon
sign_view sign.Equals = tokens.Equals
sign_view sign.Ampersand = tokens.Ampersand

-- a token, with its bytes
abbrev pub token_view : Token → tokens.Token
token_view (token.Word word) = tokens.Word word.now
token_view (token.Number negative digits) = tokens.Number negative digits.now
token_view (token.Time digits unit) = tokens.Time digits.now (unit_view unit)
token_view (token.Text content) = tokens.Text content
token_view token.AdvanceTo = tokens.AdvanceTo
token_view (token.Punctuation s) = tokens.Punctuation (sign_view s)
