-- What stands before the parser, as the model of scripts sees it.
use Rattle.std.specs.Prelude.{ℕ, zero, suc, ◌*◌, Bool, true, false, nat_le, if◌then◌else◌, List, [], ◌∷◌, ◌++◌, length, codes, Option, None, Some}
use Rattle.std.specs.Str.{bytes_eq}
use Rattle.inc_value.specs.declared.ty.Base.{Base}
use Rattle.inc_value.specs.Choice.{and_then}
use Rattle.script_model.specs.Grammar.{Line, Stabilize, Time, Tree, time_of, unit_scale}
use Rattle.script_model.specs.Language.{is_name, integer_of, number_from}
use Rattle.script_model.specs.Literals as literals
use Rattle.script_model.specs.Literals.{Literal}
use Rattle.script_model.specs.Parsing.{Read, read, then_read, is_sign, is_word, base_named, name_front, named_front, reserved_front, span_front, time_front, when_front, whole, written_front}
use Rattle.script_model.specs.Tokens as tokens
use Rattle.line_parser.specs.TreeView.{frozen}

-- whether the sign with this byte stands at the front
abbrev pub begins_with : ℕ → List tokens.Token → Bool
begins_with byte [] = false
begins_with byte (t ∷ rest) = is_sign byte t

-- whether the word stands at the front
abbrev pub begins_with_word : List ℕ → List tokens.Token → Bool
begins_with_word w [] = false
begins_with_word w (t ∷ rest) = is_word w t

-- whether no token is left
abbrev pub is_empty : List tokens.Token → Bool
is_empty [] = true
is_empty (t ∷ rest) = false

-- how often the word stands at the front
abbrev pub count_of_word : List ℕ → List tokens.Token → ℕ
count_of_word w [] = zero
count_of_word w (t ∷ rest) = if is_word w t then suc (count_of_word w rest) else zero

-- ---- single tokens

-- the word that a token is
abbrev pub word_in : tokens.Token → Option (List ℕ)
word_in (tokens.Word w) = Some w
word_in t = None

-- the name that a token is
abbrev pub name_in : tokens.Token → Option (List ℕ)
name_in (tokens.Word w) = if is_name w then Some w else None
name_in t = None

-- the base type that a token names
abbrev pub base_in : tokens.Token → Option Base
base_in (tokens.Word w) = base_named w
base_in t = None

-- the span that a token is
abbrev pub span_in : tokens.Token → Option Time
span_in (tokens.Time digits unit) = Some (time_of (number_from 0 digits * unit_scale unit))
span_in (tokens.Number false digits) = Some (time_of (number_from 0 digits))
span_in t = None

-- the literal that a word is
abbrev pub truth_in : List ℕ → Option Literal
truth_in w = if bytes_eq w (codes "true") then Some (literals.Bool true) else (if bytes_eq w (codes "false") then Some (literals.Bool false) else None)

-- the literal that digits, or a text, are
abbrev pub integer_in : Bool → List ℕ → Option Literal
integer_in negative digits = and_then (integer_of negative digits) (λ z. Some (literals.Integer z))

abbrev pub text_in : List ℕ → Option Literal
text_in content = if nat_le (length content) 4096 then Some (literals.Text content) else None

-- ---- freezes

-- so many of `when NAME`, behind the names that are found
unfoldable pub whens_front : ℕ → List (List ℕ) → List tokens.Token → Read (List (List ℕ))
whens_front zero found rest = read found rest
whens_front (suc n) found rest = then_read (when_front rest) (λ name left. whens_front n (found ++ name ∷ []) left)

-- the formula, with so many freezes round it whose words stand before it
abbrev pub frozen_front : ℕ → Tree → List tokens.Token → Read Tree
frozen_front n child rest = then_read (whens_front n [] rest) (λ names left. read (frozen child names) left)

-- a formula that begins with no freeze, over what reads a formula
abbrev pub unfrozen_front : (List tokens.Token → Read Tree) → List tokens.Token → Read Tree
unfrozen_front part (tokens.Word w ∷ rest) = if is_name w then named_front part w rest else reserved_front part w rest
unfrozen_front part rest = written_front rest

-- ---- what stands alone

-- a name, two names, a span or a time behind which nothing is left
abbrev pub name_alone : List tokens.Token → Option (List ℕ)
name_alone rest = whole (name_front rest) (λ name. name)

abbrev pub names_alone : List tokens.Token → Option (List ℕ × List ℕ)
names_alone rest = and_then (name_front rest) (λ first. whole (name_front first.1) (λ second. (first.0, second)))

abbrev pub span_alone : List tokens.Token → Option Time
span_alone rest = whole (span_front rest) (λ span. span)

abbrev pub time_alone : List tokens.Token → Option Time
time_alone rest = whole (time_front rest) (λ time. time)

-- nothing behind a `stabilize`
abbrev pub stabilize_alone : List tokens.Token → Option Line
stabilize_alone rest = whole (read (codes "") rest) (λ w. Stabilize)
