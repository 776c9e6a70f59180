-- Tokens read from the front: at most one command, and by the grammar the only one that they can be.
use Rattle.std.specs.Prelude.{ℕ, zero, suc, ◌*◌, Bool, true, false, nat_le, nat_eq, if◌then◌else◌, List, [], ◌∷◌, ◌++◌, length, codes, Option, None, Some}
use Rattle.std.specs.Str.{bytes_eq}
use Rattle.inc_value.specs.declared.ty.Base.TheVariants as base
use Rattle.inc_value.specs.Ty.{type_of_base}
use Rattle.inc_value.specs.declared.ty.Base.{Base}
use Rattle.inc_value.specs.declared.ty.Ty.TheVariants as ty
use Rattle.inc_value.specs.declared.ty.Ty.{Ty}
use Rattle.inc_value.specs.Choice.{and_then}
use Rattle.script_model.specs.Grammar as grammar
use Rattle.script_model.specs.Grammar.{Tree, Trees, TimedLiteral, Line, time_of, unit_scale}
use Rattle.script_model.specs.Literals as literals
use Rattle.script_model.specs.Literals.{Literal, Integer, Referred}
use Rattle.script_model.specs.Language.{is_name, integer_of, number_from}
use Rattle.script_model.specs.Tokens as token
use Rattle.script_model.specs.Tokens.{Token, Word, Number, Text, Punctuation, Open, Ampersand}

-- ---- reading in turn

-- what is read at the front, with what is left behind it
abbrev pub Read : Type 0 → Type 0
Read A = Option (A × List Token)

-- what is read at the front and then at the front of what is left
abbrev pub then_read : {A B : Type 0} → Read A → (A → List Token → Read B) → Read B
then_read None next = None
then_read (Some p) next = next p.0 p.1

abbrev pub read : {A : Type 0} → A → List Token → Read A
read x rest = Some (x, rest)

-- the one token, where it passes the test
abbrev pub expect : {A : Type 0} → (Token → Bool) → List Token → (List Token → Read A) → Read A
expect test [] next = None
expect test (t ∷ rest) next = if test t then next rest else None

abbrev pub is_word : List ℕ → Token → Bool
is_word w (Word v) = bytes_eq w v
is_word w t = false

abbrev pub is_sign : ℕ → Token → Bool
is_sign b (Punctuation s) = nat_eq b (token.sign_byte s)
is_sign b t = false

-- ---- names, times and spans, types and literals

abbrev pub name_front : List Token → Read (List ℕ)
name_front (Word w ∷ rest) = if is_name w then read w rest else None
name_front tokens = None

abbrev pub span_front : List Token → Read grammar.Time
span_front (token.Time digits unit ∷ rest) = read (time_of (number_from 0 digits * unit_scale unit)) rest
span_front (Number false digits ∷ rest) = read (time_of (number_from 0 digits)) rest
span_front tokens = None

abbrev pub time_front : List Token → Read grammar.Time
time_front tokens = span_front tokens

abbrev pub base_named : List ℕ → Option Base
base_named w =
    if bytes_eq w (codes "int") then Some base.Int
    else (if bytes_eq w (codes "bool") then Some base.Bool
    else (if bytes_eq w (codes "text") then Some base.Text else None))

abbrev pub base_front : List Token → Read Base
base_front (Word w ∷ rest) = and_then (base_named w) (λ b. read b rest)
base_front tokens = None

abbrev pub type_front : List Token → Read Ty
type_front (Word w ∷ rest) = if bytes_eq w (codes "node") then then_read (base_front rest) (λ b left. read (ty.Node b) left) else and_then (base_named w) (λ b. read (type_of_base b) rest)
type_front tokens = None

abbrev pub literal_front : List Token → Read Literal
literal_front (Word w ∷ rest) = if bytes_eq w (codes "true") then read (literals.Bool true) rest else (if bytes_eq w (codes "false") then read (literals.Bool false) rest else None)
literal_front (Number negative digits ∷ rest) = and_then (integer_of negative digits) (λ z. read (Integer z) rest)
literal_front (Text content ∷ rest) = if nat_le (length content) 4096 then read (literals.Text content) rest else None
literal_front (Punctuation Ampersand ∷ rest) = then_read (name_front rest) (λ name left. read (Referred name) left)
literal_front tokens = None

-- ---- lists

-- what stands behind an element: the end, or a comma and what follows it
abbrev pub behind_element : {A : Type 0} → (List A → List Token → Read (List A)) → ℕ → List A → List Token → Read (List A)
behind_element next end found [] = None
behind_element next end found (t ∷ rest) = if is_sign end t then read found rest else (if is_sign 44 t then next found rest else None)

-- one or more, with commas between them, up to a sign that is taken too; at most n, behind those that are found
unfoldable pub list_front : {A : Type 0} → (List Token → Read A) → ℕ → ℕ → List A → List Token → Read (List A)
list_front part end zero found tokens = None
list_front part end (suc n) found tokens = then_read (part tokens) (λ x rest. behind_element (list_front part end n) end (found ++ x ∷ []) rest)

-- how many tokens there are
abbrev pub tally : List Token → ℕ
tally [] = zero
tally (t ∷ tokens) = suc (tally tokens)

-- what is read, or else what is read in another way
abbrev pub or_read : {A : Type 0} → Read A → Read A → Read A
or_read None other = other
or_read (Some p) other = Some p

-- nothing, or one or more
abbrev pub any_front : {A : Type 0} → (List Token → Read A) → ℕ → List Token → Read (List A)
any_front part end tokens = or_read (list_front part end (tally tokens) [] tokens) (expect (is_sign end) tokens (λ rest. read [] rest))

-- `TIME : LITERAL`
abbrev pub step_front : List Token → Read TimedLiteral
step_front tokens = then_read (time_front tokens) (λ time rest. expect (is_sign 58) rest (λ rest. then_read (literal_front rest) (λ literal left. read (record { time = time; literal = literal }) left)))

-- ---- formulas

-- trees in a row
abbrev pub trees_of : List Tree → Trees
trees_of [] = grammar.End
trees_of (t ∷ ts) = grammar.More t (trees_of ts)

-- a literal as a formula
abbrev pub written_front : List Token → Read Tree
written_front tokens = then_read (literal_front tokens) (λ literal rest. read (grammar.Literal literal) rest)

abbrev pub steps_front : List Token → Read Tree
steps_front tokens =
    then_read (literal_front tokens) (λ first rest. expect (is_sign 91) rest (λ rest. then_read (any_front step_front 93 rest) (λ steps rest. read (grammar.Steps first steps) rest)))

-- what the clock gives, by its first word, or else a literal
abbrev pub clock_front : List ℕ → List Token → Read Tree
clock_front w rest =
    if bytes_eq w (codes "at") then then_read (time_front rest) (λ time left. read (grammar.At time) left)
    else (if bytes_eq w (codes "now") then read grammar.Now rest
    else (if bytes_eq w (codes "steps") then steps_front rest
    else (if bytes_eq w (codes "after") then then_read (span_front rest) (λ span left. read (grammar.After span) left)
    else (if bytes_eq w (codes "every") then then_read (span_front rest) (λ span left. read (grammar.Every span) left)
    else written_front (Word w ∷ rest)))))

-- `NAME from LITERAL`: what a fold begins with
abbrev pub fold_head : List Token → Read (List ℕ × Literal)
fold_head tokens =
    then_read (name_front tokens) (λ function rest. expect (is_word (codes "from")) rest (λ rest.
    then_read (literal_front rest) (λ first rest. read (function, first) rest)))

-- `when NAME`: what a freeze ends with
abbrev pub when_front : List Token → Read (List ℕ)
when_front tokens = expect (is_word (codes "when")) tokens name_front

-- over what reads a formula: each form behind its first word
module _ (part : List Token → Read Tree) where
  abbrev pub if_front : List Token → Read Tree
  if_front tokens =
      then_read (part tokens) (λ test rest. then_read (expect (is_word (codes "then")) rest part) (λ a rest.
      then_read (expect (is_word (codes "else")) rest part) (λ b rest. read (grammar.If test a b) rest)))

  abbrev pub bind_front : List Token → Read Tree
  bind_front tokens =
      then_read (name_front tokens) (λ variable rest. then_read (expect (is_sign 61) rest part) (λ left rest.
      then_read (expect (is_word (codes "in")) rest part) (λ body rest. read (grammar.Bind variable left body) rest)))

  abbrev pub join_front : List Token → Read Tree
  join_front tokens = expect (is_sign 40) tokens (λ rest. then_read (part rest) (λ child rest. expect (is_sign 41) rest (λ rest. read (grammar.Join child) rest)))

  abbrev pub fold_front : List Token → Read Tree
  fold_front tokens =
      then_read (fold_head tokens) (λ head rest. expect (is_sign 91) rest (λ rest.
      then_read (any_front part 93 rest) (λ elements rest. read (grammar.Fold head.0 head.1 (trees_of elements)) rest)))

  abbrev pub freeze_front : List Token → Read Tree
  freeze_front tokens =
      then_read (part tokens) (λ child rest. then_read (when_front rest) (λ predicate rest. read (grammar.Freeze child predicate) rest))

  -- a name alone, or a function of one to nine formulas
  abbrev pub named_front : List ℕ → List Token → Read Tree
  named_front w (Punctuation Open ∷ rest) = then_read (list_front part 41 9 [] rest) (λ arguments left. read (grammar.Call w (trees_of arguments)) left)
  named_front w tokens = read (grammar.Name w) tokens

  -- a formula that begins with a reserved word, but for a freeze
  abbrev pub reserved_front : List ℕ → List Token → Read Tree
  reserved_front w rest =
      if bytes_eq w (codes "if") then if_front rest
      else (if bytes_eq w (codes "bind") then bind_front rest
      else (if bytes_eq w (codes "join") then join_front rest
      else (if bytes_eq w (codes "fold") then fold_front rest else clock_front w rest)))

  -- the formula that begins with a word
  abbrev pub word_front : List ℕ → List Token → Read Tree
  word_front w rest =
      if is_name w then named_front w rest else (if bytes_eq w (codes "freeze") then freeze_front rest else reserved_front w rest)

  abbrev pub formula_front : List Token → Read Tree
  formula_front (Word w ∷ rest) = word_front w rest
  formula_front tokens = written_front tokens

-- the formula at the front, of at most n formulas within one another
unfoldable pub formula_read : ℕ → List Token → Read Tree
formula_read zero tokens = None
formula_read (suc n) tokens = formula_front (formula_read n) tokens

-- ---- commands

-- what is read, where nothing is left
abbrev pub whole : {A B : Type 0} → Read A → (A → B) → Option B
whole None make = None
whole (Some (x, [])) make = Some (make x)
whole (Some (x, t ∷ rest)) make = None

-- one name, two names
abbrev pub one_name : (List ℕ → Line) → List Token → Option Line
one_name make tokens = whole (name_front tokens) make

abbrev pub two_names : (List ℕ → List ℕ → Line) → List Token → Option Line
two_names make tokens = and_then (name_front tokens) (λ p. whole (name_front p.1) (make p.0))

abbrev pub var_read : List Token → Option Line
var_read tokens = and_then (name_front tokens) (λ n. and_then (type_front n.1) (λ t. whole (literal_front t.1) (grammar.Var n.0 t.0)))

abbrev pub expert_read : List Token → Option Line
expert_read tokens =
    and_then (name_front tokens) (λ n. whole (expect (is_word (codes "fold")) n.1 fold_head) (λ head. grammar.Expert n.0 head.0 head.1))

abbrev pub set_read : List Token → Option Line
set_read tokens = and_then (name_front tokens) (λ n. whole (literal_front n.1) (grammar.Set n.0))

abbrev pub let_read : List Token → Option Line
let_read tokens = and_then (name_front tokens) (λ n. whole (formula_read (suc (tally n.1)) n.1) (grammar.Let n.0))

-- by the word that a command begins with: the clock and the stabilize
abbrev pub turn_with : List ℕ → List Token → Option Line
turn_with w tokens =
    if bytes_eq w (codes "advance") then whole (span_front tokens) grammar.Advance
    else (if bytes_eq w (codes "stabilize") then whole (read (codes "") tokens) (λ w. grammar.Stabilize) else None)

-- so, or observers
abbrev pub observer_with : List ℕ → List Token → Option Line
observer_with w tokens =
    if bytes_eq w (codes "observe") then two_names grammar.Observe tokens
    else (if bytes_eq w (codes "unobserve") then one_name grammar.Unobserve tokens
    else (if bytes_eq w (codes "watch") then one_name grammar.Watch tokens
    else (if bytes_eq w (codes "show") then one_name grammar.Show tokens else turn_with w tokens)))

-- so, or experts and grabs
abbrev pub expert_with : List ℕ → List Token → Option Line
expert_with w tokens =
    if bytes_eq w (codes "expert") then expert_read tokens
    else (if bytes_eq w (codes "link") then two_names grammar.Link tokens
    else (if bytes_eq w (codes "unlink") then two_names grammar.Unlink tokens
    else (if bytes_eq w (codes "stale") then one_name grammar.Stale tokens
    else (if bytes_eq w (codes "grab") then two_names grammar.Grab tokens else observer_with w tokens))))

-- so, or variables and formulas
abbrev pub command_with : List ℕ → List Token → Option Line
command_with w tokens =
    if bytes_eq w (codes "var") then var_read tokens
    else (if bytes_eq w (codes "set") then set_read tokens
    else (if bytes_eq w (codes "let") then let_read tokens else expert_with w tokens))

-- the command that all of the tokens are
abbrev pub command_read : List Token → Option Line
command_read (Word w ∷ tokens) = command_with w tokens
command_read (token.AdvanceTo ∷ tokens) = whole (time_front tokens) grammar.AdvanceTo
command_read tokens = None
