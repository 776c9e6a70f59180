-- The grammar of scripts: which tokens write which command.
use Rattle.std.specs.Prelude as std
use Rattle.std.specs.Prelude.{◌≡◌, ◌⊎◌, ℕ, ◌+◌, ◌*◌, ◌^◌, ◌≤◌, true, false, nat_lt, if◌then◌else◌, List, [], ◌∷◌, ◌++◌, length, codes, Option, None, Some, IsTrue}
use Rattle.inc_value.specs.declared.ty.Base.TheVariants as base
use Rattle.inc_value.specs.declared.ty.Base.{Base}
use Rattle.inc_value.specs.declared.ty.Ty.{Ty}
use Rattle.inc_value.specs.declared.ty.Ty.TheVariants as ty
use Rattle.script_model.specs.Language.{is_name, integer_of, number_from}
use Rattle.script_model.specs.Literals as literals
use Rattle.script_model.specs.Tokens as token
use Rattle.script_model.specs.Tokens.{Token, TimeUnit, Nanoseconds, Microseconds, Milliseconds, Seconds, Word, Number, Text, Punctuation, Open, Close, OpenBracket, CloseBracket, Comma, Colon, Equals, Ampersand, AreSpelled, AreTooDeep}

-- ---- trees

-- a time or a span in nanoseconds; none beyond 9,223,372,036,854,775,807
abbrev pub Time : Type 0
Time = Option ℕ

-- a literal from a time on
pub record TimedLiteral : Type 0 where
  pub time : Time
  pub literal : literals.Literal

mutual
  -- a formula as it is written
  pub data Tree : Type 0 where
    Literal : (literal : literals.Literal) → Tree
    Name : (name : List ℕ) → Tree
    Call : (function : List ℕ) (arguments : Trees) → Tree
    If : (test then_side else_side : Tree) → Tree
    Bind : (variable : List ℕ) (left body : Tree) → Tree
    Join : (child : Tree) → Tree
    Fold : (function : List ℕ) (first : literals.Literal) (elements : Trees) → Tree
    At : (time : Time) → Tree
    Now : Tree
    Steps : (first : literals.Literal) (steps : List TimedLiteral) → Tree
    Freeze : (child : Tree) (predicate : List ℕ) → Tree
    After : (span : Time) → Tree
    Every : (span : Time) → Tree

  -- formulas in a row
  pub data Trees : Type 0 where
    End : Trees
    More : (first : Tree) (rest : Trees) → Trees

-- a command as it is written
pub data Line : Type 0 where
  Var : (name : List ℕ) (ty : Ty) (first : literals.Literal) → Line
  Set : (name : List ℕ) (value : literals.Literal) → Line
  Let : (name : List ℕ) (formula : Tree) → Line
  Expert : (name function : List ℕ) (first : literals.Literal) → Line
  Link : (expert name : List ℕ) → Line
  Unlink : (expert name : List ℕ) → Line
  Stale : (expert : List ℕ) → Line
  Grab : (name bind : List ℕ) → Line
  Observe : (observer name : List ℕ) → Line
  Unobserve : (observer : List ℕ) → Line
  Watch : (observer : List ℕ) → Line
  Show : (observer : List ℕ) → Line
  Advance : (span : Time) → Line
  AdvanceTo : (time : Time) → Line
  Stabilize : Line

-- ---- words

-- a word that isn't reserved
abbrev pub IsName : List ℕ → Type 0
IsName word = IsTrue (is_name word)

-- the word of a base type
abbrev pub base_word : Base → List ℕ
base_word base.Int = codes "int"
base_word base.Bool = codes "bool"
base_word base.Text = codes "text"

-- the word of a truth value
abbrev pub truth_word : std.Bool → List ℕ
truth_word true = codes "true"
truth_word false = codes "false"

-- a word, as a token
abbrev pub word : List ℕ → Token
word w = Word w

-- a sign, as a token
abbrev pub sign : token.Sign → Token
sign s = Punctuation s

-- ---- times and spans

-- how many nanoseconds a unit is
abbrev pub unit_scale : TimeUnit → ℕ
unit_scale Nanoseconds = 1
unit_scale Microseconds = 1000
unit_scale Milliseconds = 1000000
unit_scale Seconds = 1000000000

-- a time or a span of 63 bits; none beyond it
abbrev pub time_of : ℕ → Time
time_of n = if nat_lt n (2 ^ 63) then Some n else None

-- the token writes the span: without a unit it counts nanoseconds
abbrev pub WritesSpan : Time → Token → Type 0
WritesSpan span t =
    ((digits : List ℕ) × (unit : TimeUnit) × (t ≡ token.Time digits unit) × (span ≡ time_of (number_from 0 digits * unit_scale unit)))
    ⊎ ((digits : List ℕ) × (t ≡ Number false digits) × (span ≡ time_of (number_from 0 digits)))

-- the token writes the time, as the span since time 0. Other ways to write a time, which aren't spans, join here
abbrev pub WritesTime : Time → Token → Type 0
WritesTime time t = WritesSpan time t

-- ---- types and literals

-- the tokens write the type
abbrev pub WritesType : Ty → List Token → Type 0
WritesType ty.Int tokens = tokens ≡ word (codes "int") ∷ []
WritesType ty.Bool tokens = tokens ≡ word (codes "bool") ∷ []
WritesType ty.Text tokens = tokens ≡ word (codes "text") ∷ []
WritesType (ty.Node base) tokens = tokens ≡ word (codes "node") ∷ word (base_word base) ∷ []

-- the tokens write the literal
abbrev pub WritesLiteral : literals.Literal → List Token → Type 0
WritesLiteral (literals.Integer z) tokens = (negative : std.Bool) × (digits : List ℕ) × (tokens ≡ Number negative digits ∷ []) × (integer_of negative digits ≡ Some z)
WritesLiteral (literals.Bool b) tokens = tokens ≡ word (truth_word b) ∷ []
WritesLiteral (literals.Text content) tokens = (tokens ≡ Text content ∷ []) × (length content ≤ 4096)
WritesLiteral (literals.Referred name) tokens = (tokens ≡ sign Ampersand ∷ word name ∷ []) × IsName name

-- `TIME : LITERAL`, one or more, with commas between them
abbrev pub WritesSteps : List TimedLiteral → List Token → Type 0
WritesSteps [] tokens = ⊥
WritesSteps (step ∷ []) tokens = (t : Token) × (back : List Token) × (tokens ≡ t ∷ sign Colon ∷ back) × WritesTime step.time t × WritesLiteral step.literal back
WritesSteps (step ∷ next ∷ steps) tokens =
    (t : Token) × (front back : List Token) × (tokens ≡ t ∷ sign Colon ∷ (front ++ sign Comma ∷ back)) × WritesTime step.time t × WritesLiteral step.literal front
    × WritesSteps (next ∷ steps) back

-- nothing, or one or more
abbrev pub WritesAnySteps : List TimedLiteral → List Token → Type 0
WritesAnySteps [] tokens = tokens ≡ []
WritesAnySteps (step ∷ steps) tokens = WritesSteps (step ∷ steps) tokens

-- ---- formulas

-- how many formulas there are
abbrev pub count_of : Trees → ℕ
count_of End = 0
count_of (More first rest) = count_of rest + 1

-- the tokens of `fold NAME from LITERAL [` .. `]`, with those of the literal and those between the brackets
abbrev pub fold_tokens : List ℕ → List Token → List Token → List Token
fold_tokens function first inner = word (codes "fold") ∷ word function ∷ word (codes "from") ∷ (first ++ sign OpenBracket ∷ (inner ++ sign CloseBracket ∷ []))

abbrev mutual
  -- the tokens write the formula: a function has one to nine arguments
  pub Writes : Tree → List Token → Type 0
  Writes (Literal literal) tokens = WritesLiteral literal tokens
  Writes (Name name) tokens = (tokens ≡ word name ∷ []) × IsName name
  Writes (Call function arguments) tokens =
      (inner : List Token) × (tokens ≡ word function ∷ sign Open ∷ (inner ++ sign Close ∷ [])) × IsName function × (count_of arguments ≤ 9) × WritesEach arguments inner
  Writes (If test a b) tokens =
      (front middle back : List Token) × (tokens ≡ word (codes "if") ∷ (front ++ word (codes "then") ∷ (middle ++ word (codes "else") ∷ back)))
      × Writes test front × Writes a middle × Writes b back
  Writes (Bind variable left body) tokens =
      (front back : List Token) × (tokens ≡ word (codes "bind") ∷ word variable ∷ sign Equals ∷ (front ++ word (codes "in") ∷ back))
      × IsName variable × Writes left front × Writes body back
  Writes (Join child) tokens = (inner : List Token) × (tokens ≡ word (codes "join") ∷ sign Open ∷ (inner ++ sign Close ∷ [])) × Writes child inner
  Writes (Fold function first elements) tokens =
      (front inner : List Token) × (tokens ≡ fold_tokens function front inner) × IsName function × WritesLiteral first front × WritesAny elements inner
  Writes (At time) tokens = (t : Token) × (tokens ≡ word (codes "at") ∷ t ∷ []) × WritesTime time t
  Writes Now tokens = tokens ≡ word (codes "now") ∷ []
  Writes (Steps first steps) tokens =
      (front inner : List Token) × (tokens ≡ word (codes "steps") ∷ (front ++ sign OpenBracket ∷ (inner ++ sign CloseBracket ∷ [])))
      × WritesLiteral first front × WritesAnySteps steps inner
  Writes (Freeze child predicate) tokens =
      (front : List Token) × (tokens ≡ word (codes "freeze") ∷ (front ++ word (codes "when") ∷ word predicate ∷ [])) × IsName predicate × Writes child front
  Writes (After span) tokens = (t : Token) × (tokens ≡ word (codes "after") ∷ t ∷ []) × WritesSpan span t
  Writes (Every span) tokens = (t : Token) × (tokens ≡ word (codes "every") ∷ t ∷ []) × WritesSpan span t

  -- one or more formulas, with commas between them
  pub WritesEach : Trees → List Token → Type 0
  WritesEach End tokens = ⊥
  WritesEach (More first End) tokens = Writes first tokens
  WritesEach (More first (More second rest)) tokens =
      (front back : List Token) × (tokens ≡ front ++ sign Comma ∷ back) × Writes first front × WritesEach (More second rest) back

  -- nothing, or one or more formulas
  pub WritesAny : Trees → List Token → Type 0
  WritesAny End tokens = tokens ≡ []
  WritesAny (More first End) tokens = Writes first tokens
  WritesAny (More first (More second rest)) tokens =
      (front back : List Token) × (tokens ≡ front ++ sign Comma ∷ back) × Writes first front × WritesEach (More second rest) back

-- ---- commands

-- the tokens write the command
abbrev pub WritesLine : Line → List Token → Type 0
WritesLine (Var name t first) tokens =
    (front back : List Token) × (tokens ≡ word (codes "var") ∷ word name ∷ (front ++ back)) × IsName name × WritesType t front × WritesLiteral first back
WritesLine (Set name value) tokens = (back : List Token) × (tokens ≡ word (codes "set") ∷ word name ∷ back) × IsName name × WritesLiteral value back
WritesLine (Let name formula) tokens = (back : List Token) × (tokens ≡ word (codes "let") ∷ word name ∷ back) × IsName name × Writes formula back
WritesLine (Expert name function first) tokens =
    (back : List Token) × (tokens ≡ word (codes "expert") ∷ word name ∷ word (codes "fold") ∷ word function ∷ word (codes "from") ∷ back)
    × IsName name × IsName function × WritesLiteral first back
WritesLine (Link expert name) tokens = (tokens ≡ word (codes "link") ∷ word expert ∷ word name ∷ []) × IsName expert × IsName name
WritesLine (Unlink expert name) tokens = (tokens ≡ word (codes "unlink") ∷ word expert ∷ word name ∷ []) × IsName expert × IsName name
WritesLine (Stale expert) tokens = (tokens ≡ word (codes "stale") ∷ word expert ∷ []) × IsName expert
WritesLine (Grab name bind) tokens = (tokens ≡ word (codes "grab") ∷ word name ∷ word bind ∷ []) × IsName name × IsName bind
WritesLine (Observe observer name) tokens = (tokens ≡ word (codes "observe") ∷ word observer ∷ word name ∷ []) × IsName observer × IsName name
WritesLine (Unobserve observer) tokens = (tokens ≡ word (codes "unobserve") ∷ word observer ∷ []) × IsName observer
WritesLine (Watch observer) tokens = (tokens ≡ word (codes "watch") ∷ word observer ∷ []) × IsName observer
WritesLine (Show observer) tokens = (tokens ≡ word (codes "show") ∷ word observer ∷ []) × IsName observer
WritesLine (Advance span) tokens = (t : Token) × (tokens ≡ word (codes "advance") ∷ t ∷ []) × WritesSpan span t
WritesLine (AdvanceTo time) tokens = (t : Token) × (tokens ≡ token.AdvanceTo ∷ t ∷ []) × WritesTime time t
WritesLine Stabilize tokens = tokens ≡ word (codes "stabilize") ∷ []

-- ---- what bytes are

-- the bytes are a line of the grammar
pub record IsLine (bytes : List ℕ) (line : Line) : Type 0 where
  pub tokens : List Token
  pub spelled : AreSpelled tokens bytes
  pub level : AreTooDeep tokens → ⊥
  pub writes : WritesLine line tokens

-- the bytes are tokens, nested too deep
pub record IsTooDeep (bytes : List ℕ) : Type 0 where
  pub tokens : List Token
  pub spelled : AreSpelled tokens bytes
  pub level : AreTooDeep tokens

-- the tokens write no line
abbrev pub WriteNothing : List Token → Type 0
WriteNothing tokens = (line : Line) → WritesLine line tokens → ⊥

-- the bytes are no tokens, or tokens that aren't too deep and write no line
abbrev pub IsNoLine : List ℕ → Type 0
IsNoLine bytes =
    ((tokens : List Token) → AreSpelled tokens bytes → ⊥)
    ⊎ ((tokens : List Token) × AreSpelled tokens bytes × (AreTooDeep tokens → ⊥) × WriteNothing tokens)
