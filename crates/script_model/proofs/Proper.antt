-- What a line writes is proper: integers of 64 bits, texts of printable bytes, times of 63 bits.
use Rattle.std.proofs.Common.{◌≡◌, inl, inr, ℕ, zero, suc, ◌<◌, ◌≤◌, ◌^◌, true, false, List, [], ◌∷◌, ◌++◌, None, Some, refl, arith}
use Rattle.std.specs.Prelude as std
use Rattle.std.specs.Prelude.{ℤ, pos, neg_ℤ, nat_le, nat_lt, FitsSigned, All, if◌then◌else◌}
use Rattle.std.specs.Int.{w64}
use Rattle.std.proofs.lemmas.Bool.{leb-true, ltb-true}
use Rattle.std.proofs.lemmas.List.Elements.{All-nil, All-cons}
use Rattle.inc_value.specs.Text.{IsPrintable, IsText}
use Rattle.inc_value.specs.Choice.{Every}
use Rattle.script_model.specs.Language.{integer_of, number_from}
use Rattle.script_model.specs.Tokens as token
use Rattle.script_model.specs.Tokens.{Token, AreSpelled, Spells}
use Rattle.script_model.specs.Grammar as grammar
use Rattle.script_model.specs.Grammar.{Tree, Trees, Time, TimedLiteral, Line, Call, If, Bind, Join, Fold, At, Now, Steps, Freeze, After, End, More, WritesTime, WritesLiteral, WritesSteps, WritesAnySteps, Writes, WritesEach, WritesAny, WritesLine, time_of, IsLine}
use Rattle.script_model.specs.Literals as literals
use Rattle.script_model.specs.Literals.{Literal, Integer, Referred}

small_fits : (n : ℕ) → n < 2 ^ 63 → FitsSigned w64 (pos n)
small_fits n less = omega (arith, less)

negative_fits : (n : ℕ) → n ≤ 2 ^ 63 → FitsSigned w64 (neg_ℤ (pos n))
negative_fits zero less = omega (arith, less)
negative_fits (suc n) less = omega (arith, less)

integer_fits : (negative : std.Bool) (digits : List ℕ) (z : ℤ) → integer_of negative digits ≡ Some z → FitsSigned w64 z
integer_fits true digits z is = go (nat_le (number_from 0 digits) (2 ^ 63)) refl is
  where
    go : (b : std.Bool) → nat_le (number_from 0 digits) (2 ^ 63) ≡ b
        → (if b then Some (neg_ℤ (pos (number_from 0 digits))) else None) ≡ Some z → FitsSigned w64 z
    go true small e = let same : z ≡ neg_ℤ (pos (number_from 0 digits)) = cc in rw same (negative_fits (number_from 0 digits) (leb-true _ _ small))
    go false small e = absurd (cc)
integer_fits false digits z is = go (nat_lt (number_from 0 digits) (2 ^ 63)) refl is
  where
    go : (b : std.Bool) → nat_lt (number_from 0 digits) (2 ^ 63) ≡ b
        → (if b then Some (pos (number_from 0 digits)) else None) ≡ Some z → FitsSigned w64 z
    go true small e = let same : z ≡ pos (number_from 0 digits) = cc in rw same (small_fits (number_from 0 digits) (ltb-true _ _ small))
    go false small e = absurd (cc)

-- ---- what is proper

-- an integer of 64 bits, a text that is a text, a truth value or a reference
abbrev pub ProperLiteral : Literal → Type 0
ProperLiteral (Integer z) = FitsSigned w64 z
ProperLiteral (literals.Text content) = IsText content
ProperLiteral literal = Unit {0}

-- steps of such literals
abbrev pub ProperSteps : List TimedLiteral → Type 0
ProperSteps [] = Unit {0}
ProperSteps (step ∷ steps) = ProperLiteral step.literal × ProperSteps steps

abbrev mutual
  -- a formula whose literals are proper
  pub ProperTree : Tree → Type 0
  ProperTree (grammar.Literal literal) = ProperLiteral literal
  ProperTree (Call function arguments) = ProperTrees arguments
  ProperTree (Fold function first elements) = ProperLiteral first × ProperTrees elements
  ProperTree (If test a b) = ProperTree test × ProperTree a × ProperTree b
  ProperTree (Bind variable left body) = ProperTree left × ProperTree body
  ProperTree (Join child) = ProperTree child
  ProperTree (Steps first steps) = ProperLiteral first × ProperSteps steps
  ProperTree (Freeze child predicate) = ProperTree child
  ProperTree tree = Unit {0}

  -- formulas whose literals are proper
  pub ProperTrees : Trees → Type 0
  ProperTrees End = Unit {0}
  ProperTrees (More first rest) = ProperTree first × ProperTrees rest

-- a time of 63 bits
abbrev pub ProperTime : Time → Type 0
ProperTime None = Unit {0}
ProperTime (Some t) = t < 2 ^ 63

-- a command whose literals are proper, and whose time is one
abbrev pub ProperLine : Line → Type 0
ProperLine (grammar.Var name t first) = ProperLiteral first
ProperLine (grammar.Set name literal) = ProperLiteral literal
ProperLine (grammar.Let name tree) = ProperTree tree
ProperLine (grammar.Expert name function first) = ProperLiteral first
ProperLine (grammar.AdvanceTo time) = ProperTime time
ProperLine line = Unit {0}

-- ---- tokens

-- a text of printable bytes
abbrev Printable : Token → Type 0
Printable (token.Text content) = Every IsPrintable content
Printable t = Unit {0}

spells_printable : (t : Token) (bytes : List ℕ) → Spells t bytes → Printable t
spells_printable (token.Text content) bytes h = h.1
spells_printable t bytes h = tt

spelled_printable : (tokens : List Token) (bytes : List ℕ) → AreSpelled tokens bytes → Every Printable tokens
spelled_printable [] bytes h = tt
spelled_printable (t ∷ tokens) bytes h = (spells_printable t h.1 h.5, spelled_printable tokens h.2 h.7)

every_front : {A : Type 0} (P : A → Type 0) (xs ys : List A) → Every P (xs ++ ys) → Every P xs
every_front P [] ys h = tt
every_front P (x ∷ xs) ys h = (h.0, every_front P xs ys h.1)

every_back : {A : Type 0} (P : A → Type 0) (xs ys : List A) → Every P (xs ++ ys) → Every P ys
every_back P [] ys h = h
every_back P (x ∷ xs) ys h = every_back P xs ys h.1

all_printable : (bytes : List ℕ) → Every IsPrintable bytes → All IsPrintable bytes
all_printable [] h = All-nil IsPrintable
all_printable (b ∷ bytes) h = All-cons IsPrintable b bytes h.0 (all_printable bytes h.1)

-- ---- what tokens write

-- whose texts are of printable bytes
abbrev Printables : List Token → Type 0
Printables tokens = Every Printable tokens

literal_proper : (l : Literal) (tokens : List Token) → Printables tokens → WritesLiteral l tokens → ProperLiteral l
literal_proper (Integer z) tokens p w = integer_fits w.0 w.1 z w.3
literal_proper (literals.Bool b) tokens p w = tt
literal_proper (literals.Text content) tokens p w = (w.1, all_printable content (rw w.0 at p).0)
literal_proper (Referred name) tokens p w = tt

steps_proper : (steps : List TimedLiteral) (tokens : List Token) → Printables tokens → WritesSteps steps tokens → ProperSteps steps
steps_proper [] tokens p w = tt
steps_proper (step ∷ []) tokens p w = (literal_proper step.literal w.1 (rw w.2 at p).1.1 w.4, tt)
steps_proper (step ∷ next ∷ steps) tokens p w =
    let rest = (rw w.3 at p).1.1 in
    (literal_proper step.literal w.1 (every_front Printable w.1 _ rest) w.5, steps_proper (next ∷ steps) w.2 (every_back Printable w.1 _ rest).1 w.6)

any_steps_proper : (steps : List TimedLiteral) (tokens : List Token) → Printables tokens → WritesAnySteps steps tokens → ProperSteps steps
any_steps_proper [] tokens p w = tt
any_steps_proper (step ∷ steps) tokens p w = steps_proper (step ∷ steps) tokens p w

mutual
  tree_proper : (tree : Tree) (tokens : List Token) → Printables tokens → Writes tree tokens → ProperTree tree
  tree_proper (grammar.Literal literal) tokens p w = literal_proper literal tokens p w
  tree_proper (grammar.Name name) tokens p w = tt
  tree_proper (Call function arguments) tokens p w = each_proper arguments w.0 (every_front Printable w.0 _ (rw w.1 at p).1.1) w.4
  tree_proper (If test a b) tokens p w =
      let all = (rw w.3 at p).1 in
      let after_test = (every_back Printable w.0 _ all).1 in (
        tree_proper test w.0 (every_front Printable w.0 _ all) w.4,
        tree_proper a w.1 (every_front Printable w.1 _ after_test)
            w.5,
        tree_proper b w.2 (every_back Printable w.1 _ after_test).1 w.6,
      )
  tree_proper (Bind variable left body) tokens p w =
      let all = (rw w.2 at p).1.1.1 in
      (tree_proper left w.0 (every_front Printable w.0 _ all) w.4, tree_proper body w.1 (every_back Printable w.0 _ all).1 w.5)
  tree_proper (Join child) tokens p w = tree_proper child w.0 (every_front Printable w.0 _ (rw w.1 at p).1.1) w.2
  tree_proper (Fold function first elements) tokens p w =
      let all = (rw w.2 at p).1.1.1 in (
        literal_proper first w.0 (every_front Printable w.0 _ all) w.4,
        any_proper elements w.1
            (every_front Printable w.1 _ (every_back Printable w.0 _ all).1) w.5,
      )
  tree_proper (At time) tokens p w = tt
  tree_proper Now tokens p w = tt
  tree_proper (Steps first steps) tokens p w =
      let all = (rw w.2 at p).1 in (
        literal_proper first w.0 (every_front Printable w.0 _ all) w.3,
        any_steps_proper steps w.1
            (every_front Printable w.1 _ (every_back Printable w.0 _ all).1) w.4,
      )
  tree_proper (Freeze child predicate) tokens p w = tree_proper child w.0 (every_front Printable w.0 _ (rw w.1 at p).1) w.3
  tree_proper (After span) tokens p w = tt
  tree_proper (grammar.Every span) tokens p w = tt

  each_proper : (trees : Trees) (tokens : List Token) → Printables tokens → WritesEach trees tokens → ProperTrees trees
  each_proper End tokens p w = absurd w
  each_proper (More first End) tokens p w = (tree_proper first tokens p w, tt)
  each_proper (More first (More second rest)) tokens p w =
      let all = rw w.2 at p in
      (tree_proper first w.0 (every_front Printable w.0 _ all) w.3, each_proper (More second rest) w.1 (every_back Printable w.0 _ all).1 w.4)

  any_proper : (trees : Trees) (tokens : List Token) → Printables tokens → WritesAny trees tokens → ProperTrees trees
  any_proper End tokens p w = tt
  any_proper (More first End) tokens p w = (tree_proper first tokens p w, tt)
  any_proper (More first (More second rest)) tokens p w =
      let all = rw w.2 at p in
      (tree_proper first w.0 (every_front Printable w.0 _ all) w.3, each_proper (More second rest) w.1 (every_back Printable w.0 _ all).1 w.4)

-- ---- lines

time_of_proper : (n : ℕ) → ProperTime (time_of n)
time_of_proper n = go (nat_lt n (2 ^ 63)) refl
  where
    go : (b : std.Bool) → nat_lt n (2 ^ 63) ≡ b → ProperTime (if b then Some n else None)
    go true small = ltb-true n (2 ^ 63) small
    go false large = tt

time_proper : (time : Time) (t : Token) → WritesTime time t → ProperTime time
time_proper time t (inl w) = rw w.3 (time_of_proper _)
time_proper time t (inr w) = rw w.2 (time_of_proper _)

writes_proper : (l : Line) (tokens : List Token) → Printables tokens → WritesLine l tokens → ProperLine l
writes_proper (grammar.Var name t first) tokens p w = literal_proper first w.1 (every_back Printable w.0 _ (rw w.2 at p).1.1) w.5
writes_proper (grammar.Set name literal) tokens p w = literal_proper literal w.0 (rw w.1 at p).1.1 w.3
writes_proper (grammar.Let name tree) tokens p w = tree_proper tree w.0 (rw w.1 at p).1.1 w.3
writes_proper (grammar.Expert name function first) tokens p w = literal_proper first w.0 (rw w.1 at p).1.1.1.1.1 w.4
writes_proper (grammar.AdvanceTo time) tokens p w = time_proper time w.0 w.2
writes_proper l tokens p w = tt

pub line_proper : (bytes : List ℕ) (l : Line) → IsLine bytes l → ProperLine l
line_proper bytes l line = writes_proper l line.tokens (spelled_printable line.tokens bytes line.spelled) line.writes
