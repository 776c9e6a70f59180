-- What is written by tokens is read from them: tokens write one command at most, and a line asks for one thing.
use Rattle.std.proofs.Common.{◌≡◌, inl, inr, ℕ, zero, suc, ◌+◌, ◌<◌, ◌≤◌, true, false, List, [], ◌∷◌, ◌++◌, length, Some, refl, ap, ◌∙◌, append_assoc, append-nil, arith, codes}
use Rattle.std.proofs.lemmas.Bool.{le-leb}
use Rattle.std.proofs.lemmas.List.{length-append}
use Rattle.inc_value.specs.declared.ty.Base.TheVariants as base
use Rattle.inc_value.specs.declared.ty.Ty.TheVariants as ty
use Rattle.inc_value.specs.declared.ty.Ty.{Ty}
use Rattle.script_model.specs.Grammar as grammar
use Rattle.script_model.specs.Grammar.{Tree, Trees, TimedLiteral, Line, Call, If, Bind, Join, Fold, At, Now, Steps, Freeze, After, Every, End, More, WritesSpan, WritesTime, WritesType, WritesLiteral, WritesSteps, WritesAnySteps, Writes, WritesEach, WritesAny, WritesLine, count_of}
use Rattle.script_model.specs.Literals as literals
use Rattle.script_model.specs.Literals.{Literal, Integer, Referred}
use Rattle.script_model.specs.GrammarLaws.{OneWriting, OneLine, LinesAreShallow, LinesAreWellFormed, DeepLinesAreWellFormed}
use Rattle.script_model.specs.Parsing.{Read, trees_of, tally, span_front, time_front, type_front, literal_front, step_front, list_front, any_front, named_front, formula_front, formula_read, command_read}
use Rattle.script_model.specs.Tokens.{Token, Word, Punctuation, Open, Close, OpenBracket, CloseBracket, Comma, Colon}
use Rattle.script_model.proofs.TokenLaws.{one_spelling}

-- ---- parts

-- no `(` follows
abbrev NoOpen : List Token → Type 0
NoOpen (Punctuation Open ∷ rest) = ⊥
NoOpen rest = Unit {0}

abbrev word : List ℕ → Token
word w = Word w

abbrev pub list_of : Trees → List Tree
list_of End = []
list_of (More t ts) = t ∷ list_of ts

trees_of-list_of : (ts : Trees) → trees_of (list_of ts) ≡ ts
trees_of-list_of End = refl
trees_of-list_of (More t ts) = ap (λ us. More t us) (trees_of-list_of ts)

tally-length : (ts : List Token) → tally ts ≡ length ts
tally-length [] = refl
tally-length (t ∷ ts) = let e = tally-length ts in omega (arith, e)

span_written : (s : grammar.Time) (tok : Token) (rest : List Token) → WritesSpan s tok → span_front (tok ∷ rest) ≡ Some (s, rest)
span_written s tok rest (inl w) = rw (w.2, w.3) refl
span_written s tok rest (inr w) = rw (w.1, w.2) refl

time_written : (t : grammar.Time) (tok : Token) (rest : List Token) → WritesTime t tok → time_front (tok ∷ rest) ≡ Some (t, rest)
time_written t tok rest w = span_written t tok rest w

type_written : (t : Ty) (front rest : List Token) → WritesType t front → type_front (front ++ rest) ≡ Some (t, rest)
type_written ty.Int front rest w = rw w refl
type_written ty.Bool front rest w = rw w refl
type_written ty.Text front rest w = rw w refl
type_written (ty.Node base.Int) front rest w = rw w refl
type_written (ty.Node base.Bool) front rest w = rw w refl
type_written (ty.Node base.Text) front rest w = rw w refl

pub literal_written : (l : Literal) (front rest : List Token) → WritesLiteral l front → literal_front (front ++ rest) ≡ Some (l, rest)
literal_written (Integer z) front rest w = rw (w.2, w.3) refl
literal_written (literals.Bool true) front rest w = rw w refl
literal_written (literals.Bool false) front rest w = rw w refl
literal_written (literals.Text content) front rest w = rw (w.0, le-leb (length content) 4096 w.1) refl
literal_written (Referred name) front rest w = rw (w.0, w.1) refl

literal_alone : (l : Literal) (front : List Token) → WritesLiteral l front → literal_front front ≡ Some (l, [])
literal_alone l front w = rw append-nil at (literal_written l front [] w)

step_written : (step : TimedLiteral) (t : Token) (front rest : List Token) → WritesTime step.time t → WritesLiteral step.literal front → step_front (t ∷ Punctuation Colon ∷ (front ++ rest)) ≡ Some (step, rest)
step_written step t front rest w v = rw (time_written step.time t (Punctuation Colon ∷ (front ++ rest)) w, literal_written step.literal front rest v) refl

steps_written : (ss : List TimedLiteral) (k : ℕ) (found : List TimedLiteral) (inner rest : List Token) → WritesSteps ss inner → length ss ≤ k
    → list_front step_front 93 k found (inner ++ Punctuation CloseBracket ∷ rest) ≡ Some (found ++ ss, rest)
unfolding list_front
steps_written [] k found inner rest w few = absurd w
steps_written (s ∷ ss) zero found inner rest w few = absurd (omega arith)
steps_written (s ∷ []) (suc k) found inner rest w few = rw (w.2, step_written s w.0 w.1 (Punctuation CloseBracket ∷ rest) w.3 w.4) refl
steps_written (s ∷ t ∷ ss) (suc k) found inner rest w few =
    let few' : length (t ∷ ss) ≤ k = omega arith in
    rw (w.3, append_assoc w.1 (Punctuation Comma ∷ w.2) (Punctuation CloseBracket ∷ rest), step_written s w.0 w.1 (Punctuation Comma ∷ (w.2 ++ Punctuation CloseBracket ∷ rest)) w.4 w.5)
    (steps_written (t ∷ ss) k (found ++ s ∷ []) w.2 rest w.6 few' ∙ rw append_assoc refl)

-- ---- formulas

mention_written : (part : List Token → Read Tree) (name : List ℕ) (rest : List Token) → NoOpen rest → named_front part name rest ≡ Some (grammar.Name name, rest)
mention_written part name (Punctuation Open ∷ rest) h = absurd h
mention_written part name rest h = refl

literal_formula : (part : List Token → Read Tree) (l : Literal) (front rest : List Token) → WritesLiteral l front → formula_front part (front ++ rest) ≡ Some (grammar.Literal l, rest)
literal_formula part (Integer z) front rest w = rw (w.2, w.3) refl
literal_formula part (literals.Bool true) front rest w = rw w refl
literal_formula part (literals.Bool false) front rest w = rw w refl
literal_formula part (literals.Text content) front rest w = rw (w.0, le-leb (length content) 4096 w.1) refl
literal_formula part (Referred name) front rest w = rw (w.0, w.1) refl

-- a list of n formulas or steps has at most as many as tokens
counted : (ts : Trees) (inner : List Token) → WritesEach ts inner → count_of ts ≤ length inner + 1
counted End inner w = absurd w
counted (More t End) inner w = omega arith
counted (More t (More u us)) inner w =
    let rest = counted (More u us) w.1 w.4 in
    let all = length-append w.0 (Punctuation Comma ∷ w.1) in
    rw w.2 (omega (arith, rest, all))

steps_counted : (ss : List TimedLiteral) (inner : List Token) → WritesSteps ss inner → length ss ≤ length inner + 1
steps_counted [] inner w = absurd w
steps_counted (s ∷ []) inner w = omega arith
steps_counted (s ∷ t ∷ ss) inner w =
    let rest = steps_counted (t ∷ ss) w.2 w.6 in
    let all = length-append w.1 (Punctuation Comma ∷ w.2) in
    rw w.3 (omega (arith, rest, all))

enough : (n : ℕ) (inner rest : List Token) → n ≤ length inner + 1 → n ≤ tally (inner ++ Punctuation CloseBracket ∷ rest)
enough n inner rest few =
    let e = tally-length (inner ++ Punctuation CloseBracket ∷ rest) in
    let l = length-append inner (Punctuation CloseBracket ∷ rest) in
    omega (arith, few, e, l)

any_steps_written : (ss : List TimedLiteral) (inner rest : List Token) → WritesAnySteps ss inner → any_front step_front 93 (inner ++ Punctuation CloseBracket ∷ rest) ≡ Some (ss, rest)
unfolding list_front
any_steps_written [] inner rest w = rw w refl
any_steps_written (s ∷ ss) inner rest w =
    let found = steps_written (s ∷ ss) (tally (inner ++ Punctuation CloseBracket ∷ rest)) [] inner rest w (enough (length (s ∷ ss)) inner rest (steps_counted (s ∷ ss) inner w)) in rw found refl

any_from : (ts : Trees) (n : ℕ) (inner rest : List Token) → WritesAny ts inner → length inner < n
    → (WritesEach ts inner → (k : ℕ) → count_of ts ≤ k → list_front (formula_read n) 93 k [] (inner ++ Punctuation CloseBracket ∷ rest) ≡ Some (list_of ts, rest))
    → any_front (formula_read n) 93 (inner ++ Punctuation CloseBracket ∷ rest) ≡ Some (list_of ts, rest)
unfolding formula_read list_front
any_from ts zero inner rest w less each = absurd (omega (arith, less))
any_from End (suc n) inner rest w less each = rw w refl
any_from (More t End) (suc n) inner rest w less each =
    let found = each w (tally (inner ++ Punctuation CloseBracket ∷ rest)) (enough 1 inner rest (omega arith)) in rw found refl
any_from (More t (More u us)) (suc n) inner rest w less each =
    let found = each w (tally (inner ++ Punctuation CloseBracket ∷ rest)) (enough (count_of (More t (More u us))) inner rest (counted (More t (More u us)) inner w)) in rw found refl

mutual
  unfolding formula_read list_front

  pub formula_written : (t : Tree) (n : ℕ) (front rest : List Token) → Writes t front → NoOpen rest → length front < n → formula_read n (front ++ rest) ≡ Some (t, rest)
  formula_written t zero front rest w stop few = absurd (omega (arith, few))
  formula_written (grammar.Literal l) (suc n) front rest w stop few = literal_formula (formula_read n) l front rest w
  formula_written (grammar.Name name) (suc n) front rest w stop few = rw (w.0, w.1) (mention_written (formula_read n) name rest stop)
  formula_written (Call function arguments) (suc n) front rest w stop few =
      let few' = rw w.1 at few in
      let l = length-append w.0 (Punctuation Close ∷ []) in
      rw (w.1, w.2, append_assoc w.0 (Punctuation Close ∷ []) rest, each_written arguments n 9 [] w.0 rest w.4 w.3 (omega (arith, few', l)), trees_of-list_of arguments) refl
  formula_written (If test a b) (suc n) front rest w stop few =
      let few' = rw w.3 at few in
      let l = length-append w.0 (word (codes "then") ∷ (w.1 ++ word (codes "else") ∷ w.2)) in
      let l' = length-append w.1 (word (codes "else") ∷ w.2) in
      rw (
        w.3,
        append_assoc w.0 (word (codes "then") ∷ (w.1 ++ word (codes "else") ∷ w.2)) rest,
        append_assoc w.1 (word (codes "else") ∷ w.2) rest,
        formula_written test n w.0 (word (codes "then") ∷ (w.1 ++ word (codes "else") ∷ (w.2 ++ rest))) w.4 tt (omega (arith, few', l, l')),
        formula_written a n w.1 (word (codes "else") ∷ (w.2 ++ rest)) w.5 tt (omega (arith, few', l, l')),
        formula_written b n w.2 rest w.6 stop (omega (arith, few', l, l')),
      ) refl
  formula_written (Bind variable left body) (suc n) front rest w stop few =
      let few' = rw w.2 at few in
      let l = length-append w.0 (word (codes "in") ∷ w.1) in
      rw (
        w.2,
        w.3,
        append_assoc w.0 (word (codes "in") ∷ w.1) rest,
        formula_written left n w.0 (word (codes "in") ∷ (w.1 ++ rest)) w.4 tt (omega (arith, few', l)),
        formula_written body n w.1 rest w.5 stop (omega (arith, few', l)),
      ) refl
  formula_written (Join child) (suc n) front rest w stop few =
      let few' = rw w.1 at few in
      let l = length-append w.0 (Punctuation Close ∷ []) in
      rw (w.1, append_assoc w.0 (Punctuation Close ∷ []) rest, formula_written child n w.0 (Punctuation Close ∷ rest) w.2 tt (omega (arith, few', l))) refl
  formula_written (Fold function first elements) (suc n) front rest w stop few =
      let few' = rw w.2 at few in
      let l = length-append w.0 (Punctuation OpenBracket ∷ (w.1 ++ Punctuation CloseBracket ∷ [])) in
      let l' = length-append w.1 (Punctuation CloseBracket ∷ []) in
      rw (
        w.2,
        w.3,
        append_assoc w.0 (Punctuation OpenBracket ∷ (w.1 ++ Punctuation CloseBracket ∷ [])) rest,
        append_assoc w.1 (Punctuation CloseBracket ∷ []) rest,
        literal_written first w.0 (Punctuation OpenBracket ∷ (w.1 ++ Punctuation CloseBracket ∷ rest)) w.4,
        any_from elements n w.1 rest w.5 (omega (arith, few', l, l')) (λ each k many. elements_written elements n k [] w.1 rest each many (omega (arith, few', l, l'))),
        trees_of-list_of elements,
      ) refl
  formula_written (At time) (suc n) front rest w stop few = rw (w.1, time_written time w.0 rest w.2) refl
  formula_written Now (suc n) front rest w stop few = rw w refl
  formula_written (Steps first steps) (suc n) front rest w stop few =
      rw (
        w.2,
        append_assoc w.0 (Punctuation OpenBracket ∷ (w.1 ++ Punctuation CloseBracket ∷ [])) rest,
        append_assoc w.1 (Punctuation CloseBracket ∷ []) rest,
        literal_written first w.0 (Punctuation OpenBracket ∷ (w.1 ++ Punctuation CloseBracket ∷ rest)) w.3,
        any_steps_written steps w.1 rest w.4,
      ) refl
  formula_written (Freeze child predicate) (suc n) front rest w stop few =
      let few' = rw w.1 at few in
      let l = length-append w.0 (word (codes "when") ∷ word predicate ∷ []) in
      rw (w.1, append_assoc w.0 (word (codes "when") ∷ word predicate ∷ []) rest, formula_written child n w.0 (word (codes "when") ∷ word predicate ∷ rest) w.3 tt (omega (arith, few', l)), w.2) refl
  formula_written (After span) (suc n) front rest w stop few = rw (w.1, span_written span w.0 rest w.2) refl
  formula_written (Every span) (suc n) front rest w stop few = rw (w.1, span_written span w.0 rest w.2) refl

  -- arguments up to a `)`
  each_written : (ts : Trees) (n k : ℕ) (found : List Tree) (inner rest : List Token) → WritesEach ts inner → count_of ts ≤ k → length inner < n
      → list_front (formula_read n) 41 k found (inner ++ Punctuation Close ∷ rest) ≡ Some (found ++ list_of ts, rest)
  each_written End n k found inner rest w few less = absurd w
  each_written (More t ts) n zero found inner rest w few less = absurd (omega (arith, few))
  each_written (More t End) n (suc k) found inner rest w few less = rw (formula_written t n inner (Punctuation Close ∷ rest) w tt less) refl
  each_written (More t (More u us)) n (suc k) found inner rest w few less =
      let few' : count_of (More u us) ≤ k = omega (arith, few) in
      let less' = rw w.2 at less in
      let l = length-append w.0 (Punctuation Comma ∷ w.1) in
      rw (w.2, append_assoc w.0 (Punctuation Comma ∷ w.1) (Punctuation Close ∷ rest), formula_written t n w.0 (Punctuation Comma ∷ (w.1 ++ Punctuation Close ∷ rest)) w.3 tt (omega (arith, less', l)))
      (each_written (More u us) n k (found ++ t ∷ []) w.1 rest w.4 few' (omega (arith, less', l)) ∙ rw append_assoc refl)

  -- elements up to a `]`
  elements_written : (ts : Trees) (n k : ℕ) (found : List Tree) (inner rest : List Token) → WritesEach ts inner → count_of ts ≤ k → length inner < n
      → list_front (formula_read n) 93 k found (inner ++ Punctuation CloseBracket ∷ rest) ≡ Some (found ++ list_of ts, rest)
  elements_written End n k found inner rest w few less = absurd w
  elements_written (More t ts) n zero found inner rest w few less = absurd (omega (arith, few))
  elements_written (More t End) n (suc k) found inner rest w few less = rw (formula_written t n inner (Punctuation CloseBracket ∷ rest) w tt less) refl
  elements_written (More t (More u us)) n (suc k) found inner rest w few less =
      let few' : count_of (More u us) ≤ k = omega (arith, few) in
      let less' = rw w.2 at less in
      let l = length-append w.0 (Punctuation Comma ∷ w.1) in
      rw (w.2, append_assoc w.0 (Punctuation Comma ∷ w.1) (Punctuation CloseBracket ∷ rest), formula_written t n w.0 (Punctuation Comma ∷ (w.1 ++ Punctuation CloseBracket ∷ rest)) w.3 tt (omega (arith, less', l)))
      (elements_written (More u us) n k (found ++ t ∷ []) w.1 rest w.4 few' (omega (arith, less', l)) ∙ rw append_assoc refl)

-- ---- commands

formula_alone : (t : Tree) (front : List Token) → Writes t front → formula_read (suc (tally front)) front ≡ Some (t, [])
formula_alone t front w = let e = tally-length front in rw append-nil at (formula_written t (suc (tally front)) front [] w tt (omega (arith, e)))

pub command_written : (c : Line) (tokens : List Token) → WritesLine c tokens → command_read tokens ≡ Some c
command_written (grammar.Var name t first) tokens w = rw (w.2, w.3, type_written t w.0 w.1 w.4, literal_alone first w.1 w.5) refl
command_written (grammar.Set name value) tokens w = rw (w.1, w.2, literal_alone value w.0 w.3) refl
command_written (grammar.Let name formula) tokens w = rw (w.1, w.2, formula_alone formula w.0 w.3) refl
command_written (grammar.Expert name function first) tokens w = rw (w.1, w.2, w.3, literal_alone first w.0 w.4) refl
command_written (grammar.Link expert name) tokens w = rw (w.0, w.1, w.2) refl
command_written (grammar.Unlink expert name) tokens w = rw (w.0, w.1, w.2) refl
command_written (grammar.Stale expert) tokens w = rw (w.0, w.1) refl
command_written (grammar.Grab name bind) tokens w = rw (w.0, w.1, w.2) refl
command_written (grammar.Observe observer name) tokens w = rw (w.0, w.1, w.2) refl
command_written (grammar.Unobserve observer) tokens w = rw (w.0, w.1) refl
command_written (grammar.Watch observer) tokens w = rw (w.0, w.1) refl
command_written (grammar.Show observer) tokens w = rw (w.0, w.1) refl
command_written (grammar.Advance span) tokens w = rw (w.1, span_written span w.0 [] w.2) refl
command_written (grammar.AdvanceTo time) tokens w = rw (w.1, time_written time w.0 [] w.2) refl
command_written grammar.Stabilize tokens w = rw w refl

-- ---- laws

pub one_writing : OneWriting
one_writing c d tokens v w = let first = command_written c tokens v in let second = command_written d tokens w in cc

pub one_line : OneLine
one_line bytes c d first second =
    let same = one_spelling first.tokens second.tokens bytes first.spelled second.spelled in
    one_writing c d second.tokens (rw (← same) first.writes) second.writes

pub lines_are_shallow : LinesAreShallow
lines_are_shallow bytes c h deep = let same = one_spelling h.tokens deep.tokens bytes h.spelled deep.spelled in h.level (rw same deep.level)

pub lines_are_well_formed : LinesAreWellFormed
lines_are_well_formed bytes c h (inl none) = none h.tokens h.spelled
lines_are_well_formed bytes c h (inr other) =
    let same = one_spelling h.tokens other.0 bytes h.spelled other.1 in other.3 c (rw (← same) h.writes)

pub deep_lines_are_well_formed : DeepLinesAreWellFormed
deep_lines_are_well_formed bytes h (inl none) = none h.tokens h.spelled
deep_lines_are_well_formed bytes h (inr other) =
    let same = one_spelling h.tokens other.0 bytes h.spelled other.1 in
    other.2 (rw (← same) h.level)
