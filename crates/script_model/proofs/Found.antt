-- What is read from tokens is written so: the command that is read is the one that the tokens write.
use Rattle.std.proofs.Common.{◌≡◌, ◌⊎◌, inl, inr, ℕ, zero, suc, ◌*◌, ◌≤◌, Bool, true, false, cond, nat_le, List, [], ◌∷◌, ◌++◌, length, codes, Option, None, Some, refl, ap, sym, subst, ◌∙◌, append_assoc, append-nil, arith}
use Rattle.std.proofs.lemmas.Bool.{eqb-true, leb-true}
use Rattle.std.proofs.lemmas.Slice.Eq.{bytes_eq-Decides}
use Rattle.std.specs.Str.{bytes_eq}
use Rattle.inc_value.specs.declared.ty.Base.TheVariants as base
use Rattle.inc_value.specs.Ty.{type_of_base}
use Rattle.inc_value.specs.declared.ty.Base.{Base}
use Rattle.inc_value.specs.declared.ty.Ty.TheVariants as ty
use Rattle.inc_value.specs.declared.ty.Ty.{Ty}
use Rattle.inc_value.specs.Choice.{and_then}
use Rattle.script_model.specs.Grammar as grammar
use Rattle.script_model.specs.Grammar.{Tree, TimedLiteral, Line, IsName, base_word, WritesSpan, WritesTime, WritesType, WritesLiteral, WritesSteps, WritesAnySteps, Writes, WritesEach, WritesAny, WritesLine, count_of, time_of, unit_scale}
use Rattle.script_model.specs.Literals as literals
use Rattle.script_model.specs.Literals.{Literal, Integer, Referred}
use Rattle.script_model.specs.Language.{is_name, integer_of, number_from}
use Rattle.script_model.specs.Parsing.{Read, then_read, read, expect, is_word, is_sign, name_front, span_front, time_front, base_named, base_front, type_front, literal_front, behind_element, list_front, tally, or_read, any_front, step_front, trees_of, named_front, written_front, word_front, formula_front, formula_read, if_front, bind_front, join_front, fold_head, fold_front, steps_front, when_front, freeze_front, whole, one_name, two_names, var_read, expert_read, command_with, command_read}
use Rattle.script_model.specs.Reading.{sign_of}
use Rattle.script_model.specs.Tokens as token
use Rattle.script_model.specs.Tokens.{Token, Sign, Word, Number, Text, Punctuation, Open, Close, OpenBracket, CloseBracket, Comma, Colon, Equals, Ampersand, sign_byte}

-- ---- steps that may find nothing

pub some_same : {A : Type 0} (a b : A) → Some a ≡ Some b → a ≡ b
some_same a b e = cc

-- the property of what is there, from that of what is equal to it
by_some : {A : Type 0} (P : A → Type 0) (a b : A) → Some a ≡ Some b → P a → P b
by_some P a b e h = subst P (some_same a b e) h

then_read-found : {A B : Type 0} (next : A → List Token → Read B) (o : Read A) (y : B × List Token) → then_read o next ≡ Some y
    → (p : A × List Token) × (o ≡ Some p) × (next p.0 p.1 ≡ Some y)
then_read-found next None y e = absurd (cc)
then_read-found next (Some p) y e = (p, refl, e)

and_then-found : {A B : Type 0} (f : A → Option B) (o : Option A) (y : B) → and_then o f ≡ Some y → (x : A) × (o ≡ Some x) × (f x ≡ Some y)
and_then-found f None y e = absurd (cc)
and_then-found f (Some x) y e = (x, refl, e)

whole-found : {A B : Type 0} (make : A → B) (o : Read A) (y : B) → whole o make ≡ Some y → (x : A) × (o ≡ Some (x, [])) × (make x ≡ y)
whole-found make None y e = absurd (cc)
whole-found make (Some (x, [])) y e = (x, refl, some_same (make x) y e)
whole-found make (Some (x, t ∷ rest)) y e = absurd (cc)

where_true : {A : Type 0} (b : Bool) (o : Option A) (y : A) → cond b o None ≡ Some y → (b ≡ true) × (o ≡ Some y)
where_true false o y e = absurd (cc)
where_true true o y e = (refl, e)

by_test : {A : Type 0} {p : Option A} (b : Bool) (o : Option A) (y : A) (C : Type 0) → (b ≡ true → o ≡ Some y → C) → (p ≡ Some y → C)
    → cond b o p ≡ Some y → C
by_test false o y C first other e = other e
by_test true o y C first other e = first refl e

expect_at : {A : Type 0} (b : Bool) (test : Token → Bool) (t : Token) (rest : List Token) (next : List Token → Read A) (y : A × List Token)
    → test t ≡ b
    → cond b (next rest) None ≡ Some y → (u : Token) × (left : List Token) × ((t ∷ rest) ≡ u ∷ left) × (test u ≡ true) × (next left ≡ Some y)
expect_at false test t rest next y is e = absurd (cc)
expect_at true test t rest next y is e = (t, rest, refl, is, e)

expect-found : {A : Type 0} (test : Token → Bool) (tokens : List Token) (next : List Token → Read A) (y : A × List Token)
    → expect test tokens next ≡ Some y
    → (u : Token) × (left : List Token) × (tokens ≡ u ∷ left) × (test u ≡ true) × (next left ≡ Some y)
expect-found test [] next y e = absurd (cc)
expect-found test (t ∷ rest) next y e = expect_at (test t) test t rest next y refl e

-- ---- words and signs

is_word-found : (w : List ℕ) (t : Token) → is_word w t ≡ true → t ≡ Word w
is_word-found w (Word v) e = ap (λ x. Word x) (sym ((bytes_eq-Decides w v).0 e))
is_word-found w t e = absurd (cc)

sign_of-byte : (s : Sign) → sign_of (sign_byte s) ≡ Some s
sign_of-byte Open = refl
sign_of-byte Close = refl
sign_of-byte OpenBracket = refl
sign_of-byte CloseBracket = refl
sign_of-byte Comma = refl
sign_of-byte Colon = refl
sign_of-byte Equals = refl
sign_of-byte Ampersand = refl

is_sign-found : (s : Sign) (t : Token) → is_sign (sign_byte s) t ≡ true → t ≡ Punctuation s
is_sign-found s (Punctuation r) e =
    let same = ap sign_of (eqb-true (sign_byte s) (sign_byte r) e) in
    ap (λ x. Punctuation x) (some_same r s (sym (sign_of-byte r) ∙ (sym same ∙ sign_of-byte s)))
is_sign-found s t e = absurd (cc)

-- a word, with what stands behind it
word_found : {A : Type 0} (next : List Token → Read A) (w : List ℕ) (tokens : List Token) (y : A × List Token)
    → expect (is_word w) tokens next ≡ Some y
    → (left : List Token) × (tokens ≡ Word w ∷ left) × (next left ≡ Some y)
word_found next w tokens y e =
    let found = expect-found (is_word w) tokens next y e in (found.1, found.2 ∙ ap (λ t. t ∷ found.1) (is_word-found w found.0 found.3), found.4)

sign_found : {A : Type 0} (next : List Token → Read A) (s : Sign) (tokens : List Token) (y : A × List Token)
    → expect (is_sign (sign_byte s)) tokens next ≡ Some y
    → (left : List Token) × (tokens ≡ Punctuation s ∷ left) × (next left ≡ Some y)
sign_found next s tokens y e =
    let found = expect-found (is_sign (sign_byte s)) tokens next y e in
    (found.1, found.2 ∙ ap (λ t. t ∷ found.1) (is_sign-found s found.0 found.3), found.4)

-- ---- names, times, types and literals

-- the tokens begin with what writes it, and the others stand behind it
abbrev Begins : {A : Type 0} → (A → List Token → Type 0) → List Token → A × List Token → Type 0
Begins P tokens y = (front : List Token) × (tokens ≡ front ++ y.1) × P y.0 front

-- only what it is written by is read
abbrev Finds : {A : Type 0} → (A → List Token → Type 0) → (List Token → Read A) → Type 0
Finds P part = (tokens : List Token) (y : _) → part tokens ≡ Some y → Begins P tokens y

name_found : (tokens : List Token) (y : List ℕ × List Token) → name_front tokens ≡ Some y → (tokens ≡ Word y.0 ∷ y.1) × IsName y.0
name_found (Word w ∷ rest) y e =
    let tested = where_true (is_name w) (Some (w, rest)) y e in
    by_some (λ (z : List ℕ × List Token). ((Word w ∷ rest) ≡ Word z.0 ∷ z.1) × IsName z.0) (w, rest) y tested.1 (refl, tested.0)
name_found tokens y e = absurd (cc)

span_found : (tokens : List Token) (y : grammar.Time × List Token) → span_front tokens ≡ Some y → (t : Token) × (tokens ≡ t ∷ y.1) × WritesSpan y.0 t
span_found (token.Time digits unit ∷ rest) y e =
    by_some (λ (z : grammar.Time × List Token). (t : Token) × ((token.Time digits unit ∷ rest) ≡ t ∷ z.1) × WritesSpan z.0 t)
    (time_of (number_from 0 digits * unit_scale unit), rest) y e
    (token.Time digits unit, refl, inl (digits, unit, refl, refl))
span_found (Number false digits ∷ rest) y e =
    by_some (λ (z : grammar.Time × List Token). (t : Token) × ((Number false digits ∷ rest) ≡ t ∷ z.1) × WritesSpan z.0 t)
    (time_of (number_from 0 digits), rest) y e
    (Number false digits, refl, inr (digits, refl, refl))
span_found tokens y e = absurd (cc)

time_found : (tokens : List Token) (y : grammar.Time × List Token) → time_front tokens ≡ Some y → (t : Token) × (tokens ≡ t ∷ y.1) × WritesTime y.0 t
time_found tokens y e = span_found tokens y e

base_named-found : (w : List ℕ) (b : Base) → base_named w ≡ Some b → w ≡ base_word b
base_named-found w b e =
    by_test (bytes_eq w (codes "int")) (Some base.Int) b (w ≡ base_word b)
    (λ is e. (bytes_eq-Decides w (codes "int")).0 is ∙ ap base_word (some_same base.Int b e))
    (λ e. by_test (bytes_eq w (codes "bool")) (Some base.Bool) b (w ≡ base_word b)
    (λ is e. (bytes_eq-Decides w (codes "bool")).0 is ∙ ap base_word (some_same base.Bool b e))
    (λ e. let last = where_true (bytes_eq w (codes "text")) (Some base.Text) b e in (bytes_eq-Decides w (codes "text")).0 last.0 ∙ ap base_word
    (some_same base.Text b last.1))
    e)
    e

base_found : (tokens : List Token) (y : Base × List Token) → base_front tokens ≡ Some y → tokens ≡ Word (base_word y.0) ∷ y.1
base_found (Word w ∷ rest) y e =
    let found = and_then-found _ (base_named w) y e in
    by_some (λ (z : Base × List Token). (Word w ∷ rest) ≡ Word (base_word z.0) ∷ z.1) (found.0, rest) y found.2
    (ap (λ v. Word v ∷ rest) (base_named-found w found.0 found.1))
base_found tokens y e = absurd (cc)

type_written_by : (b : Base) → WritesType (type_of_base b) (Word (base_word b) ∷ [])
type_written_by base.Int = refl
type_written_by base.Bool = refl
type_written_by base.Text = refl

type_found : Finds WritesType type_front
type_found (Word w ∷ rest) y e =
    by_test (bytes_eq w (codes "node")) (then_read (base_front rest) (λ b left. read (ty.Node b) left)) y (Begins WritesType (Word w ∷ rest) y)
    (λ is e.
    let found = then_read-found _ (base_front rest) y e in
    by_some (λ (z : Ty × List Token). Begins WritesType (Word w ∷ rest) z) (ty.Node found.0.0, found.0.1) y found.2 (
      Word w ∷ Word (base_word found.0.0) ∷ [],
      ap (λ r. Word w ∷ r) (base_found rest found.0 found.1),
      ap
          (λ v. Word v ∷ Word (base_word found.0.0) ∷ []) ((bytes_eq-Decides w (codes "node")).0 is),
    ))
    (λ e.
    let found = and_then-found _ (base_named w) y e in
    by_some (λ (z : Ty × List Token). Begins WritesType (Word w ∷ rest) z) (type_of_base found.0, rest) y found.2
    (Word (base_word found.0) ∷ [], ap (λ v. Word v ∷ rest) (base_named-found w found.0 found.1), type_written_by found.0))
    e
type_found tokens y e = absurd (cc)

literal_found : Finds WritesLiteral literal_front
literal_found (Word w ∷ rest) y e =
    by_test (bytes_eq w (codes "true")) (read (literals.Bool true) rest) y (Begins WritesLiteral (Word w ∷ rest) y)
    (λ is e. by_some (λ (z : Literal × List Token). Begins WritesLiteral (Word w ∷ rest) z) (literals.Bool true, rest) y e
    (Word w ∷ [], refl, ap (λ v. Word v ∷ []) ((bytes_eq-Decides w (codes "true")).0 is)))
    (λ e.
    let last = where_true (bytes_eq w (codes "false")) (read (literals.Bool false) rest) y e in
    by_some (λ (z : Literal × List Token). Begins WritesLiteral (Word w ∷ rest) z) (literals.Bool false, rest) y last.1
    (Word w ∷ [], refl, ap (λ v. Word v ∷ []) ((bytes_eq-Decides w (codes "false")).0 last.0)))
    e
literal_found (Number negative digits ∷ rest) y e =
    let found = and_then-found _ (integer_of negative digits) y e in
    by_some (λ (z : Literal × List Token). Begins WritesLiteral (Number negative digits ∷ rest) z) (Integer found.0, rest) y found.2
    (Number negative digits ∷ [], refl, (negative, digits, refl, found.1))
literal_found (Text content ∷ rest) y e =
    let tested = where_true (nat_le (length content) 4096) (read (literals.Text content) rest) y e in
    by_some (λ (z : Literal × List Token). Begins WritesLiteral (Text content ∷ rest) z) (literals.Text content, rest) y tested.1
    (Text content ∷ [], refl, (refl, leb-true (length content) 4096 tested.0))
literal_found (Punctuation Ampersand ∷ rest) y e =
    let found = then_read-found _ (name_front rest) y e in
    let named = name_found rest found.0 found.1 in
    by_some (λ (z : Literal × List Token). Begins WritesLiteral (Punctuation Ampersand ∷ rest) z) (Referred found.0.0, found.0.1) y found.2
    (Punctuation Ampersand ∷ Word found.0.0 ∷ [], ap (λ r. Punctuation Ampersand ∷ r) named.0, (refl, named.1))
literal_found tokens y e = absurd (cc)

-- ---- lists

-- one or more, with commas between them
abbrev WritesAll : {A : Type 0} → (A → List Token → Type 0) → List A → List Token → Type 0
WritesAll P [] tokens = ⊥
WritesAll P (x ∷ []) tokens = P x tokens
WritesAll P (x ∷ y ∷ xs) tokens = (front back : List Token) × (tokens ≡ front ++ Punctuation Comma ∷ back) × P x front × WritesAll P (y ∷ xs) back

-- at most n more behind those that are found, up to the sign
abbrev MoreBefore : {A : Type 0} → (A → List Token → Type 0) → Sign → ℕ → List A → List Token → List A × List Token → Type 0
MoreBefore P end n found tokens y =
    (more : List _) × (inner : List Token) × (y.0 ≡ found ++ more) × (tokens ≡ inner ++ Punctuation end ∷ y.1) × (length more ≤ n)
    × WritesAll P more inner

behind_found : {A : Type 0} (next : List A → List Token → Read (List A)) (end : Sign) (found : List A) (tokens : List Token) (y : List A × List Token)
    → behind_element next (sign_byte end) found tokens ≡ Some y
    → ((rest : List Token) × (tokens ≡ Punctuation end ∷ rest) × (Some (found, rest) ≡ Some y)) ⊎
    ((rest : List Token) × (tokens ≡ Punctuation Comma ∷ rest) × (next found rest ≡ Some y))
behind_found next end found [] y e = absurd (cc)
behind_found next end found (t ∷ rest) y e =
    by_test (is_sign (sign_byte end) t) (read found rest) y
    (((left : List Token) × ((t ∷ rest) ≡ Punctuation end ∷ left) × (Some (found, left) ≡ Some y)) ⊎
    ((left : List Token) × ((t ∷ rest) ≡ Punctuation Comma ∷ left) × (next found left ≡ Some y)))
    (λ is e. inl (rest, ap (λ u. u ∷ rest) (is_sign-found end t is), e))
    (λ e. let tested = where_true (is_sign 44 t) (next found rest) y e in inr (rest, ap (λ u. u ∷ rest) (is_sign-found Comma t tested.0), tested.1))
    e

writes_more : {A : Type 0} (P : A → List Token → Type 0) (x : A) (more : List A) (front inner : List Token) → P x front
    → WritesAll P more inner → WritesAll P (x ∷ more) (front ++ Punctuation Comma ∷ inner)
writes_more P x [] front inner first others = absurd others
writes_more P x (y ∷ more) front inner first others = (front, inner, refl, first, others)

element_more : {A : Type 0} (P : A → List Token → Type 0) (end : Sign) (n : ℕ) (found : List A) (x : A) (tokens front behind rest : List Token)
    (y : List A × List Token)
    → tokens ≡ front ++ behind → P x front → behind ≡ Punctuation Comma ∷ rest → MoreBefore P end n (found ++ x ∷ []) rest y
    → MoreBefore P end (suc n) found tokens y
element_more P end n found x tokens front behind rest y split first comma others = (
  x ∷ others.0,
  front ++ Punctuation Comma ∷ others.1,
  others.2 ∙ append_assoc found (x ∷ []) others.0,
  split ∙
      (ap (λ l. front ++ l) (comma ∙ ap (λ l. Punctuation Comma ∷ l) others.3) ∙ sym
      (append_assoc front (Punctuation Comma ∷ others.1) (Punctuation end ∷ y.1))),
  omega (arith, others.4),
  writes_more P x others.0 front others.1 first others.5,
)

list_found : {A : Type 0} (P : A → List Token → Type 0) (part : List Token → Read A) (end : Sign) → Finds P part
    → (n : ℕ) (found : List A) (tokens : List Token) (y : List A × List Token)
    → list_front part (sign_byte end) n found tokens ≡ Some y → MoreBefore P end n found tokens y
unfolding list_front
list_found P part end finds zero found tokens y e = absurd (cc)
list_found P part end finds (suc n) found tokens y e =
    let element = then_read-found _ (part tokens) y e in
    let first = finds tokens element.0 element.1 in
    elim (behind_found (list_front part (sign_byte end) n) end (found ++ element.0.0 ∷ []) element.0.1 y element.2) [
      | inl last ↦ by_some (λ (z : List _ × List Token). MoreBefore P end (suc n) found tokens z) (found ++ element.0.0 ∷ [], last.0) y last.2
          (element.0.0 ∷ [], first.0, refl, first.1 ∙ ap (λ l. first.0 ++ l) last.1, omega arith, first.2)
      | inr more ↦ element_more P end n found element.0.0 tokens first.0 element.0.1 more.0 y first.1 first.2 more.1
          (list_found P part end finds n (found ++ element.0.0 ∷ []) more.0 y more.2)
    ]

-- nothing, or one or more, up to the sign
abbrev AnyBefore : {A : Type 0} → (A → List Token → Type 0) → Sign → List Token → List A × List Token → Type 0
AnyBefore P end tokens y = (inner : List Token) × (tokens ≡ inner ++ Punctuation end ∷ y.1) × (((y.0 ≡ []) × (inner ≡ [])) ⊎ WritesAll P y.0 inner)

or_read-found : {A : Type 0} {o p : Read A} (y : A × List Token) → or_read o p ≡ Some y → (o ≡ Some y) ⊎ (p ≡ Some y)
or_read-found {o = None} y e = inr e
or_read-found {o = Some x} y e = inl e

all_before : {A : Type 0} (P : A → List Token → Type 0) (end : Sign) (n : ℕ) (tokens : List Token) (y : List A × List Token)
    → MoreBefore P end n [] tokens y → AnyBefore P end tokens y
all_before P end n tokens y h = (h.1, h.3, inr (rw h.2 h.5))

any_found : {A : Type 0} (P : A → List Token → Type 0) (part : List Token → Read A) (end : Sign) → Finds P part
    → (tokens : List Token) (y : List A × List Token)
    → any_front part (sign_byte end) tokens ≡ Some y → AnyBefore P end tokens y
any_found P part end finds tokens y e =
    elim (or_read-found y e) [
      | inl some ↦ all_before P end (tally tokens) tokens y (list_found P part end finds (tally tokens) [] tokens y some)
      | inr none ↦
          let h = sign_found _ end tokens y none in
          by_some (λ (z : List _ × List Token). AnyBefore P end tokens z) ([], h.0) y h.2 ([], h.1, inl (refl, refl))
    ]

-- `TIME : LITERAL`
abbrev WritesStep : TimedLiteral → List Token → Type 0
WritesStep step tokens =
    (t : Token) × (back : List Token) × (tokens ≡ t ∷ Punctuation Colon ∷ back) × WritesTime step.time t × WritesLiteral step.literal back

step_found : Finds WritesStep step_front
step_found tokens y e =
    let timed = then_read-found _ (time_front tokens) y e in
    let time = time_found tokens timed.0 timed.1 in
    let colon = sign_found _ Colon timed.0.1 y timed.2 in
    let valued = then_read-found _ (literal_front colon.0) y colon.2 in
    let literal = literal_found colon.0 valued.0 valued.1 in
    by_some (λ (z : TimedLiteral × List Token). Begins WritesStep tokens z) (record { time = timed.0.0; literal = valued.0.0 }, valued.0.1) y valued.2 (
      time.0 ∷ Punctuation Colon ∷ literal.0,
      time.1 ∙ ap (λ l. time.0 ∷ l) (colon.1 ∙ ap (λ l. Punctuation Colon ∷ l) literal.1),
      (time.0, literal.0, refl, time.2, literal.2),
    )

steps_are : (steps : List TimedLiteral) (tokens : List Token) → WritesAll WritesStep steps tokens → WritesSteps steps tokens
steps_are [] tokens w = w
steps_are (step ∷ []) tokens w = w
steps_are (step ∷ next ∷ steps) tokens w = (
  w.3.0,
  w.3.1,
  w.1,
  w.2 ∙ ap (λ l. l ++ Punctuation Comma ∷ w.1) w.3.2,
  w.3.3,
  w.3.4,
  steps_are (next ∷ steps) w.1 w.4,
)

any_steps_are : (steps : List TimedLiteral) (tokens : List Token) → ((steps ≡ []) × (tokens ≡ [])) ⊎ WritesAll WritesStep steps tokens
    → WritesAnySteps steps tokens
any_steps_are [] tokens (inl h) = h.1
any_steps_are (step ∷ steps) tokens (inl h) = absurd (let e = h.0 in cc)
any_steps_are [] tokens (inr w) = absurd w
any_steps_are (step ∷ steps) tokens (inr w) = steps_are (step ∷ steps) tokens w

each_is : (ts : List Tree) (tokens : List Token) → WritesAll Writes ts tokens → WritesEach (trees_of ts) tokens
each_is [] tokens w = w
each_is (t ∷ []) tokens w = w
each_is (t ∷ u ∷ ts) tokens w = (w.0, w.1, w.2, w.3, each_is (u ∷ ts) w.1 w.4)

any_is : (ts : List Tree) (tokens : List Token) → ((ts ≡ []) × (tokens ≡ [])) ⊎ WritesAll Writes ts tokens → WritesAny (trees_of ts) tokens
any_is [] tokens (inl h) = h.1
any_is (t ∷ ts) tokens (inl h) = absurd (let e = h.0 in cc)
any_is [] tokens (inr w) = absurd w
any_is (t ∷ []) tokens (inr w) = w
any_is (t ∷ u ∷ ts) tokens (inr w) = (w.0, w.1, w.2, w.3, each_is (u ∷ ts) w.1 w.4)

count_of-trees_of : (ts : List Tree) → count_of (trees_of ts) ≡ length ts
count_of-trees_of [] = refl
count_of-trees_of (t ∷ ts) = omega (arith, count_of-trees_of ts)

arguments_few : (ts us : List Tree) → ts ≡ us → length us ≤ 9 → count_of (trees_of ts) ≤ 9
arguments_few ts us same few = rw (count_of-trees_of ts, same) few

arguments_are : (ts us : List Tree) (tokens : List Token) → ts ≡ us → WritesAll Writes us tokens → WritesEach (trees_of ts) tokens
arguments_are ts us tokens same w = rw same (each_is us tokens w)

-- ---- formulas

-- a front and what is at the front behind it, together
joined : {tokens : List Token} (front left back rest : List Token) → tokens ≡ front ++ left → left ≡ back ++ rest → tokens ≡ (front ++ back) ++ rest
joined front left back rest e h = e ∙ (ap (λ l. front ++ l) h ∙ sym (append_assoc front back rest))

-- a token and what is at the front behind it, together
behind : {tokens : List Token} (t : Token) (left back rest : List Token) → tokens ≡ t ∷ left → left ≡ back ++ rest → tokens ≡ (t ∷ back) ++ rest
behind t left back rest e h = e ∙ ap (λ l. t ∷ l) h

-- a word, and what is read behind it
abbrev Behind : List ℕ → List Token → Tree × List Token → Type 0
Behind w rest y = Begins Writes (Word w ∷ rest) y

-- `NAME from LITERAL`
abbrev WritesHead : List ℕ × Literal → List Token → Type 0
WritesHead head tokens = (back : List Token) × (tokens ≡ Word head.0 ∷ Word (codes "from") ∷ back) × IsName head.0 × WritesLiteral head.1 back

head_found : Finds WritesHead fold_head
head_found tokens y e =
    let name = then_read-found _ (name_front tokens) y e in
    let named = name_found tokens name.0 name.1 in
    let from = word_found _ (codes "from") name.0.1 y name.2 in
    let first = then_read-found _ (literal_front from.0) y from.2 in
    let literal = literal_found from.0 first.0 first.1 in
    by_some (λ (z : (List ℕ × Literal) × List Token). Begins WritesHead tokens z) ((name.0.0, first.0.0), first.0.1) y first.2 (
      Word name.0.0 ∷ Word (codes "from") ∷ literal.0,
      behind (Word name.0.0) name.0.1 (Word (codes "from") ∷ literal.0) first.0.1 named.0
          (behind (Word (codes "from")) from.0 literal.0 first.0.1 from.1 literal.1),
      (literal.0, refl, named.1, literal.2),
    )

module _ (part : List Token → Read Tree) (finds : Finds Writes part) where
  if_found : (rest : List Token) (y : Tree × List Token) → if_front part rest ≡ Some y → Behind (codes "if") rest y
  if_found rest y e =
      let test = then_read-found _ (part rest) y e in
      let first = finds rest test.0 test.1 in
      let a = then_read-found _ (expect (is_word (codes "then")) test.0.1 part) y test.2 in
      let then_ = word_found part (codes "then") test.0.1 a.0 a.1 in
      let second = finds then_.0 a.0 then_.2 in
      let b = then_read-found _ (expect (is_word (codes "else")) a.0.1 part) y a.2 in
      let else_ = word_found part (codes "else") a.0.1 b.0 b.1 in
      let third = finds else_.0 b.0 else_.2 in
      by_some (λ (z : Tree × List Token). Behind (codes "if") rest z) (grammar.If test.0.0 a.0.0 b.0.0, b.0.1) y b.2 (
        Word (codes "if") ∷ (first.0 ++ Word (codes "then") ∷ (second.0 ++ Word (codes "else") ∷ third.0)),
        ap (λ l. Word (codes "if") ∷ l)
            (joined first.0 test.0.1 (Word (codes "then") ∷ (second.0 ++ Word (codes "else") ∷ third.0)) b.0.1 first.1
            (behind (Word (codes "then")) then_.0 (second.0 ++ Word (codes "else") ∷ third.0) b.0.1 then_.1
            (joined second.0 a.0.1 (Word (codes "else") ∷ third.0) b.0.1 second.1
            (behind (Word (codes "else")) else_.0 third.0 b.0.1 else_.1 third.1)))),
        (first.0, second.0, third.0, refl, first.2, second.2, third.2),
      )

  bind_found : (rest : List Token) (y : Tree × List Token) → bind_front part rest ≡ Some y → Behind (codes "bind") rest y
  bind_found rest y e =
      let name = then_read-found _ (name_front rest) y e in
      let named = name_found rest name.0 name.1 in
      let left = then_read-found _ (expect (is_sign 61) name.0.1 part) y name.2 in
      let equals = sign_found part Equals name.0.1 left.0 left.1 in
      let first = finds equals.0 left.0 equals.2 in
      let body = then_read-found _ (expect (is_word (codes "in")) left.0.1 part) y left.2 in
      let in_ = word_found part (codes "in") left.0.1 body.0 body.1 in
      let second = finds in_.0 body.0 in_.2 in
      by_some (λ (z : Tree × List Token). Behind (codes "bind") rest z) (grammar.Bind name.0.0 left.0.0 body.0.0, body.0.1) y body.2 (
        Word (codes "bind") ∷ Word name.0.0 ∷ Punctuation Equals ∷ (first.0 ++ Word (codes "in") ∷ second.0),
        ap (λ l. Word (codes "bind") ∷ l)
            (behind (Word name.0.0) name.0.1 (Punctuation Equals ∷ (first.0 ++ Word (codes "in") ∷ second.0)) body.0.1 named.0
            (behind (Punctuation Equals) equals.0 (first.0 ++ Word (codes "in") ∷ second.0) body.0.1 equals.1
            (joined first.0 left.0.1 (Word (codes "in") ∷ second.0) body.0.1 first.1
            (behind (Word (codes "in")) in_.0 second.0 body.0.1 in_.1 second.1)))),
        (first.0, second.0, refl, named.1, first.2, second.2),
      )

  join_found : (rest : List Token) (y : Tree × List Token) → join_front part rest ≡ Some y → Behind (codes "join") rest y
  join_found rest y e =
      let opened = sign_found _ Open rest y e in
      let child = then_read-found _ (part opened.0) y opened.2 in
      let first = finds opened.0 child.0 child.1 in
      let closed = sign_found _ Close child.0.1 y child.2 in
      by_some (λ (z : Tree × List Token). Behind (codes "join") rest z) (grammar.Join child.0.0, closed.0) y closed.2 (
        Word (codes "join") ∷ Punctuation Open ∷ (first.0 ++ Punctuation Close ∷ []),
        ap (λ l. Word (codes "join") ∷ l)
            (behind (Punctuation Open) opened.0 (first.0 ++ Punctuation Close ∷ []) closed.0 opened.1
            (joined first.0 child.0.1 (Punctuation Close ∷ []) closed.0 first.1 closed.1)),
        (first.0, refl, first.2),
      )

  fold_found : (rest : List Token) (y : Tree × List Token) → fold_front part rest ≡ Some y → Behind (codes "fold") rest y
  fold_found rest y e =
      let head = then_read-found _ (fold_head rest) y e in
      let h = head_found rest head.0 head.1 in
      let split : rest ≡ Word head.0.0.0 ∷ Word (codes "from") ∷ (h.2.0 ++ head.0.1) = h.1 ∙ ap (λ l. l ++ head.0.1) h.2.1 in
      let opened = sign_found _ OpenBracket head.0.1 y head.2 in
      let elements = then_read-found _ (any_front part 93 opened.0) y opened.2 in
      let inner = any_found Writes part CloseBracket finds opened.0 elements.0 elements.1 in
      by_some (λ (z : Tree × List Token). Behind (codes "fold") rest z)
      (grammar.Fold head.0.0.0 head.0.0.1 (trees_of elements.0.0), elements.0.1) y elements.2 (
        grammar.fold_tokens head.0.0.0 h.2.0 inner.0,
        ap (λ l. Word (codes "fold") ∷ l)
            (behind (Word head.0.0.0) (Word (codes "from") ∷ (h.2.0 ++ head.0.1)) (Word (codes "from") ∷
            (h.2.0 ++ Punctuation OpenBracket ∷ (inner.0 ++ Punctuation CloseBracket ∷ []))) elements.0.1 split
            (behind (Word (codes "from")) (h.2.0 ++ head.0.1) (h.2.0 ++ Punctuation OpenBracket ∷
            (inner.0 ++ Punctuation CloseBracket ∷ [])) elements.0.1 refl
            (joined h.2.0 head.0.1 (Punctuation OpenBracket ∷ (inner.0 ++ Punctuation CloseBracket ∷ [])) elements.0.1 refl
            (behind (Punctuation OpenBracket) opened.0 (inner.0 ++ Punctuation CloseBracket ∷ []) elements.0.1 opened.1
            (joined inner.0 (Punctuation CloseBracket ∷ elements.0.1) (Punctuation CloseBracket ∷ []) elements.0.1 inner.1 refl))))),
        (h.2.0, inner.0, refl, h.2.2, h.2.3, any_is elements.0.0 inner.0 inner.2),
      )

  freeze_found : (rest : List Token) (y : Tree × List Token) → freeze_front part rest ≡ Some y → Behind (codes "freeze") rest y
  freeze_found rest y e =
      let child = then_read-found _ (part rest) y e in
      let first = finds rest child.0 child.1 in
      let name = then_read-found _ (when_front child.0.1) y child.2 in
      let when = word_found name_front (codes "when") child.0.1 name.0 name.1 in
      let named = name_found when.0 name.0 when.2 in
      by_some (λ (z : Tree × List Token). Behind (codes "freeze") rest z) (grammar.Freeze child.0.0 name.0.0, name.0.1) y name.2 (
        Word (codes "freeze") ∷ (first.0 ++ Word (codes "when") ∷ Word name.0.0 ∷ []),
        ap (λ l. Word (codes "freeze") ∷ l)
            (joined first.0 child.0.1 (Word (codes "when") ∷ Word name.0.0 ∷ []) name.0.1 first.1
            (behind (Word (codes "when")) when.0 (Word name.0.0 ∷ []) name.0.1 when.1 named.0)),
        (first.0, refl, named.1, first.2),
      )

  named_found : (w : List ℕ) (rest : List Token) (y : Tree × List Token) → IsName w → named_front part w rest ≡ Some y → Behind w rest y
  named_found w (Punctuation Open ∷ rest) y name e =
      let arguments = then_read-found _ (list_front part 41 9 [] rest) y e in
      let h = list_found Writes part Close finds 9 [] rest arguments.0 arguments.1 in
      by_some (λ (z : Tree × List Token). Behind w (Punctuation Open ∷ rest) z)
      (grammar.Call w (trees_of arguments.0.0), arguments.0.1) y arguments.2 (
        Word w ∷ Punctuation Open ∷ (h.1 ++ Punctuation Close ∷ []),
        ap (λ l. Word w ∷ Punctuation Open ∷ l) (joined h.1 (Punctuation Close ∷ arguments.0.1) (Punctuation Close ∷ []) arguments.0.1 h.3 refl),
        (h.1, refl, name, arguments_few arguments.0.0 h.0 h.2 h.4, arguments_are arguments.0.0 h.0 h.1 h.2 h.5),
      )
  named_found w rest y name e = by_some (λ (z : Tree × List Token). Behind w rest z) (grammar.Name w, rest) y e (Word w ∷ [], refl, (refl, name))

  -- a word with a time behind it
  timed_found : (w : List ℕ) (make : grammar.Time → Tree)
      → ((time : grammar.Time) (t : Token) → WritesTime time t → Writes (make time) (Word w ∷ t ∷ []))
      → (rest : List Token) (y : Tree × List Token)
      → then_read (time_front rest) (λ time left. read (make time) left) ≡ Some y → Behind w rest y
  timed_found w make writes rest y e =
      let found = then_read-found _ (time_front rest) y e in
      let time = time_found rest found.0 found.1 in
      by_some (λ (z : Tree × List Token). Behind w rest z) (make found.0.0, found.0.1) y found.2
      (Word w ∷ time.0 ∷ [], ap (λ l. Word w ∷ l) time.1, writes found.0.0 time.0 time.2)

  steps_found : (rest : List Token) (y : Tree × List Token) → steps_front rest ≡ Some y → Behind (codes "steps") rest y
  steps_found rest y e =
      let first = then_read-found _ (literal_front rest) y e in
      let literal = literal_found rest first.0 first.1 in
      let opened = sign_found _ OpenBracket first.0.1 y first.2 in
      let steps = then_read-found _ (any_front step_front 93 opened.0) y opened.2 in
      let inner = any_found WritesStep step_front CloseBracket step_found opened.0 steps.0 steps.1 in
      by_some (λ (z : Tree × List Token). Behind (codes "steps") rest z) (grammar.Steps first.0.0 steps.0.0, steps.0.1) y steps.2 (
        Word (codes "steps") ∷ (literal.0 ++ Punctuation OpenBracket ∷ (inner.0 ++ Punctuation CloseBracket ∷ [])),
        ap (λ l. Word (codes "steps") ∷ l)
            (joined literal.0 first.0.1 (Punctuation OpenBracket ∷ (inner.0 ++ Punctuation CloseBracket ∷ [])) steps.0.1 literal.1
            (behind (Punctuation OpenBracket) opened.0 (inner.0 ++ Punctuation CloseBracket ∷ []) steps.0.1 opened.1
            (joined inner.0 (Punctuation CloseBracket ∷ steps.0.1) (Punctuation CloseBracket ∷ []) steps.0.1 inner.1 refl))),
        (literal.0, inner.0, refl, literal.2, any_steps_are steps.0.0 inner.0 inner.2),
      )

  written_found : (tokens : List Token) (y : Tree × List Token) → written_front tokens ≡ Some y → Begins Writes tokens y
  written_found tokens y e =
      let found = then_read-found _ (literal_front tokens) y e in
      let literal = literal_found tokens found.0 found.1 in
      by_some (λ (z : Tree × List Token). Begins Writes tokens z) (grammar.Literal found.0.0, found.0.1) y found.2 (literal.0, literal.1, literal.2)

  -- behind the word v, or behind another word w
  at_word : {o p : Read Tree} (w v : List ℕ) (rest : List Token) (y : Tree × List Token) → (o ≡ Some y → Behind v rest y) →
      (p ≡ Some y → Behind w rest y)
      → cond (bytes_eq w v) o p ≡ Some y → Behind w rest y
  at_word w v rest y first other e =
      by_test (bytes_eq w v) _ y _ (λ is e. subst (λ u. Behind u rest y) (sym ((bytes_eq-Decides w v).0 is)) (first e)) other e

  now_found : (rest : List Token) (y : Tree × List Token) → read grammar.Now rest ≡ Some y → Behind (codes "now") rest y
  now_found rest y e = by_some (λ (z : Tree × List Token). Behind (codes "now") rest z) (grammar.Now, rest) y e (Word (codes "now") ∷ [], refl, refl)

  -- the formula that begins with a word, from each form on
  word_found_at : (w : List ℕ) (rest : List Token) (y : Tree × List Token) → word_front part w rest ≡ Some y → Behind w rest y
  word_found_at w rest y e =
      by_test (is_name w) _ y _ (λ is e. named_found w rest y is e) (λ e.
      at_word w (codes "freeze") rest y (freeze_found rest y) (λ e.
      at_word w (codes "if") rest y (if_found rest y) (λ e.
      at_word w (codes "bind") rest y (bind_found rest y) (λ e.
      at_word w (codes "join") rest y (join_found rest y) (λ e.
      at_word w (codes "fold") rest y (fold_found rest y) (λ e.
      at_word w (codes "at") rest y (timed_found (codes "at") grammar.At (λ time t w. (t, refl, w)) rest y) (λ e.
      at_word w (codes "now") rest y (now_found rest y) (λ e.
      at_word w (codes "steps") rest y (steps_found rest y) (λ e.
      at_word w (codes "after") rest y (timed_found (codes "after") grammar.After (λ time t w. (t, refl, w)) rest y) (λ e.
      at_word w (codes "every") rest y (timed_found (codes "every") grammar.Every (λ time t w. (t, refl, w)) rest y) (λ e.
      written_found (Word w ∷ rest) y e) e) e) e) e) e) e) e) e) e) e) e

  formula_found : Finds Writes (formula_front part)
  formula_found (Word w ∷ rest) y e = word_found_at w rest y e
  formula_found tokens y e = written_found tokens y e

pub formula_read-found : (n : ℕ) → Finds Writes (formula_read n)
unfolding formula_read
formula_read-found zero tokens y e = absurd (cc)
formula_read-found (suc n) tokens y e = formula_found (formula_read n) (formula_read-found n) tokens y e

-- ---- commands

-- what is read with nothing left is written by all of the tokens
whole_of : {A : Type 0} (P : A → List Token → Type 0) (x : A) (tokens : List Token) → Begins P tokens (x, []) → P x tokens
whole_of P x tokens h = subst (λ ts. P x ts) (sym (h.1 ∙ append-nil h.0)) h.2

one_name_found : (make : List ℕ → Line) (tokens : List Token) (c : Line) → one_name make tokens ≡ Some c
    → (name : List ℕ) × (tokens ≡ Word name ∷ []) × IsName name × (make name ≡ c)
one_name_found make tokens c e =
    let found = whole-found _ (name_front tokens) c e in
    let named = name_found tokens (found.0, []) found.1 in (found.0, named.0, named.1, found.2)

two_names_found : (make : List ℕ → List ℕ → Line) (tokens : List Token) (c : Line) → two_names make tokens ≡ Some c
    → (first second : List ℕ) × (tokens ≡ Word first ∷ Word second ∷ []) × IsName first × IsName second × (make first second ≡ c)
two_names_found make tokens c e =
    let found = and_then-found _ (name_front tokens) c e in
    let named = name_found tokens found.0 found.1 in
    let rest = one_name_found (make found.0.0) found.0.1 c found.2 in
    (found.0.0, rest.0, named.0 ∙ ap (λ l. Word found.0.0 ∷ l) rest.1, named.1, rest.2, rest.3)

-- the command, from what is equal to it
by_line : (a b : Line) (tokens : List Token) → a ≡ b → WritesLine a tokens → WritesLine b tokens
by_line a b tokens e w = subst (λ c. WritesLine c tokens) e w

var_found : (tokens : List Token) (c : Line) → var_read tokens ≡ Some c → WritesLine c (Word (codes "var") ∷ tokens)
var_found tokens c e =
    let name = and_then-found _ (name_front tokens) c e in
    let named = name_found tokens name.0 name.1 in
    let t = and_then-found _ (type_front name.0.1) c name.2 in
    let typed = type_found name.0.1 t.0 t.1 in
    let valued = whole-found _ (literal_front t.0.1) c t.2 in
    let literal = whole_of WritesLiteral valued.0 t.0.1 (literal_found t.0.1 (valued.0, []) valued.1) in
    by_line (grammar.Var name.0.0 t.0.0 valued.0) c (Word (codes "var") ∷ tokens) valued.2
    (typed.0, t.0.1, ap (λ l. Word (codes "var") ∷ l) (named.0 ∙ ap (λ l. Word name.0.0 ∷ l) typed.1), named.1, typed.2, literal)

set_found : (tokens : List Token) (c : Line) → and_then (name_front tokens) (λ n. whole (literal_front n.1) (grammar.Set n.0)) ≡ Some c
    → WritesLine c (Word (codes "set") ∷ tokens)
set_found tokens c e =
    let name = and_then-found _ (name_front tokens) c e in
    let named = name_found tokens name.0 name.1 in
    let valued = whole-found _ (literal_front name.0.1) c name.2 in
    let literal = whole_of WritesLiteral valued.0 name.0.1 (literal_found name.0.1 (valued.0, []) valued.1) in
    by_line (grammar.Set name.0.0 valued.0) c (Word (codes "set") ∷ tokens) valued.2
    (name.0.1, ap (λ l. Word (codes "set") ∷ l) named.0, named.1, literal)

let_found : (tokens : List Token) (c : Line)
    → and_then (name_front tokens) (λ n. whole (formula_read (suc (tally n.1)) n.1) (grammar.Let n.0)) ≡ Some c
    → WritesLine c (Word (codes "let") ∷ tokens)
let_found tokens c e =
    let name = and_then-found _ (name_front tokens) c e in
    let named = name_found tokens name.0 name.1 in
    let formula = whole-found _ (formula_read (suc (tally name.0.1)) name.0.1) c name.2 in
    let writes = whole_of Writes formula.0 name.0.1 (formula_read-found (suc (tally name.0.1)) name.0.1 (formula.0, []) formula.1) in
    by_line (grammar.Let name.0.0 formula.0) c (Word (codes "let") ∷ tokens) formula.2
    (name.0.1, ap (λ l. Word (codes "let") ∷ l) named.0, named.1, writes)

expert_found : (tokens : List Token) (c : Line) → expert_read tokens ≡ Some c → WritesLine c (Word (codes "expert") ∷ tokens)
expert_found tokens c e =
    let name = and_then-found _ (name_front tokens) c e in
    let named = name_found tokens name.0 name.1 in
    let made = whole-found _ (expect (is_word (codes "fold")) name.0.1 fold_head) c name.2 in
    let fold = word_found fold_head (codes "fold") name.0.1 (made.0, []) made.1 in
    let head = whole_of WritesHead made.0 fold.0 (head_found fold.0 (made.0, []) fold.2) in
    by_line (grammar.Expert name.0.0 made.0.0 made.0.1) c (Word (codes "expert") ∷ tokens) made.2 (
      head.0,
      ap (λ l. Word (codes "expert") ∷ l)
          (named.0 ∙ ap (λ l. Word name.0.0 ∷ l) (fold.1 ∙ ap (λ l. Word (codes "fold") ∷ l) head.1)),
      named.1,
      head.2,
      head.3,
    )

time_whole : (make : grammar.Time → Line) (tokens : List Token) (c : Line) → whole (time_front tokens) make ≡ Some c
    → (time : grammar.Time) × (t : Token) × (tokens ≡ t ∷ []) × WritesTime time t × (make time ≡ c)
time_whole make tokens c e =
    let found = whole-found _ (time_front tokens) c e in
    let time = time_found tokens (found.0, []) found.1 in (found.0, time.0, time.1, time.2, found.2)

stabilize_found : (tokens : List Token) (c : Line) → whole (read (codes "") tokens) (λ w. grammar.Stabilize) ≡ Some c
    → WritesLine c (Word (codes "stabilize") ∷ tokens)
stabilize_found [] c e = by_line grammar.Stabilize c (Word (codes "stabilize") ∷ []) (some_same grammar.Stabilize c e) refl
stabilize_found (t ∷ tokens) c e = absurd (cc)

-- a word with a name, two names or a time behind it
one_name_read : (w : List ℕ) (make : List ℕ → Line) → ((name : List ℕ) → IsName name → WritesLine (make name) (Word w ∷ Word name ∷ []))
    → (tokens : List Token) (c : Line)
    → one_name make tokens ≡ Some c → WritesLine c (Word w ∷ tokens)
one_name_read w make writes tokens c e =
    let found = one_name_found make tokens c e in
    by_line (make found.0) c (Word w ∷ tokens) found.3 (subst (λ ts. WritesLine (make found.0) (Word w ∷ ts)) (sym found.1) (writes found.0 found.2))

two_names_read : (w : List ℕ) (make : List ℕ → List ℕ → Line)
    → ((a b : List ℕ) → IsName a → IsName b → WritesLine (make a b) (Word w ∷ Word a ∷ Word b ∷ [])) → (tokens : List Token) (c : Line)
    → two_names make tokens ≡ Some c → WritesLine c (Word w ∷ tokens)
two_names_read w make writes tokens c e =
    let found = two_names_found make tokens c e in
    by_line (make found.0 found.1) c (Word w ∷ tokens) found.5
    (subst (λ ts. WritesLine (make found.0 found.1) (Word w ∷ ts)) (sym found.2) (writes found.0 found.1 found.3 found.4))

time_read : (first : Token) (make : grammar.Time → Line)
    → ((time : grammar.Time) (t : Token) → WritesTime time t → WritesLine (make time) (first ∷ t ∷ [])) → (tokens : List Token) (c : Line)
    → whole (time_front tokens) make ≡ Some c → WritesLine c (first ∷ tokens)
time_read first make writes tokens c e =
    let found = time_whole make tokens c e in
    by_line (make found.0) c (first ∷ tokens) found.4
    (subst (λ ts. WritesLine (make found.0) (first ∷ ts)) (sym found.2) (writes found.0 found.1 found.3))

-- behind the word v, or behind another word w
at_command : {o p : Option Line} (w v : List ℕ) (tokens : List Token) (c : Line) → (o ≡ Some c → WritesLine c (Word v ∷ tokens)) →
    (p ≡ Some c → WritesLine c (Word w ∷ tokens))
    → cond (bytes_eq w v) o p ≡ Some c → WritesLine c (Word w ∷ tokens)
at_command w v tokens c first other e =
    by_test (bytes_eq w v) _ c _ (λ is e. subst (λ u. WritesLine c (Word u ∷ tokens)) (sym ((bytes_eq-Decides w v).0 is)) (first e)) other e

command_at : (w : List ℕ) (tokens : List Token) (c : Line) → command_with w tokens ≡ Some c → WritesLine c (Word w ∷ tokens)
command_at w tokens c e =
    at_command w (codes "var") tokens c (var_found tokens c) (λ e.
    at_command w (codes "set") tokens c (set_found tokens c) (λ e.
    at_command w (codes "let") tokens c (let_found tokens c) (λ e.
    at_command w (codes "expert") tokens c (expert_found tokens c) (λ e.
    at_command w (codes "link") tokens c (two_names_read (codes "link") grammar.Link (λ a b x y. (refl, x, y)) tokens c) (λ e.
    at_command w (codes "unlink") tokens c (two_names_read (codes "unlink") grammar.Unlink (λ a b x y. (refl, x, y)) tokens c) (λ e.
    at_command w (codes "stale") tokens c (one_name_read (codes "stale") grammar.Stale (λ name x. (refl, x)) tokens c) (λ e.
    at_command w (codes "grab") tokens c (two_names_read (codes "grab") grammar.Grab (λ a b x y. (refl, x, y)) tokens c) (λ e.
    at_command w (codes "observe") tokens c (two_names_read (codes "observe") grammar.Observe (λ a b x y. (refl, x, y)) tokens c) (λ e.
    at_command w (codes "unobserve") tokens c (one_name_read (codes "unobserve") grammar.Unobserve (λ name x. (refl, x)) tokens c) (λ e.
    at_command w (codes "watch") tokens c (one_name_read (codes "watch") grammar.Watch (λ name x. (refl, x)) tokens c) (λ e.
    at_command w (codes "show") tokens c (one_name_read (codes "show") grammar.Show (λ name x. (refl, x)) tokens c) (λ e.
    at_command w (codes "advance") tokens c (time_read (Word (codes "advance")) grammar.Advance (λ time t w. (t, refl, w)) tokens c) (λ e.
    at_command w (codes "stabilize") tokens c (stabilize_found tokens c) (λ e.
    absurd (cc)) e) e) e) e) e) e) e) e) e) e) e) e) e) e

-- the command that is read is written by the tokens
pub command_found : (tokens : List Token) (c : Line) → command_read tokens ≡ Some c → WritesLine c tokens
command_found (Word w ∷ tokens) c e = command_at w tokens c e
command_found (token.AdvanceTo ∷ tokens) c e = time_read token.AdvanceTo grammar.AdvanceTo (λ time t w. (t, refl, w)) tokens c e
command_found tokens c e = absurd (cc)
