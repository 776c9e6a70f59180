-- Words that the command takes name a subcommand, and give it the numbers that it asks for.
use Rattle.std.proofs.Common.{◌≡◌, ◌&&◌, ◌||◌, ◌⊎◌, ℕ, zero, suc, Bool, true, false, not, List, [], ◌∷◌, ◌++◌, length, drop, Option, Some, None, is_some, option_map, refl, sym, ◌∙◌, ap, subst, inl, inr, true≢false, append-nil, codes, if◌then◌else◌}
use Rattle.std.specs.List.{find, fold}
use Rattle.std.specs.Option.{option_map_or}
use Rattle.std.specs.Prelude.{encode_utf8, option_and_then, slice_get}
use Rattle.std.specs.Str.{bytes_eq, chars}
use Rattle.clap.proofs.ValueTestLemmas.{accepts-Accepts}
use Rattle.clap.specs.Facts.{explicit_source}
use Rattle.clap.specs.Faults.{entered_fault, level_fault, positional_fault, settle_fault, step_fault, stray_fault, turn_fault, use_fault, walk_fault, word_fault}
use Rattle.clap.specs.Kinds.{check_kinds, or_else}
use Rattle.clap.specs.Lexer.{long_of, short_of}
use Rattle.clap.specs.Simple.{Shape, argument_words, built, entered, names_of, new_rule, new_shape, rows_at}
use Rattle.clap.specs.Takes.{is_given}
use Rattle.clap.specs.Values.{read_as}
use Rattle.clap.specs.ValueTests.{accepts}
use Rattle.clap.specs.Walk.{Held, Outcome, Row, Rule, Step, Text, Waiting, Walk, after_flag, after_step, answers_to, arg_by_id, arg_by_index, at_row, bundle, bundle_met, bundle_step, done, finished, has_row, idle, is_pending, long_or_other, more_values, next, nothing_held, option, option_word, plain, plain_word, positional, pushed, refused, row_text, rows_after, settled, settled_rows, short_or_plain, subcommand, subcommand_met, subcommand_or_other, takes_several, to_positional, trailing, used, used_by_id, value, waits, walk, walk_from, walked, walked_from, with_default, with_values, word_met}
use Rattle.clap.specs.Words.{Kinds, subcommand_of}
use Rattle.clap.specs.declared.builder.action.ArgAction.TheVariants.{Set}
use Rattle.clap.specs.declared.builder.value_parser.Reading.TheVariants as how
use Rattle.clap.specs.declared.builder.value_parser.ValueParser.TheVariants as parser
use Rattle.clap.specs.declared.error.kind.ErrorKind.{ErrorKind}
use Rattle.clap.specs.declared.error.kind.ErrorKind.TheVariants as kind
use Rattle.clap.specs.declared.parser.matches.ValueSource.TheVariants.{CommandLine}
use Rattle.command_words.specs.Command.{incr}
use Rattle.command_words.specs.Words.{AreTaken, GivesNumber, IsWhole}

-- ---- the command, once it is built

-- an argument that is a number
abbrev number_arg : Text → ℕ → ℕ → ℕ → Rule
number_arg name least most place = record (new_rule name) {
  index = Some place;
  action = Some Set;
  range = Some (record { start_inclusive = 1; end_inclusive = 1 });
  parser = Some (parser.Unsigned least most);
  required = true;
}

abbrev steps_arg : Rule
steps_arg = number_arg (codes "STEPS") 1 20000 1

abbrev seed_arg : Rule
seed_arg = number_arg (codes "SEED") 0 2147483647 2

abbrev gen_args : List Rule
gen_args = steps_arg ∷ seed_arg ∷ []

abbrev bare_built : Text → Shape
bare_built name = record (new_shape name) {
  disable_help_flag = true;
  disable_help_subcommand = true;
  disable_version_flag = true;
  is_built = true;
}

abbrev run_built : Shape
run_built = bare_built (codes "run")

abbrev gen_built : Shape
gen_built = record (bare_built (codes "gen")) { rules = gen_args }

-- ---- no fault

both_none : (kinds more : Kinds) → or_else kinds more ≡ [] → (kinds ≡ []) × (more ≡ [])
both_none [] more e = (refl, e)
both_none (k ∷ kinds) more e = absurd (let clash : ◌≡◌ {A = Kinds} (k ∷ kinds) [] = e in cc)

none_if : (b : Bool) (k : ErrorKind) → (if b then k ∷ [] else []) ≡ [] → b ≡ false
none_if false k e = refl
none_if true k e = absurd (let clash : ◌≡◌ {A = Kinds} (k ∷ []) [] = e in cc)

none_unless : (b : Bool) (k : ErrorKind) → (if b then [] else k ∷ []) ≡ [] → b ≡ true
none_unless true k e = refl
none_unless false k e = absurd (let clash : ◌≡◌ {A = Kinds} (k ∷ []) [] = e in cc)

and_true : (b : Bool) → (b && true) ≡ b
and_true true = refl
and_true false = refl

neither : (a b : Bool) → (a || b) ≡ false → (a ≡ false) × (b ≡ false)
neither false b e = (refl, e)
neither true b e = absurd (true≢false e)

-- ---- rows

-- the first value of a row is a number that its argument takes, read as it is written
record HasNumber (least most : ℕ) (r : Row) : Type 0 where
  text : Text
  more : List Text
  values : r.values ≡ text ∷ more
  reading : r.reading ≡ how.AsWritten
  taken : accepts false (parser.Unsigned least most) text ≡ true

-- each row of an argument
abbrev EachOf : Text → (Row → Type 0) → List Row → Type 0
EachOf id P [] = Unit {0}
EachOf id P (r ∷ rows) = (bytes_eq r.id id ≡ true → P r) × EachOf id P rows

EachOf-more : (id : Text) (P : Row → Type 0) (rows : List Row) (r : Row) → EachOf id P rows → (bytes_eq r.id id ≡ true → P r) → EachOf id P (rows ++ r ∷ [])
EachOf-more id P [] r each here = (here, tt)
EachOf-more id P (x ∷ rows) r each here = (each.0, EachOf-more id P rows r each.1 here)

abbrev AreRight : List Row → Type 0
AreRight rows = EachOf (codes "STEPS") (HasNumber 1 20000) rows × EachOf (codes "SEED") (HasNumber 0 2147483647) rows

-- where there is no row of an argument, one comes at the end
no_row : (id : Text) (change : Row → List Row) (missing rows : List Row) → has_row id rows ≡ false → at_row id change missing rows ≡ rows ++ missing
no_row id change missing [] none = refl
no_row id change missing (r ∷ rows) none =
    let p = neither (bytes_eq r.id id) (has_row id rows) none in
    ap (λ (b : Bool). if b then change r ++ rows else r ∷ at_row id change missing rows) p.0 ∙ ap (λ (l : List Row). r ∷ l) (no_row id change missing rows p.1)

-- ---- a use of an argument

module _ (name : Text) (least most place : ℕ) where
  abbrev row_with : Text → List Text → Row
  row_with v vs = record { id = name; values = v ∷ vs; count = None; source = Some CommandLine; reading = how.AsWritten }

  -- a use without a fault adds a row
  adds_row : (values : List Text) (rows : List Row) → use_fault false (number_arg name least most place) values rows ≡ []
      → (r : Row) × (used (number_arg name least most place) values rows ≡ rows ++ r ∷ []) × (r.id ≡ name) × HasNumber least most r
  adds_row [] rows e = absurd (let clash : ◌≡◌ {A = Kinds} (kind.InvalidValue ∷ []) [] = e in cc)
  adds_row (v ∷ vs) rows e =
      let act = (both_none _ _ e).1 in
      let parts = both_none _ _ act in
      let none : has_row name rows ≡ false = sym (and_true (has_row name rows)) ∙ none_if (has_row name rows && true) kind.ArgumentConflict parts.0 in
      let taken = none_unless (accepts false (parser.Unsigned least most) v) kind.ValueValidation (both_none _ _ parts.1).0 in
      let change = no_row name (λ r. []) [] rows none ∙ append-nil rows in (
        row_with v vs,
        ap (with_values name how.AsWritten CommandLine (v ∷ vs)) change ∙ no_row name (more_values CommandLine (v ∷ vs)) (row_with v vs ∷ []) rows none,
        refl,
        record { text = v; more = vs; values = refl; reading = refl; taken = taken },
      )

steps_row : (r : Row) → r.id ≡ codes "STEPS" → HasNumber 1 20000 r → (rows : List Row) → AreRight rows → AreRight (rows ++ r ∷ [])
steps_row r is has rows right = (
  EachOf-more (codes "STEPS") (HasNumber 1 20000) rows r right.0 (λ same. has),
  EachOf-more (codes "SEED") (HasNumber 0 2147483647) rows r right.1
      (λ same. absurd (true≢false (sym (subst (λ (id : Text). bytes_eq id (codes "SEED") ≡ true) is same)))),
)

seed_row : (r : Row) → r.id ≡ codes "SEED" → HasNumber 0 2147483647 r → (rows : List Row) → AreRight rows → AreRight (rows ++ r ∷ [])
seed_row r is has rows right = (
  EachOf-more (codes "STEPS") (HasNumber 1 20000) rows r right.0
      (λ same. absurd (true≢false (sym (subst (λ (id : Text). bytes_eq id (codes "STEPS") ≡ true) is same)))),
  EachOf-more (codes "SEED") (HasNumber 0 2147483647) rows r right.1 (λ same. has),
)

-- which argument an id is of
abbrev IsOne : Option Rule → Type 0
IsOne o = (o ≡ None) ⊎ ((o ≡ Some steps_arg) ⊎ (o ≡ Some seed_arg))

one_of_two : (a b : Bool) → IsOne (if a then Some steps_arg else (if b then Some seed_arg else None))
one_of_two true b = inr (inl refl)
one_of_two false true = inr (inr refl)
one_of_two false false = inl refl

by_id : (id : Text) → IsOne (arg_by_id gen_args id)
by_id id = one_of_two (bytes_eq (codes "STEPS") id) (bytes_eq (codes "SEED") id)

-- a use without a fault keeps rows right
used_right : (o : Option Rule) (values : List Text) (rows : List Row) → IsOne o → AreRight rows
    → option_map_or (λ (a : Rule). use_fault false a values rows) o [] ≡ [] → AreRight (used_by_id o values rows)
used_right o values rows (inl none) right e = subst (λ (x : Option Rule). AreRight (used_by_id x values rows)) (sym none) right
used_right o values rows (inr (inl steps)) right e =
    let r = adds_row (codes "STEPS") 1 20000 1 values rows (subst (λ (x : Option Rule). option_map_or (λ (a : Rule). use_fault false a values rows) x [] ≡ []) steps e) in
    subst (λ (x : Option Rule). AreRight (used_by_id x values rows)) (sym steps) (subst AreRight (sym r.1) (steps_row r.0 r.2 r.3 rows right))
used_right o values rows (inr (inr seed)) right e =
    let r = adds_row (codes "SEED") 0 2147483647 2 values rows (subst (λ (x : Option Rule). option_map_or (λ (a : Rule). use_fault false a values rows) x [] ≡ []) seed e) in
    subst (λ (x : Option Rule). AreRight (used_by_id x values rows)) (sym seed) (subst AreRight (sym r.1) (seed_row r.0 r.2 r.3 rows right))

settled_right : (pending : Option (Text × List Text)) (rows : List Row) → AreRight rows
    → option_map_or (λ (p : Text × List Text). option_map_or (λ (a : Rule). use_fault false a p.1 rows) (arg_by_id gen_args p.0) []) pending [] ≡ []
    → AreRight (settled_rows gen_args pending rows)
settled_right None rows right e = right
settled_right (Some p) rows right e = used_right (arg_by_id gen_args p.0) p.1 rows (by_id p.0) right e

-- ---- a word

flag_keeps : (k : ℕ) (flags : Text) (so_far : Outcome) (h : Held) → ((t : Text) (n : ℕ) (o : Outcome) → (bundle_met gen_args k t n o h).0.rows ≡ h.rows)
    → (x : Option ℕ) (skip : ℕ) → (bundle_step gen_args x flags skip so_far h (bundle_met gen_args k)).0.rows ≡ h.rows
flag_keeps k flags so_far h more None skip = refl
flag_keeps k flags so_far h more (Some x) zero = refl
flag_keeps k flags so_far h more (Some x) (suc skip) = more (drop (length (encode_utf8 x)) flags) skip so_far

flags_keep : (k : ℕ) (h : Held) (flags : Text) (skip : ℕ) (so_far : Outcome) → (bundle_met gen_args k flags skip so_far h).0.rows ≡ h.rows
unfolding bundle_met
flags_keep zero h flags skip so_far = refl
flags_keep (suc k) h flags skip so_far = flag_keeps k flags so_far h (flags_keep k h) (slice_get (chars flags) 0) skip

option_keeps : (o : Option Rule) (id word : Text) (h : Held) → (option_word o id word h).0.rows ≡ h.rows
option_keeps None id word h = refl
option_keeps (Some a) id word h = refl

plain_keeps : (waiting : Waiting) (word : Text) (h : Held) → (plain_word gen_args waiting word h).0.rows ≡ h.rows
plain_keeps idle word h = refl
plain_keeps positional word h = refl
plain_keeps (option id) word h = option_keeps (arg_by_id gen_args id) id word h

after_keeps : (waiting : Waiting) (word : Text) (h : Held) (o : Outcome) → (after_flag gen_args waiting word h o).0.rows ≡ h.rows
after_keeps waiting word h done = refl
after_keeps waiting word h (waits id) = refl
after_keeps waiting word h plain = plain_keeps waiting word h
after_keeps waiting word h refused = plain_keeps waiting word h

short_keeps : (waiting : Waiting) (word : Text) (o : Option Text) (h : Held) → (short_or_plain gen_args waiting word o h).0.rows ≡ h.rows
short_keeps waiting word (Some flags) h =
    after_keeps waiting word (bundle gen_args flags h).0 (bundle gen_args flags h).1 ∙ flags_keep (length flags) (record h { skip = 0 }) flags h.skip plain
short_keeps waiting word None h = plain_keeps waiting word h

long_keeps : (waiting : Waiting) (word : Text) (o : Option (Text × Option Text)) (h : Held) → (long_or_other gen_args waiting word o h).0.rows ≡ h.rows
long_keeps waiting word (Some p) h = plain_keeps waiting word h
long_keeps waiting word None h = short_keeps waiting word (short_of word) h

either_keeps : (b : Bool) (rows : List Row) (x y : Held × Step) → x.0.rows ≡ rows → y.0.rows ≡ rows → (if b then x else y).0.rows ≡ rows
either_keeps true rows x y hx hy = hx
either_keeps false rows x y hx hy = hy

other_keeps : (o : Option Text) (waiting : Waiting) (position : ℕ) (word : Text) (h : Held) → (subcommand_or_other gen_args o waiting position word h).0.rows ≡ h.rows
other_keeps (Some name) waiting position word h = refl
other_keeps None waiting position word h =
    either_keeps (bytes_eq word (45 ∷ 45 ∷ [])) h.rows (h, trailing position) (long_or_other gen_args waiting word (long_of word) h) refl (long_keeps waiting word (long_of word) h)

-- no word is a flag
word_keeps : (b : Bool) (waiting : Waiting) (position : ℕ) (word : Text) (h : Held) → (word_met gen_args [] b waiting position word h).0.rows ≡ h.rows
word_keeps true waiting position word h = refl
word_keeps false waiting position word h = other_keeps (subcommand_met [] waiting word) waiting position word h

-- ---- a turn of the walk

pushed_right : (b : Bool) (id word : Text) (h : Held) → AreRight h.rows → (if b then [] else settle_fault gen_args false h) ≡ []
    → AreRight (pushed id word (if b then h else settled gen_args h)).rows
pushed_right true id word h right e = right
pushed_right false id word h right e = settled_right h.pending h.rows right e

placed_right : (o : Option Rule) (word : Text) (w : Walk) (h : Held) → AreRight h.rows
    → option_map_or (λ (a : Rule). positional_fault gen_args false a h) o (stray_fault gen_built) ≡ [] → AreRight (to_positional gen_args o word w h).held.rows
placed_right None word w h right e = right
placed_right (Some a) word w h right e = pushed_right (is_pending a h.pending && takes_several a) a.id word h right e

step_right : (word : Text) (w : Walk) (h : Held) (step : Step) → AreRight h.rows → step_fault gen_built w.position h step ≡ []
    → AreRight (after_step gen_args word w h step).held.rows
step_right word w h (next waiting) right e = right
step_right word w h (trailing position) right e = right
step_right word w h (subcommand name) right e = right
step_right word w h value right e = placed_right (arg_by_index gen_args w.position) word w h right e

turn_right : (w : Walk) (word : Text) → AreRight w.held.rows → turn_fault gen_built [] w word ≡ [] → AreRight (walked gen_args [] w word).held.rows
unfolding walked
turn_right w word right e = go w.stopped e
  where
    go : (stop : Option (Text × List Text))
        → (if is_some stop then [] else or_else (word_fault gen_built [] w.is_trailing w.waiting word w.held)
        (step_fault gen_built w.position (word_met gen_args [] w.is_trailing w.waiting w.position word w.held).0
        (word_met gen_args [] w.is_trailing w.waiting w.position word w.held).1)) ≡ []
        → AreRight (walked_from gen_args [] stop w word).held.rows
    go (Some p) e = right
    go None e =
        let met = word_met gen_args [] w.is_trailing w.waiting w.position word w.held in
        step_right word w met.0 met.1 (subst AreRight (sym (word_keeps w.is_trailing w.waiting w.position word w.held)) right) (both_none _ _ e).1

walk_right : (w : Walk) (words : List Text) → AreRight w.held.rows → walk_fault gen_built [] w words ≡ [] → AreRight (fold (walked gen_args []) w words).held.rows
unfolding walk_fault
walk_right w [] right e = right
walk_right w (word ∷ words) right e =
    let p = both_none _ _ e in walk_right (walked gen_args [] w word) words (turn_right w word right p.0) p.1

-- ---- behind the walk

-- neither argument has a default
same_either : (b : Bool) (rows : List Row) → (if b then rows else rows) ≡ rows
same_either true rows = refl
same_either false rows = refl

no_defaults : (rows : List Row) → fold with_default rows gen_args ≡ rows
no_defaults rows =
    same_either (has_row (codes "SEED") (with_default rows steps_arg)) (with_default rows steps_arg) ∙ same_either (has_row (codes "STEPS") rows) rows

both_given : (a b : Bool) → (if (not a || (not b || false)) then kind.MissingRequiredArgument ∷ [] else []) ≡ [] → (a ≡ true) × (b ≡ true)
both_given true true e = (refl, refl)
both_given true false e = absurd (let clash : ◌≡◌ {A = Kinds} (kind.MissingRequiredArgument ∷ []) [] = e in cc)
both_given false b e = absurd (let clash : ◌≡◌ {A = Kinds} (kind.MissingRequiredArgument ∷ []) [] = e in cc)

-- the row that is found of an argument that was given
abbrev Found : Text → (Row → Type 0) → Option Row → Type 0
Found id P o = (r : Row) × (o ≡ Some r) × P r

found_here : (id : Text) (P : Row → Type 0) (r : Row) (rows : List Row) (b : Bool) → bytes_eq r.id id ≡ b → (bytes_eq r.id id ≡ true → P r)
    → (is_given id rows ≡ true → Found id P (find (λ (x : Row). bytes_eq x.id id) rows))
    → option_map_or (λ (x : Row). explicit_source x.source) (if b then Some r else find (λ (x : Row). bytes_eq x.id id) rows) false ≡ true
    → Found id P (if b then Some r else find (λ (x : Row). bytes_eq x.id id) rows)
found_here id P r rows true is here later given = (r, refl, here is)
found_here id P r rows false is here later given = later given

found_right : (id : Text) (P : Row → Type 0) (rows : List Row) → EachOf id P rows → is_given id rows ≡ true → Found id P (find (λ (x : Row). bytes_eq x.id id) rows)
found_right id P [] each given = absurd (true≢false (sym given))
found_right id P (r ∷ rows) each given = found_here id P r rows (bytes_eq r.id id) refl each.0 (found_right id P rows each.1) given

gives_number : (name : Text) (least most : ℕ) (rows : List Row) → EachOf name (HasNumber least most) rows → is_given name rows ≡ true → GivesNumber rows name least most
gives_number name least most rows each given =
    let f = found_right name (HasNumber least most) rows each given in
    let has = f.2 in
    record {
      text = has.text;
      given = ap (option_and_then row_text) f.1 ∙ (λ i. option_map (read_as (has.reading i)) (slice_get (has.values i) 0));
      taken = accepts-Accepts false (parser.Unsigned least most) has.text has.taken;
    }

-- what `gen` is given
gen_given : (words : List Text) → level_fault gen_built [] nothing_held words false [] ≡ []
    → GivesNumber (rows_after gen_args [] words) (codes "STEPS") 1 20000 × GivesNumber (rows_after gen_args [] words) (codes "SEED") 0 2147483647
gen_given words e =
    let first = both_none _ _ e in
    let second = both_none _ _ first.1 in
    let third = both_none _ _ second.1 in
    let end = (walk gen_args [] nothing_held words).held in
    let right = walk_right (walk_from nothing_held) words (tt, tt) first.0 in
    let rows = finished gen_args end in
    let all : AreRight rows = subst AreRight (sym (no_defaults (settled gen_args end).rows)) (settled_right end.pending end.rows right second.0) in
    let given = both_given (is_given (codes "STEPS") rows) (is_given (codes "SEED") rows) third.1 in
    (gives_number (codes "STEPS") 1 20000 rows all.0 given.0, gives_number (codes "SEED") 0 2147483647 rows all.1 given.1)

-- ---- the subcommand

-- the subcommand of a name
abbrev sub_of : Bool → Bool → Option Shape
sub_of a b = if a then Some run_built else (if b then Some gen_built else None)

abbrev met_by : Bool → Bool → List Text → Option (Text × List Row)
met_by a b words = option_map (λ (s : Shape). rows_at s words) (sub_of a b)

found_whole : (a b : Bool) (words : List Text) → option_map_or (λ (s : Shape). level_fault s [] nothing_held words false []) (sub_of a b) [] ≡ []
    → check_kinds (not (is_some (met_by a b words)) && false) (not (is_some (met_by a b words)) && true) false ≡ [] → IsWhole (met_by a b words)
found_whole true b words below check = inl refl
found_whole false true words below check = let given = gen_given words below in inr (refl, given.0, given.1)
found_whole false false words below check = absurd (let clash : ◌≡◌ {A = Kinds} (kind.MissingSubcommand ∷ []) [] = check in cc)

entered_whole : (stop : Option (Text × List Text)) → entered_fault (built incr) stop ≡ []
    → check_kinds (not (is_some (entered (built incr) stop)) && false) (not (is_some (entered (built incr) stop)) && true) false ≡ []
    → IsWhole (entered (built incr) stop)
entered_whole None below check = absurd (let clash : ◌≡◌ {A = Kinds} (kind.MissingSubcommand ∷ []) [] = check in cc)
entered_whole (Some p) below check = found_whole (answers_to p.0 (codes "run", [])) (answers_to p.0 (codes "gen", [])) p.1 below check

-- words that are taken name a subcommand, and give it what it asks for
pub taken_whole : (words : List Text) → AreTaken words → IsWhole (subcommand_of incr words)
taken_whole words e =
    let a = built incr in
    let stop = (walk a.top.rules (names_of a) nothing_held (argument_words incr words)).stopped in
    let first = both_none _ _ e in
    let second = both_none _ _ first.1 in
    let third = both_none _ _ second.1 in
    let fourth = both_none _ _ third.1 in
    entered_whole stop second.0 fourth.1
