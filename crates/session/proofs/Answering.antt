-- From what a command leads to, to what the line is answered with.
use Rattle.std.proofs.Common.{◌≡◌, ℕ, Bool, true, false, List, [], ◌∷◌, ◌++◌, ◌||◌, cond, Option, None, Some, refl, sym, ◌∙◌, ap, subst, arith}
use Rattle.script_model.specs.Check as check
use Rattle.script_model.specs.Check.{Command, Declared, Names, Reason, SessionBroken, NotStabilized, NotBuilt, NotLinked, TooManyLinks, TooManyPlaces, command_of, first_that, is_against, line_order, names_of, reason_number}
use Rattle.inc_value.specs.Choice.{Every}
use Rattle.script_model.specs.Formula.{Meanings, State}
use Rattle.script_model.specs.Grammar as grammar
use Rattle.script_model.specs.Grammar.{Line}
use Rattle.script_model.specs.Request.{Request, TooLong, Asks, IsRequest}
use Rattle.script_model.specs.Run as run
use Rattle.script_model.specs.Step.{Moment, Refusal, LineTooLong, Reply, Because, Broken, Refuse, Refused, Follows, Answers, bars, holds, is_barred, number_of, order, printed, verdict_for, verdict_of}
use Rattle.script_model.proofs.Names.{command_same, against_same}
use Rattle.script_model.proofs.Steps.{Never, only_stabilize}
use Rattle.session.specs.Answered.{IsAnswered, state_order, verdict_on}
use Rattle.script_graph.specs.Kept.{Kept}
use Rattle.session.specs.Replies.{broken_line, refused_line}
use Rattle.script_graph.specs.Represents.{AreNames}
use Rattle.script_graph.specs.State.{Stands}
use Rattle.script_model.specs.Laws.{ValidMoment}
use Rattle.script_model.specs.Valid.{KeepToTypes}
use Rattle.script_model.proofs.Validity.{steps_keep_validity}
use Rattle.session.specs.Taken.{Takes}
use Rattle.session.specs.declared.answer.Did.{Did}
use Rattle.session.specs.declared.answer.Did.TheVariants as did
use Rattle.session.proofs.Following.{appended_one}

-- ---- the first reason

-- reasons looked at one after the other
first_append : (p : Reason → Bool) (xs ys : List Reason) → first_that p xs ≡ None → first_that p (xs ++ ys) ≡ first_that p ys
first_append p [] ys none = refl
first_append p (r ∷ xs) ys none = go (p r) none (λ h. first_append p xs ys h)
  where
    go : (b : Bool) → cond b (Some r) (first_that p xs) ≡ None → (first_that p xs ≡ None → first_that p (xs ++ ys) ≡ first_that p ys)
        → cond b (Some r) (first_that p (xs ++ ys)) ≡ first_that p ys
    go true none rest = absurd (cc)
    go false none rest = rest none

first_before : (p : Reason → Bool) (xs ys : List Reason) (why : Reason) → first_that p xs ≡ Some why → first_that p (xs ++ ys) ≡ Some why
first_before p [] ys why is = absurd (cc)
first_before p (r ∷ xs) ys why is = go (p r) is (λ h. first_before p xs ys why h)
  where
    go : (b : Bool) → cond b (Some r) (first_that p xs) ≡ Some why → (first_that p xs ≡ Some why → first_that p (xs ++ ys) ≡ Some why)
        → cond b (Some r) (first_that p (xs ++ ys)) ≡ Some why
    go true is rest = is
    go false is rest = rest is

first_same : (p q : Reason → Bool) (xs : List Reason) → Every (λ r. p r ≡ q r) xs → first_that p xs ≡ first_that q xs
first_same p q [] same = refl
first_same p q (r ∷ xs) same = rw (same.0, first_same p q xs same.1) refl

-- the reason is one of these
first_among : (P : Reason → Type 0) (p : Reason → Bool) (xs : List Reason) (why : Reason) → Every P xs → first_that p xs ≡ Some why → P why
first_among P p [] why all is = absurd (cc)
first_among P p (r ∷ xs) why all is = go (p r) is (λ later. first_among P p xs why all.1 later)
  where
    go : (b : Bool) → cond b (Some r) (first_that p xs) ≡ Some why → (first_that p xs ≡ Some why → P why) → P why
    go true is rest = let same : r ≡ why = cc in subst P same all.0
    go false is rest = rest is

-- ---- reasons of a line

-- a reason that the state has nothing to do with
abbrev IsOfLine : Reason → Type 0
IsOfLine SessionBroken = ⊥
IsOfLine NotStabilized = ⊥
IsOfLine NotBuilt = ⊥
IsOfLine NotLinked = ⊥
IsOfLine TooManyLinks = ⊥
IsOfLine TooManyPlaces = ⊥
IsOfLine r = Unit {0}

not_barred : (s : State) (c : Command) (r : Reason) → IsOfLine r → is_barred s c r ≡ false
not_barred s (check.Show observer) NotStabilized of_line = absurd of_line
not_barred s (check.Take name t bind) NotBuilt of_line = absurd of_line
not_barred s (check.Unlink expert target) NotLinked of_line = absurd of_line
not_barred s (check.Link expert target) TooManyLinks of_line = absurd of_line
not_barred s (check.Declare name t body) TooManyPlaces of_line = absurd of_line
not_barred s c r of_line = refl

no_bars : (s : State) (c : Option Command) (r : Reason) → IsOfLine r → bars s c r ≡ false
no_bars s None r of_line = refl
no_bars s (Some c) r of_line = not_barred s c r of_line

or_false : (a b : Bool) → b ≡ false → (a || b) ≡ a
or_false true b none = refl
or_false false b none = none

module _ (F : Meanings) (m : Moment) (l : Line) where
  abbrev names : Names
  names = names_of m.present

  abbrev against : Reason → Bool
  against r = is_against F names l r

  line_reason : (r : Reason) → IsOfLine r → holds F m l r ≡ against r
  line_reason SessionBroken of_line = absurd of_line
  line_reason NotStabilized of_line = absurd of_line
  line_reason NotBuilt of_line = absurd of_line
  line_reason NotLinked of_line = absurd of_line
  line_reason TooManyLinks of_line = absurd of_line
  line_reason TooManyPlaces of_line = absurd of_line
  line_reason r of_line = or_false (against r) (bars m.present (command_of F names l) r) (no_bars m.present (command_of F names l) r of_line)

  every_of_line : (xs : List Reason) → Every IsOfLine xs → Every (λ r. holds F m l r ≡ against r) xs
  every_of_line [] all = tt
  every_of_line (r ∷ xs) all = (line_reason r all.0, every_of_line xs all.1)

  all_of_line : Every IsOfLine line_order
  all_of_line = (tt, (tt, (tt, (tt, (tt, (tt, (tt, (tt, (tt, (tt, (tt, (tt, (tt, (tt, tt))))))))))))))

  of_line : first_that (holds F m l) line_order ≡ first_that against line_order
  of_line = first_same (holds F m l) against line_order (every_of_line line_order all_of_line)

  unbroken_first : m.broken ≡ None → first_that (holds F m l) order ≡ first_that (holds F m l) (line_order ++ state_order)
  unbroken_first unbroken = rw unbroken refl

  -- a line against which nothing stands comes to what its command does
  pub verdict_allowed : (c : Command) → m.broken ≡ None → first_that against line_order ≡ None → command_of F names l ≡ Some c
      → verdict_of F m l ≡ verdict_on m c
  verdict_allowed c unbroken none is =
      let behind : first_that (holds F m l) order ≡ first_that (holds F m l) state_order = unbroken_first unbroken
      ∙ first_append (holds F m l) line_order state_order (of_line ∙ none) in
      let same : first_that (holds F m l) state_order ≡ first_that (is_barred m.present c) state_order = rw is refl in
      ap (λ r. verdict_for m (command_of F names l) r) (behind ∙ same) ∙ ap (λ x. verdict_for m x (first_that (is_barred m.present c) state_order)) is

  -- a line against which something stands is refused
  pub verdict_refused : (why : Reason) → m.broken ≡ None → first_that against line_order ≡ Some why → verdict_of F m l ≡ Refuse (Because why)
  verdict_refused why unbroken is =
      let first : first_that (holds F m l) order ≡ Some why = unbroken_first unbroken
      ∙ first_before (holds F m l) line_order state_order why (of_line ∙ is) in
      ap (λ r. verdict_for m (command_of F names l) r) first ∙ (by_reason why (first_among IsOfLine against line_order why all_of_line is))
    where
      by_reason : (r : Reason) → IsOfLine r → verdict_for m (command_of F names l) (Some r) ≡ Refuse (Because r)
      by_reason SessionBroken of_line = absurd of_line
      by_reason r of_line = refl

  -- whatever a line asks for, a broken session refuses it
  pub verdict_broken : (number : ℕ) → m.broken ≡ Some number → verdict_of F m l ≡ Refuse (Broken number)
  verdict_broken number broken = rw broken refl

-- only `stabilize` comes to one
pub stabilize_line : (F : Meanings) (names : Names) (l : Line) → command_of F names l ≡ Some check.Stabilize → l ≡ grammar.Stabilize
stabilize_line F names grammar.Stabilize is = refl
stabilize_line F names l is = absurd (subst Never is (only_stabilize F names l (λ same. absurd (cc))))

-- ---- names

-- the names are those of the state, but for the order of the observers'
names_are : (names : Names) (s : State) → AreNames names s → names ≡ record (names_of s) { observers = names.observers }
names_are names s are =
    let declared : names ≡ record names { declared = (names_of s).declared } =
    ap (λ (ds : List Declared). record names { declared = ds }) are.declared in
    declared ∙ ap (λ (n : ℕ). record (names_of s) { observers = names.observers; now = n }) are.now

-- what a line comes to is the same over both
command_there : (F : Meanings) (names : Names) (s : State) (l : Line) → AreNames names s → command_of F names l ≡ command_of F (names_of s) l
command_there F names s l are = ap (λ (n : Names). command_of F n l) (names_are names s are) ∙ command_same F (names_of s) names.observers l

against_there : (F : Meanings) (names : Names) (s : State) (l : Line) (r : Reason) → AreNames names s
    → is_against F names l r ≡ is_against F (names_of s) l r
against_there F names s l r are =
    ap (λ (n : Names). is_against F n l r) (names_are names s are) ∙ against_same F (names_of s) names.observers are.in_use l r

every_one : {A : Type 0} (P : A → Type 0) (xs : List A) → ((x : A) → P x) → Every P xs
every_one P [] all = tt
every_one P (x ∷ xs) all = (all x, every_one P xs all)

first_there : (F : Meanings) (names : Names) (s : State) (l : Line) → AreNames names s
    → first_that (is_against F (names_of s) l) line_order ≡ first_that (is_against F names l) line_order
first_there F names s l are =
    first_same (is_against F (names_of s) l) (is_against F names l) line_order (every_one _ line_order (λ r. sym (against_there F names s l r are)))

-- ---- lines

-- where a command leads that a line asks for, the line leads
pub followed_line : (F : Meanings) (k : Kept) (m after : Moment) (replies : List Reply) (l : Line) (c : Command) → Stands F k m → k.broken ≡ None
    → first_that (is_against F k.names l) line_order ≡ None → command_of F k.names l ≡ Some c
    → Follows F m (verdict_on m c) after replies → Answers F m (Asks l) after replies
followed_line F k m after replies l c st unbroken none is leads =
    let none_there = first_there F k.names m.present l st.matches.names ∙ none in
    let there = sym (command_there F k.names m.present l st.matches.names) ∙ is in
    subst (λ v. Follows F m v after replies) (sym (verdict_allowed F m l c (st.matches.broken ∙ unbroken) none_there there)) leads

-- a refusal that changes nothing
pub refused_with : (F : Meanings) (k : Kept) (m : Moment) (Leads : Moment → List Reply → Type 0) (why : Refusal) (written appended : List ℕ) (calls : ℕ)
    → Stands F k m → Leads m (Refused why ∷ [])
    → run.MayCall F m (Refused why ∷ []) 0 → appended ≡ written ++ printed m.present (Refused why)
    → IsAnswered F m Leads k written appended calls calls (did.Refused (number_of why))
refused_with F k m Leads why written appended calls st answers due print = record {
  after = m;
  replies = Refused why ∷ [];
  leads = answers;
  work = 0;
  due = due;
  matches = st.matches;
  printed_are = appended_one m.present written appended (Refused why) print;
  within = omega arith;
  says = (why, refl, refl);
}

pub answered_refused : (F : Meanings) (k : Kept) (m : Moment) (l : Line) (why : Reason) (n : ℕ) (written appended : List ℕ) (calls : ℕ) → Stands F k m
    → k.broken ≡ None
    → first_that (is_against F k.names l) line_order ≡ Some why → reason_number why ≡ n → appended ≡ written ++ refused_line n
    → IsAnswered F m (Answers F m (Asks l)) k written appended calls calls (did.Refused n)
answered_refused F k m l why n written appended calls st unbroken is number print =
    let there = first_there F k.names m.present l st.matches.names ∙ is in
    let verdict = verdict_refused F m l why (st.matches.broken ∙ unbroken) there in
    subst (λ j. IsAnswered F m (Answers F m (Asks l)) k written appended calls calls (did.Refused j)) number
    (refused_with F k m (Answers F m (Asks l)) (Because why) written appended calls st
    (subst (λ v. Follows F m v m (Refused (Because why) ∷ [])) (sym verdict) (refl, refl)) refl
    (print ∙ ap (λ j. written ++ refused_line j) (sym number)))

pub answered_broken : (F : Meanings) (k : Kept) (m : Moment) (l : Line) (number : ℕ) (written appended : List ℕ) (calls : ℕ) → Stands F k m
    → k.broken ≡ Some number
    → appended ≡ written ++ broken_line number → IsAnswered F m (Answers F m (Asks l)) k written appended calls calls (did.Refused 22)
answered_broken F k m l number written appended calls st broken print =
    let verdict = verdict_broken F m l number (st.matches.broken ∙ broken) in
    refused_with F k m (Answers F m (Asks l)) (Broken number) written appended calls st
    (subst (λ v. Follows F m v m (Refused (Broken number) ∷ [])) (sym verdict) (refl, refl)) refl print

pub answered_too_long : (F : Meanings) (k : Kept) (m : Moment) (written appended : List ℕ) (calls : ℕ) → Stands F k m
    → appended ≡ written ++ refused_line 2
    → IsAnswered F m (Answers F m TooLong) k written appended calls calls (did.Refused 2)
answered_too_long F k m written appended calls st print = refused_with F k m (Answers F m TooLong) LineTooLong written appended calls st (refl, refl) refl print

-- what was answered is a turn of the model
pub taken_of : (F : Meanings) (m : Moment) (line : List ℕ) (r : Request) (new : Kept) (written appended : List ℕ) (called calls : ℕ) (how : Did)
    → KeepToTypes F → ValidMoment F m → IsRequest line r
    → IsAnswered F m (Answers F m r) new written appended called calls how → Takes F m line new written appended called calls how
taken_of F m line r new written appended called calls how keep valid asks h = record {
  turn = record { before = m; line = line; request = r; after = h.after; replies = h.replies; work = h.work };
  from = refl;
  over = refl;
  is_turn = record { asks = asks; answers = h.leads; due = h.due };
  stands = record { keep = keep; valid = steps_keep_validity F m h.after line h.replies keep valid (r, asks, h.leads); matches = h.matches };
  printed = h.printed_are;
  within = h.within;
  says = h.says;
}

-- so where the answer tells what the bytes ask for
pub taken_from : (F : Meanings) (m : Moment) (line : List ℕ) (new : Kept) (written appended : List ℕ) (called calls : ℕ) (how : Did)
    → KeepToTypes F → ValidMoment F m
    → IsAnswered F m (λ after replies. (r : Request) × IsRequest line r × Answers F m r after replies) new written appended called calls how
    → Takes F m line new written appended called calls how
taken_from F m line new written appended called calls how keep valid h = record {
  turn = record { before = m; line = line; request = h.leads.0; after = h.after; replies = h.replies; work = h.work };
  from = refl;
  over = refl;
  is_turn = record { asks = h.leads.1; answers = h.leads.2; due = h.due };
  stands = record { keep = keep; valid = steps_keep_validity F m h.after line h.replies keep valid h.leads; matches = h.matches };
  printed = h.printed_are;
  within = h.within;
  says = h.says;
}
