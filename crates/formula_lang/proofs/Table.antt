-- The table of refusals, as the code goes by it.
use Rattle.std.proofs.Common.{◌≡◌, ℕ, ◌+◌, ◌<◌, Bool, true, false, cond, List, [], ◌∷◌, length, map, drop, get_or, inl, inr, is_none, Option, None, Some, Result, Ok, Err, IfOk, refl, ap, sym, ◌∙◌}
use Rattle.std.proofs.lemmas.List.{drop_more}
use Rattle.script_model.specs.Check.{Names, Reason, IllTyped, command_of, first_that, is_against, line_order}
use Rattle.inc_value.specs.Choice.{Among}
use Rattle.script_model.specs.Formula.{Meanings}
use Rattle.script_model.specs.Grammar.{Line}
use Rattle.formula_lang.specs.Verdict.{reason_view}
use Rattle.formula_lang.specs.declared.refusal.Reason as code
use Rattle.formula_lang.specs.declared.refusal.Reason.TheVariants as reason

-- the rows in the order in which the code looks at them
abbrev pub code_order : List code.Reason
code_order =
    reason.NameTaken ∷ reason.ObserverTaken ∷ reason.NameUnknown ∷ reason.ObserverUnknown ∷ reason.FunctionUnknown ∷ reason.NotWhole
    ∷ reason.NotVariable ∷ reason.NotBind ∷ reason.NotExpert ∷ reason.IllTyped ∷ reason.TimeTooLarge ∷ reason.TimesNotRising ∷ reason.SpanIsZero
    ∷ reason.BackInTime ∷ []

-- where none holds, each one doesn't
pub none_holds : (h : Reason → Bool) (rs : List Reason) (r : Reason) → first_that h rs ≡ None → Among r rs → h r ≡ false
none_holds h [] r none among = absurd among
none_holds h (x ∷ rs) r none among = go (h x) refl none (none_holds h rs r)
  where
    go : (b : Bool) → h x ≡ b → cond b (Some x) (first_that h rs) ≡ None → (first_that h rs ≡ None → Among r rs → h r ≡ false) → h r ≡ false
    go true is e rest = absurd (cc)
    go false is e rest = elim among [ inl same ↦ rw same is | inr later ↦ rest e later ]

-- where none holds, the line comes to a command
pub comes_to : (F : Meanings) (names : Names) (l : Line) → first_that (is_against F names l) line_order ≡ None → command_of F names l ≡ None → ⊥
comes_to F names l none missing =
    let typed : is_none (command_of F names l) ≡ false =
    none_holds (is_against F names l) line_order IllTyped none (inr (inr (inr (inr (inr (inr (inr (inr (inr (inl refl)))))))))) in
    let ill : is_none (command_of F names l) ≡ true = rw missing refl in
    absurd (let both : true ≡ false = sym ill ∙ typed in cc)

-- one row doesn't hold, so the first is among those behind it
pub next_row : (h : Reason → Bool) (rs : List code.Reason) (i : ℕ) (r : code.Reason) (X : Option Reason) → i < length rs
    → h (reason_view (get_or rs i r)) ≡ false
    → first_that h (map reason_view (drop i rs)) ≡ X → first_that h (map reason_view (drop (i + 1) rs)) ≡ X
next_row h rs i r X within is e =
    let split : first_that h (map reason_view (drop i rs)) ≡ first_that h (map reason_view (get_or rs i r ∷ drop (i + 1) rs)) =
    ap (λ rows. first_that h (map reason_view rows)) (drop_more rs i r within) in
    let skipped : first_that h (map reason_view (get_or rs i r ∷ drop (i + 1) rs)) ≡ first_that h (map reason_view (drop (i + 1) rs)) = rw is refl in
    sym skipped ∙ sym split ∙ e

-- what follows of what a call gives
pub where_ok : {T E : Type 0} (r : Result T E) (P Q : T → Type 0) → IfOk r P → ((x : T) → P x → Q x) → IfOk r Q
where_ok (Ok x) P Q p f = f x p
where_ok (Err e) P Q p f = tt
