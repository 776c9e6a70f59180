-- What is looked for in formulas is what the table of refusals asks of their times, spans and forms of the top.
use Rattle.std.proofs.Common.{◌≡◌, ◌≤◌, ℕ, Bool, true, false, ◌||◌, List, [], ◌∷◌, length, drop, is_none, Some, None, refl, ap, sym, arith, ◌∙◌, flat_map}
use Rattle.std.proofs.lemmas.List.Folds.{list_any-append}
use Rattle.std.specs.List.{list_any}
use Rattle.script_model.specs.Check.{has_falling_times, is_empty_interval, is_past, is_top_form, own_times, trees_in}
use Rattle.script_model.specs.Grammar.{Tree, Time, At, Freeze, After, Every}
use Rattle.line_times.specs.Sought.{freeze_has, is_sought}
use Rattle.line_times.specs.declared.search.Sought.{Sought}
use Rattle.line_times.specs.declared.search.Sought.TheVariants as sought
use Rattle.line_times.proofs.Mentions.{or_nothing}
use Rattle.line_parser.specs.TreeView.{frozen}

-- ---- what is sought in several formulas

any_same : (P Q : Tree → Bool) → ((t : Tree) → P t ≡ Q t) → (ts : List Tree) → list_any P ts ≡ list_any Q ts
any_same P Q same [] = refl
any_same P Q same (t ∷ ts) = rw (same t, any_same P Q same ts) refl

any_flat : {A : Type 0} (P : A → Bool) (part : Tree → List A) (ts : List Tree)
    → list_any P (flat_map part ts) ≡ list_any (λ t. list_any P (part t)) ts
any_flat P part [] = refl
any_flat P part (t ∷ ts) = list_any-append P (part t) (flat_map part ts) ∙ ap (λ b. list_any P (part t) || b) (any_flat P part ts)

large_same : (t : Tree) → is_sought sought.LargeTime t ≡ list_any is_none (own_times t)
large_same (At time) = sym (or_nothing (is_none time))
large_same (After span) = sym (or_nothing (is_none span))
large_same (Every span) = sym (or_nothing (is_none span))
large_same _ = refl

falling_same : (t : Tree) → is_sought sought.FallingTimes t ≡ has_falling_times t
falling_same (At time) = refl
falling_same _ = refl

empty_same : (t : Tree) → is_sought sought.EmptySpan t ≡ is_empty_interval t
empty_same (Every None) = refl
empty_same (Every (Some span)) = refl
empty_same _ = refl

pub large_times : (ts : List Tree) → list_any (is_sought sought.LargeTime) ts ≡ list_any is_none (flat_map own_times ts)
large_times ts =
    any_same (is_sought sought.LargeTime) (λ t. list_any is_none (own_times t)) large_same ts ∙ sym (any_flat is_none own_times ts)

pub falling_times : (ts : List Tree) → list_any (is_sought sought.FallingTimes) ts ≡ list_any has_falling_times ts
falling_times ts = any_same (is_sought sought.FallingTimes) has_falling_times falling_same ts

pub empty_spans : (ts : List Tree) → list_any (is_sought sought.EmptySpan) ts ≡ list_any is_empty_interval ts
empty_spans ts = any_same (is_sought sought.EmptySpan) is_empty_interval empty_same ts

-- ---- forms of the top

-- a freeze within freezes
frozen_inside : (t : Tree) (name : List ℕ) (names : List (List ℕ)) → list_any is_top_form (trees_in t) ≡ true
    → list_any is_top_form (drop 1 (trees_in (frozen (Freeze t name) names))) ≡ true
frozen_inside t name [] h = h
frozen_inside t name (next ∷ names) h = frozen_inside (Freeze t name) next names refl

-- so is one of two freezes round one another
pub inner_freeze : (child : Tree) (name : List ℕ) (names : List (List ℕ)) → 1 ≤ length names
    → list_any is_top_form (drop 1 (trees_in (frozen (Freeze child name) names))) ≡ true
inner_freeze child name [] some = absurd (omega (arith, some))
inner_freeze child name (next ∷ names) some = frozen_inside (Freeze child name) next names refl

-- ---- freezes

twice : (a b : Bool) → (a || (a || b)) ≡ (a || b)
twice true b = refl
twice false b = refl

-- in freezes round one another it is one of these, or in their child
pub any_frozen : (s : Sought) (child : Tree) (name : List ℕ) (names : List (List ℕ))
    → list_any (is_sought s) (trees_in (frozen child (name ∷ names))) ≡ (freeze_has s || list_any (is_sought s) (trees_in child))
any_frozen s child name [] = refl
any_frozen s child name (next ∷ names) =
    any_frozen s (Freeze child name) next names ∙ twice (freeze_has s) (list_any (is_sought s) (trees_in child))

-- ---- spans and times of commands

-- a span from now on that ends too late is one that is too large, or one beyond what is left
pub past_span : (now : ℕ) (span : Time) → is_past now span ≡ (list_any is_none (span ∷ []) || list_any (is_past now) (span ∷ []))
past_span now None = refl
past_span now (Some span) = sym (or_nothing (is_past now (Some span)))

pub large_time : (time : Time) → is_none time ≡ ((is_none time || false) || false)
large_time None = refl
large_time (Some time) = refl
