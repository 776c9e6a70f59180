-- Who isn't due stays as it is, and nothing is told of it.
use Rattle.std.proofs.Common.{◌≡◌, ◌∙◌, ◌⊎◌, ℕ, Bool, true, false, List, refl, ap, sym, subst, inl, inr, cond, Option, Some, None}
use Rattle.std.specs.Prelude.{◌&&◌}
use Rattle.inc_value.specs.Choice.{Among}
use Rattle.inc_value.specs.declared.node.NodeId.{NodeId}
use Rattle.inc_value.specs.declared.outcome.Outcome.{Outcome}
use Rattle.inc_terms.proofs.Same.{outcome_decides}
use Rattle.inc_terms.specs.Same.{same_outcome}
use Rattle.observers.specs.declared.observer.Observer.{Observer}
use Rattle.observers.specs.declared.notice.Told.{Told}
use Rattle.observers.specs.declared.observer.Watch.{Watch}
use Rattle.observers.specs.declared.observer.Watch.TheVariants.{Off, Fresh, Since}
use Rattle.inc_value.specs.Outcome.{IsNoText}
use Rattle.observers.specs.Observers.{after, change, watch_after, IsCurrent, IsLight, IsToldNoText}
use Rattle.observers.specs.Keeping.{IsQuiet, CoversAll, awaits, is_fresh, tells_none, is_left, IsToldShown, AwaitingAreDue, CoversNews, ShowWhatWasTold}
use Rattle.observers.proofs.Lists.{no_bool, among_at}

-- an observer that is looked at by its fields
abbrev pub by_fields : NodeId → Bool → Option Outcome → Watch → Observer
by_fields n used shown watch = record { node = n; in_use = used; shown = shown; watch = watch }

module _ (shows : NodeId → Outcome) where
  -- ---- what stays as it is

  same_is : (a b : Outcome) → same_outcome a b ≡ true → a ≡ b
  same_is a b e = (outcome_decides a b).0 e

  quiet_by : (n : NodeId) (x : Outcome) (w : Watch) → x ≡ shows n → tells_none w (shows n) ≡ true → IsQuiet shows (by_fields n true (Some x) w)
  quiet_by n x Off is e = record { silent = refl; still = ap (λ y. by_fields n true (Some y) Off) (sym is) }
  quiet_by n x Fresh is e = no_bool e
  quiet_by n x (Since old) is e = record {
    silent = ap (λ b. cond {A = Option Told} b None (Some (change old (shows n)))) e;
    still = ap (λ y. by_fields n true (Some y) (Since (shows n))) (sym is) ∙ ap (λ y. by_fields n true (Some x) (Since y)) (sym (same_is old (shows n) e));
  }

  left_by : (n : NodeId) (used : Bool) (shown : Option Outcome) (w : Watch) → is_left (shows n) (by_fields n used shown w) ≡ true
      → IsQuiet shows (by_fields n used shown w)
  left_by n false shown w e = record { silent = refl; still = refl }
  left_by n true None w e = no_bool e
  left_by n true (Some x) w e = both (same_outcome x (shows n)) refl
    where
      both : (b : Bool) → same_outcome x (shows n) ≡ b → IsQuiet shows (by_fields n true (Some x) w)
      both true is = quiet_by n x w (same_is x (shows n) is) (ap (λ b. b && tells_none w (shows n)) (sym is) ∙ e)
      both false is = no_bool (ap (λ b. b && tells_none w (shows n)) (sym is) ∙ e)

  pub left_is_quiet : (o : Observer) → is_left (shows o.node) o ≡ true → IsQuiet shows o
  left_is_quiet o e = left_by o.node o.in_use o.shown o.watch e

  -- ---- who isn't due

  told_none : (n : NodeId) (x : Outcome) (w : Watch) → x ≡ shows n → is_fresh w ≡ false → IsToldShown w (Some x) → tells_none w (shows n) ≡ true
  told_none n x Off is e told = refl
  told_none n x Fresh is e told = no_bool (sym e)
  told_none n x (Since old) is e told = (outcome_decides old (shows n)).1 (ap (λ o. elim o [ None ↦ old | Some y ↦ y ]) (sym told) ∙ is)

  waits_not : (n : NodeId) (news : List NodeId) (used : Bool) (shown : Option Outcome) (w : Watch) (P : Type 0)
      → (awaits (by_fields n used shown w) ≡ true → P) → (used ≡ true → Among n news → P)
      → ((x : Outcome) → used ≡ true → shown ≡ Some x → Among n news ⊎ (shows n ≡ x)) → IsToldShown w shown
      → P ⊎ IsQuiet shows (by_fields n used shown w)
  waits_not n news false shown w P due_by news_by current told = inr (record { silent = refl; still = refl })
  waits_not n news true None w P due_by news_by current told = inl (due_by refl)
  waits_not n news true (Some x) w P due_by news_by current told = fresh (is_fresh w) refl
    where
      fresh : (b : Bool) → is_fresh w ≡ b → P ⊎ IsQuiet shows (by_fields n true (Some x) w)
      fresh true is = inl (due_by is)
      fresh false is = elim (current x refl refl) [
        | inl new ↦ inl (news_by refl new)
        | inr same ↦ inr (quiet_by n x w (sym same) (told_none n x w (sym same) is told))
      ]

  pub covered : (made : List Observer) (news : List NodeId) (due : List ℕ) → AwaitingAreDue made due → CoversNews made news due
      → ShowWhatWasTold made → IsCurrent shows news made → CoversAll shows made due
  covered made news due waiting covers told current i o there =
      waits_not o.node news o.in_use o.shown o.watch (Among i due) (waiting i o there) (covers i o there)
      (λ x used shown. current o x (among_at made i o there) used shown) (told i o there)

-- ---- who needs memory

used_by : (n : NodeId) (used : Bool) (shown : Option Outcome) (w : Watch) (now : Outcome) → is_left now (by_fields n used shown w) ≡ false → used ≡ true
used_by n true shown w now e = refl
used_by n false shown w now e = no_bool (sym e)

-- an observer that doesn't stay as it is is in use
pub is_used_then : (o : Observer) (now : Outcome) → is_left now o ≡ false → o.in_use ≡ true
is_used_then o now e = used_by o.node o.in_use o.shown o.watch now e

told_still : (w : Watch) (now : Outcome) → watch_after w now ≡ w → tells_none w now ≡ true
told_still Off now e = refl
told_still Fresh now e = absurd (let f : Since now ≡ Fresh = e in cc)
told_still (Since old) now e = (outcome_decides old now).1 (let f : Since now ≡ Since old = e in cc)

still_left : (n : NodeId) (s : Option Outcome) (w : Watch) (now : Outcome) → Some now ≡ s → watch_after w now ≡ w → is_left now (by_fields n true s w) ≡ true
still_left n s w now shown watch =
    subst (λ (t : Option Outcome). is_left now (by_fields n true t w) ≡ true) shown
    (ap (λ b. b && tells_none w now) ((outcome_decides now now).1 refl) ∙ told_still w now watch)

moves_by : (n : NodeId) (used : Bool) (s : Option Outcome) (w : Watch) (now : Outcome) → is_left now (by_fields n used s w) ≡ false
    → after now (by_fields n used s w) ≡ by_fields n used s w → ⊥
moves_by n false s w now e same = no_bool (sym e)
moves_by n true s w now e same = no_bool (sym e ∙ still_left n s w now (ap (λ (o : Observer). o.shown) same) (ap (λ (o : Observer). o.watch) same))

module _ (shows : NodeId → Outcome) (o : Observer) (light : IsLight shows o) (moves : is_left (shows o.node) o ≡ false) where
  -- such an observer's new outcome is no text, and neither is what was told of it last
  pub light_then : IsNoText (shows o.node) × IsToldNoText o.watch
  light_then = elim (light (is_used_then o (shows o.node) moves)) [
    | inl same ↦ absurd (moves_by o.node o.in_use o.shown o.watch (shows o.node) moves same)
    | inr both ↦ both
  ]
