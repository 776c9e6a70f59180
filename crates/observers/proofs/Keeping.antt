-- What observers keep while they are made, ended, watched and told of.
use Rattle.std.proofs.Common.{◌≡◌, ◌∙◌, ◌⊎◌, ℕ, suc, zero, ◌<◌, Bool, true, false, List, [], ◌∷◌, ◌++◌, length, refl, ap, sym, subst, inl, inr, arith, cond, Option, Some, None, slice_set, slice_index_or}
use Rattle.std.specs.Prelude.{slice_get, IsSome, ◌&&◌, Result, Ok, Err, OnOk, OnErr}
use Rattle.inc_value.specs.Choice.{Among}
use Rattle.inc_value.specs.declared.node.NodeId.{NodeId}
use Rattle.inc_value.specs.declared.outcome.Outcome.{Outcome}
use Rattle.point_map.specs.Rows.{Rows}
use Rattle.observers.specs.declared.observer.Observer.{Observer}
use Rattle.observers.specs.declared.observer.Watch.{Watch}
use Rattle.observers.specs.declared.observer.Watch.TheVariants.{Off, Fresh, Since}
use Rattle.observers.specs.declared.looking.Looking.{Looking}
use Rattle.observers.specs.Observers.{new_observer, looked_at, watched, watch_from, begun, told_by, after, watch_after}
use Rattle.observers.specs.Keeping.{LooksAll, AwaitingAreDue, ShowWhatWasTold, IsToldShown, KeepsListed, StayDue, listed_at, awaits, is_off, open_in}
use Rattle.observers.proofs.Lists.{some_is, no_some, no_bool, get_push, within}

-- ---- one more is made

pub looks_more : (xs : List Observer) (n : NodeId) (old new : Rows Looking) → KeepsListed old new → Among (length xs) (listed_at new n)
    → LooksAll xs old → LooksAll (xs ++ new_observer n ∷ []) new
looks_more xs n old new kept listed looks i o there used = elim (get_push xs (new_observer n) i o there) [
  | inl was ↦ kept i o.node (looks i o was used)
  | inr is ↦ subst (λ j. Among j (listed_at new o.node)) (sym is.0) (subst (λ (p : Observer). Among (length xs) (listed_at new p.node)) (sym is.1) listed)
]

pub due_more : (xs : List Observer) (n : NodeId) (old new : List ℕ) → StayDue old new → Among (length xs) new
    → AwaitingAreDue xs old → AwaitingAreDue (xs ++ new_observer n ∷ []) new
due_more xs n old new stay there waiting i o at e = elim (get_push xs (new_observer n) i o at) [
  | inl was ↦ stay i (waiting i o was e)
  | inr is ↦ subst (λ j. Among j new) (sym is.0) there
]

pub told_more : (xs : List Observer) (n : NodeId) → ShowWhatWasTold xs → ShowWhatWasTold (xs ++ new_observer n ∷ [])
told_more xs n told i o at = elim (get_push xs (new_observer n) i o at) [
  | inl was ↦ told i o was
  | inr is ↦ subst (λ (p : Observer). IsToldShown p.watch p.shown) (sym is.1) tt
]

-- ---- one is ended

-- ---- one is watched

from_off : (u : Bool) (w : Watch) → (u && is_off w) ≡ true → Fresh ≡ watch_from w
from_off true Off e = refl
from_off true Fresh e = no_bool e
from_off true (Since o) e = no_bool e
from_off false w e = no_bool e

abbrev pub with_fresh : Observer → Observer
with_fresh o = record { node = o.node; in_use = o.in_use; shown = o.shown; watch = Fresh }

pub begun_at : (made : List Observer) (i : ℕ) (x : Observer) → open_in (slice_get made i) ≡ true → x ≡ slice_index_or made i x
    → slice_set made i (with_fresh x) ≡ watched i made
begun_at [] i x e is = no_bool e
begun_at (y ∷ made) zero x e is = ap (λ z. with_fresh z ∷ made) is
    ∙ ap (λ w. record { node = y.node; in_use = y.in_use; shown = y.shown; watch = w } ∷ made) (from_off y.in_use y.watch e)
begun_at (y ∷ made) (suc i) x e is = ap (λ ys. y ∷ ys) (begun_at made i x e is)

pub watched_length : (xs : List Observer) (k : ℕ) → length (watched k xs) ≡ length xs
watched_length [] k = refl
watched_length (x ∷ xs) zero = refl
watched_length (x ∷ xs) (suc k) = (let b = watched_length xs k in omega (arith, b))

pub get_watched : (xs : List Observer) (k i : ℕ) (o : Observer) → slice_get (watched k xs) i ≡ Some o
    → (x : Observer) × (slice_get xs i ≡ Some x) × ((x ≡ o) ⊎ ((i ≡ k) × (begun x ≡ o)))
get_watched [] k i o h = no_some o h
get_watched (x ∷ xs) zero zero o h = (x, refl, inr (refl, some_is (begun x) o h))
get_watched (x ∷ xs) zero (suc i) o h = (o, h, inl refl)
get_watched (x ∷ xs) (suc k) zero o h = (x, refl, inl (some_is x o h))
get_watched (x ∷ xs) (suc k) (suc i) o h = let r = get_watched xs k i o h in
    (r.0, r.1, elim r.2 [ inl e ↦ inl e | inr p ↦ inr (ap suc p.0, p.1) ])

pub looks_watched : (xs : List Observer) (k : ℕ) (looking : Rows Looking) → LooksAll xs looking → LooksAll (watched k xs) looking
looks_watched xs k looking looks i o there used =
    let r = get_watched xs k i o there in
    elim r.2 [
      | inl e ↦ subst (λ (p : Observer). Among i (listed_at looking p.node)) e (looks i r.0 r.1 (ap (λ (p : Observer). p.in_use) e ∙ used))
      | inr p ↦ subst (λ (q : Observer). Among i (listed_at looking q.node)) p.1 (looks i r.0 r.1 (ap (λ (q : Observer). q.in_use) p.1 ∙ used))
    ]

pub due_watched : (xs : List Observer) (k : ℕ) (old new : List ℕ) → StayDue old new → (k < length xs → Among k new) → AwaitingAreDue xs old
    → AwaitingAreDue (watched k xs) new
due_watched xs k old new stay there waiting i o at e =
    let r = get_watched xs k i o at in
    elim r.2 [
      | inl same ↦ stay i (waiting i r.0 r.1 (ap awaits same ∙ e))
      | inr p ↦ subst (λ j. Among j new) (sym p.0) (there (subst (λ j. j < length xs) p.0 (within xs i r.0 r.1)))
    ]

fresh_told : (w : Watch) (shown : Option Outcome) → IsToldShown w shown → IsToldShown (watch_from w) shown
fresh_told Off shown h = tt
fresh_told Fresh shown h = h
fresh_told (Since o) shown h = h

pub told_watched : (xs : List Observer) (k : ℕ) → ShowWhatWasTold xs → ShowWhatWasTold (watched k xs)
told_watched xs k told i o at =
    let r = get_watched xs k i o at in
    let x = r.0 in
    elim r.2 [
      | inl e ↦ subst (λ (p : Observer). IsToldShown p.watch p.shown) e (told i x r.1)
      | inr p ↦ subst (λ (q : Observer). IsToldShown q.watch q.shown) p.1 (fresh_told x.watch x.shown (told i x r.1))
    ]

still_watch : (u : Bool) (w : Watch) (n : NodeId) → IsSome (cond u (Some n) None) → (u && is_off w) ≡ false → w ≡ watch_from w
still_watch true Off n used e = no_bool (sym e)
still_watch true Fresh n used e = refl
still_watch true (Since o) n used e = refl
still_watch false w n used e = no_bool used

pub watched_still : (xs : List Observer) (k : ℕ) → IsSome (looked_at (slice_get xs k)) → open_in (slice_get xs k) ≡ false → xs ≡ watched k xs
watched_still [] k used e = refl
watched_still (x ∷ xs) zero used e =
    ap (λ w. record { node = x.node; in_use = x.in_use; shown = x.shown; watch = w } ∷ xs) (still_watch x.in_use x.watch x.node used e)
watched_still (x ∷ xs) (suc k) used e = ap (λ ys. x ∷ ys) (watched_still xs k used e)

-- ---- a round is told

module _ (shows : NodeId → Outcome) where
  pub told_length : (xs : List Observer) → length (told_by shows xs) ≡ length xs
  told_length [] = refl
  told_length (x ∷ xs) = (let b = told_length xs in omega (arith, b))

  get_told : (xs : List Observer) (i : ℕ) (o : Observer) → slice_get (told_by shows xs) i ≡ Some o
      → (x : Observer) × (slice_get xs i ≡ Some x) × (after (shows x.node) x ≡ o)
  get_told [] i o h = no_some o h
  get_told (x ∷ xs) zero o h = (x, refl, some_is (after (shows x.node) x) o h)
  get_told (x ∷ xs) (suc i) o h = get_told xs i o h

  node_after : (o : Observer) (now : Outcome) → (after now o).node ≡ o.node
  node_after o now = by o.in_use
    where
      by : (b : Bool) → (cond b (record { node = o.node; in_use = o.in_use; shown = Some now; watch = watch_after o.watch now }) o).node ≡ o.node
      by true = refl
      by false = refl

  used_after : (o : Observer) (now : Outcome) → (after now o).in_use ≡ o.in_use
  used_after o now = by o.in_use
    where
      by : (b : Bool) → (cond b (record { node = o.node; in_use = o.in_use; shown = Some now; watch = watch_after o.watch now }) o).in_use ≡ o.in_use
      by true = refl
      by false = refl

  pub looks_told : (xs : List Observer) (looking : Rows Looking) → LooksAll xs looking → LooksAll (told_by shows xs) looking
  looks_told xs looking looks i o there used =
      let was = get_told xs i o there in
      let x = was.0 in
      subst (λ n. Among i (listed_at looking n)) (sym (node_after x (shows x.node)) ∙ ap (λ (p : Observer). p.node) was.2)
      (looks i x was.1 (sym (used_after x (shows x.node)) ∙ ap (λ (p : Observer). p.in_use) was.2 ∙ used))

  awaits_none : (n : NodeId) (u : Bool) (s : Option Outcome) (w : Watch) (now : Outcome)
      → awaits (after now (record { node = n; in_use = u; shown = s; watch = w })) ≡ true → ⊥
  awaits_none n true s Off now e = no_bool e
  awaits_none n true s Fresh now e = no_bool e
  awaits_none n true s (Since o) now e = no_bool e
  awaits_none n false s w now e = no_bool e

  pub due_told : (xs : List Observer) (due : List ℕ) → AwaitingAreDue (told_by shows xs) due
  due_told xs due i o there e =
      let was = get_told xs i o there in
      let x = was.0 in
      absurd (awaits_none x.node x.in_use x.shown x.watch (shows x.node) (ap awaits was.2 ∙ e))

  told_after : (n : NodeId) (u : Bool) (s : Option Outcome) (w : Watch) (now : Outcome) → IsToldShown w s
      → IsToldShown (after now (record { node = n; in_use = u; shown = s; watch = w })).watch (after now (record { node = n; in_use = u; shown = s; watch = w })).shown
  told_after n true s Off now h = tt
  told_after n true s Fresh now h = refl
  told_after n true s (Since o) now h = refl
  told_after n false s w now h = h

  pub told_told : (xs : List Observer) → ShowWhatWasTold xs → ShowWhatWasTold (told_by shows xs)
  told_told xs told i o there =
      let was = get_told xs i o there in
      let x = was.0 in
      subst (λ (p : Observer). IsToldShown p.watch p.shown) was.2 (told_after x.node x.in_use x.shown x.watch (shows x.node) (told i x was.1))

  -- what is kept once a round ended, or found no memory
  pub record IsKept (looking : Rows Looking) (old new : List Observer) (due : List ℕ) : Type 0 where
    pub looks : LooksAll new looking
    pub waiting : AwaitingAreDue new due
    pub told : ShowWhatWasTold new
    pub few : length new ≡ length old

  pub kept_after : {T E : Type 0} (r : Result T E) (looking : Rows Looking) (old new : List Observer) (was due : List ℕ)
      → OnOk r (new ≡ told_by shows old) → OnErr r (new ≡ old) → OnErr r (StayDue was due)
      → LooksAll old looking → AwaitingAreDue old was → ShowWhatWasTold old → IsKept looking old new due
  kept_after (Ok x) looking old new was due ok err stay looks waiting told = record {
    looks = subst (λ m. LooksAll m looking) (sym ok) (looks_told old looking looks);
    waiting = subst (λ m. AwaitingAreDue m due) (sym ok) (due_told old due);
    told = subst ShowWhatWasTold (sym ok) (told_told old told);
    few = ap length ok ∙ told_length old;
  }
  kept_after (Err e) looking old new was due ok err stay looks waiting told = record {
    looks = subst (λ m. LooksAll m looking) (sym err) looks;
    waiting = subst (λ m. AwaitingAreDue m due) (sym err) (λ i o at e. stay i (waiting i o at e));
    told = subst ShowWhatWasTold (sym err) told;
    few = ap length err;
  }
