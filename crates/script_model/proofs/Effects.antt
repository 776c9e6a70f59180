-- What a command changes keeps a state valid.
use Rattle.std.proofs.Common.{◌≡◌, ◌⊎◌, inl, inr, ℕ, zero, suc, ◌+◌, ◌<◌, ◌≤◌, ◌^◌, true, List, [], ◌∷◌, ◌++◌, length, slice_get, Option, Some, refl, sym, ◌∙◌, ap, arith}
use Rattle.std.specs.List.{sum_by}
use Rattle.std.proofs.lemmas.List.{length-append}
use Rattle.std.proofs.lemmas.List.Sums.{sum_by-append, sum_by-cons}
use Rattle.inc_value.specs.declared.ty.Ty.{Ty}
use Rattle.script_model.specs.Check.{target_of_body}
use Rattle.inc_value.specs.Choice.{and_then, Every}
use Rattle.script_model.specs.Values.{Value}
use Rattle.script_model.specs.Formula.{Body, Entry, State, Meanings, entry_at, body_at, bind_of, built_of_body, places_of, places_of_body, Grab}
use Rattle.script_model.specs.Step.{with_body, changed_at, declared_in}
use Rattle.script_model.specs.Valid.{BodyHasType, ValidEntry, ValidObserver, Valid}
use Rattle.script_model.proofs.Growing.{LiveGrab, NoneLives, Grows, BuiltStay, every_lasts, body_lasts, entry_lasts, observer_lasts}
use Rattle.script_model.proofs.Typing.{then_some, some_is}

-- ---- positions

pub get_front : (es : List Entry) (e x : Entry) (n : ℕ) → slice_get es n ≡ Some x → slice_get (es ++ e ∷ []) n ≡ Some x
get_front [] e x n is = absurd (cc)
get_front (y ∷ es) e x zero is = is
get_front (y ∷ es) e x (suc n) is = get_front es e x n is

-- one of the front, or the last
pub get_either : (es : List Entry) (e x : Entry) (n : ℕ) → slice_get (es ++ e ∷ []) n ≡ Some x
    → (slice_get es n ≡ Some x) ⊎ ((n ≡ length es) × (x ≡ e))
get_either [] e x zero is = inr (refl, cc)
get_either [] e x (suc n) is = absurd (cc)
get_either (y ∷ es) e x zero is = inl is
get_either (y ∷ es) e x (suc n) is = elim (get_either es e x n is) [
  | inl front ↦ inl front
  | inr last ↦ let same : suc n ≡ suc (length es) = ap suc last.0 in inr (same, last.1)
]

-- what stands where something is told of a body
pub stands_where : {A : Type 0} (s : State) (f : Body → Option A) (n : ℕ) (x : A) → and_then (body_at s n) f ≡ Some x
    → (e : Entry) × (entry_at s n ≡ Some e) × (f e.body ≡ Some x)
stands_where s f n x is =
    let body = then_some (body_at s n) f x is in
    let entry = then_some (entry_at s n) (λ e. Some e.body) body.0 body.1 in
    let same = some_is entry.0.body body.0 entry.2 in
    (entry.0, entry.1, rw same body.2)

pub told_where : {A : Type 0} (s : State) (f : Body → Option A) (n : ℕ) (x : A) (e : Entry) → entry_at s n ≡ Some e
    → f e.body ≡ Some x → and_then (body_at s n) f ≡ Some x
told_where s f n x e stands is = rw stands is

-- ---- states with the same declarations

same_grows : (s s' : State) → s'.entries ≡ s.entries → s.now ≤ s'.now → Grows s s'
same_grows s s' same later = record {
  keeps = λ n e is. record { entry = e; stands = rw same is; same_type = refl; same_target = refl };
  longer = let e = ap (λ (es : List Entry). length es) same in omega (arith, e);
  later = later;
  binds = λ n p is. rw same is;
  live = λ n bind v h. inl (record { entry = h.entry; stands = rw same at h.stands; is = h.is });
}

-- the clock goes on, and observers are others
pub keeps_entries : (F : Meanings) (s s' : State) → Valid F s → s'.entries ≡ s.entries → s.now ≤ s'.now → s'.now < 2 ^ 63
    → Every (ValidObserver s) s'.observers → Valid F s'
keeps_entries F s s' valid same later small observers =
    let grows = same_grows s s' same later in
    record {
      entries = λ n e is. entry_lasts s s' grows F n e (λ m o built. rw same built) (rw same at is) (valid.entries n e (rw same at is));
      observers = every_lasts _ _ (observer_lasts s s' grows) s'.observers observers;
      now = small;
      places = rw same valid.places;
    }

-- ---- a declaration more

module _ (F : Meanings) (s : State) (name : List ℕ) (t : Ty) (body : Body) where
  -- the state with the declaration
  abbrev next : State
  next = declared_in s name t body

  -- the declaration
  abbrev added : Entry
  added = record { name = name; ty = t; target = target_of_body (length s.entries) body; body = body }

  -- a grab that lives is the only one of its bind
  abbrev pub Alone : Type 0
  Alone = (bind : ℕ) (v : Value) → body ≡ Grab bind v true → NoneLives s bind

  pub declares_grow : Alone → Grows s next
  declares_grow alone = record {
    keeps = λ n e is. record { entry = e; stands = get_front s.entries added e n is; same_type = refl; same_target = refl };
    longer = let e = length-append s.entries (added ∷ []) in omega (arith, e);
    later = omega arith;
    binds = λ n p is.
        let there = stands_where s bind_of n p is in
        told_where next bind_of n p there.0 (get_front s.entries added there.0 n there.1) there.2;
    live = λ n bind v h. elim (get_either s.entries added h.entry n h.stands) [
      | inl front ↦ inl (record { entry = h.entry; stands = front; is = h.is })
      | inr last ↦ inr (alone bind v (rw last.1 at h.is))
    ];
  }

  pub built_stay : BuiltStay s next
  built_stay n o is =
      let there = stands_where s built_of_body n o is in
      told_where next built_of_body n o there.0 (get_front s.entries added there.0 n there.1) there.2

  pub declares_valid : Valid F s → Alone → BodyHasType F next (length s.entries) body t → places_of s + places_of_body body ≤ 1048575 → Valid F next
  declares_valid valid alone typed room = record {
    entries = each;
    observers = every_lasts _ _ (observer_lasts s next (declares_grow alone)) s.observers valid.observers;
    now = valid.now;
    places = let e = sum_by-append (λ (x : Entry). places_of_body x.body) s.entries (added ∷ []) in omega (arith, e, room);
  }
    where
      each : (n : ℕ) (x : Entry) → entry_at next n ≡ Some x → ValidEntry F next n x
      each n x is = elim (get_either s.entries added x n is) [
        | inl front ↦ entry_lasts s next (declares_grow alone) F n x built_stay front (valid.entries n x front)
        | inr last ↦ rw (last.0, last.1) (record { typed = typed; target_is = refl })
      ]

  -- a body that is no grab, with its type before
  pub plain_declares_valid : Valid F s → ((bind : ℕ) (v : Value) → body ≡ Grab bind v true → ⊥)
      → BodyHasType F s (length s.entries) body t → places_of s + places_of_body body ≤ 1048575 → Valid F next
  plain_declares_valid valid plain typed room =
      let alone : Alone = λ bind v is. absurd (plain bind v is) in
      let lives : (bind : ℕ) (v : Value) → body ≡ Grab bind v true → LiveGrab s (length s.entries) bind v = λ bind v is. absurd (plain bind v is) in
      declares_valid valid alone (body_lasts s next (declares_grow alone) F (length s.entries) body t built_stay lives typed) room

-- ---- another body

-- a body that differs in nothing that others see of it
pub record Alike (b b' : Body) : Type 0 where
  pub binds : bind_of b' ≡ bind_of b
  pub built : built_of_body b' ≡ built_of_body b
  pub target : (n : ℕ) → target_of_body n b' ≡ target_of_body n b
  pub live : (bind : ℕ) (v : Value) → b' ≡ Grab bind v true → b ≡ Grab bind v true
  pub places : places_of_body b' ≡ places_of_body b

pub alike_refl : (b : Body) → Alike b b
alike_refl b = record { binds = refl; built = refl; target = λ n. refl; live = λ bind v is. is; places = refl }

-- a declaration at another position stays, and the one there has the other body
changed_keeps : (change : Body → Body) (es : List Entry) (n m : ℕ) (e : Entry) → slice_get es m ≡ Some e
    → (slice_get (with_body change es n) m ≡ Some e)
    ⊎ ((slice_get es n ≡ Some e) × (slice_get (with_body change es n) m ≡ Some (record e { body = change e.body })))
changed_keeps change [] n m e is = absurd (cc)
changed_keeps change (y ∷ es) zero zero e is = let same : y ≡ e = cc in inr (is, rw same refl)
changed_keeps change (y ∷ es) zero (suc m) e is = inl is
changed_keeps change (y ∷ es) (suc n) zero e is = inl is
changed_keeps change (y ∷ es) (suc n) (suc m) e is = elim (changed_keeps change es n m e is) [ inl other ↦ inl other | inr there ↦ inr there ]

changed_was : (change : Body → Body) (es : List Entry) (n m : ℕ) (x : Entry) → slice_get (with_body change es n) m ≡ Some x
    → (slice_get es m ≡ Some x) ⊎ ((m ≡ n) × (e : Entry) × (slice_get es n ≡ Some e) × (x ≡ record e { body = change e.body }))
changed_was change [] n m x is = absurd (cc)
changed_was change (e ∷ es) zero zero x is = inr (refl, e, refl, cc)
changed_was change (e ∷ es) zero (suc m) x is = inl is
changed_was change (e ∷ es) (suc n) zero x is = inl is
changed_was change (e ∷ es) (suc n) (suc m) x is = elim (changed_was change es n m x is) [
  | inl other ↦ inl other
  | inr there ↦ inr (ap suc there.0, there.1, there.2, there.3)
]

length-with_body : (change : Body → Body) (es : List Entry) (n : ℕ) → length (with_body change es n) ≡ length es
length-with_body change [] n = refl
length-with_body change (e ∷ es) zero = refl
length-with_body change (e ∷ es) (suc n) = ap suc (length-with_body change es n)

-- the places of a declaration
abbrev places_in_entry : Entry → ℕ
places_in_entry e = places_of_body e.body

places_stay : (change : Body → Body) (es : List Entry) (n : ℕ)
    → ((e : Entry) → slice_get es n ≡ Some e → places_of_body (change e.body) ≡ places_of_body e.body)
    → sum_by places_in_entry (with_body change es n) ≡ sum_by places_in_entry es
places_stay change [] n same = refl
places_stay change (y ∷ es) zero same =
    sum_by-cons places_in_entry (record y { body = change y.body }) es
    ∙ ap (λ k. k + sum_by places_in_entry es) (same y refl) ∙ sym (sum_by-cons places_in_entry y es)
places_stay change (y ∷ es) (suc n) same =
    sum_by-cons places_in_entry y (with_body change es n)
    ∙ ap (λ k. places_in_entry y + k) (places_stay change es n same) ∙ sym (sum_by-cons places_in_entry y es)

module _ (s : State) (n : ℕ) (change : Body → Body) (alike : (e : Entry) → entry_at s n ≡ Some e → Alike e.body (change e.body)) where
  -- the state with the other body
  abbrev changed : State
  changed = changed_at s n change

  -- what is told of bodies stays told, where the change keeps it
  told_stays : {A : Type 0} (f : Body → Option A) → ((b b' : Body) → Alike b b' → f b' ≡ f b) → (m : ℕ) (x : A)
      → and_then (body_at s m) f ≡ Some x → and_then (body_at changed m) f ≡ Some x
  told_stays f keeps m x is =
      let there = stands_where s f m x is in
      elim (changed_keeps change s.entries n m there.0 there.1) [
        | inl other ↦ told_where changed f m x there.0 other there.2
        | inr new ↦ told_where changed f m x (record there.0 { body = change there.0.body }) new.1
            (keeps there.0.body (change there.0.body) (alike there.0 new.0) ∙ there.2)
      ]

  changed_grows : Grows s changed
  changed_grows = record {
    keeps = λ m e is. elim (changed_keeps change s.entries n m e is) [
      | inl other ↦ record { entry = e; stands = other; same_type = refl; same_target = refl }
      | inr new ↦ record { entry = record e { body = change e.body }; stands = new.1; same_type = refl; same_target = refl }
    ];
    longer = let e = length-with_body change s.entries n in omega (arith, e);
    later = omega arith;
    binds = λ m p is. told_stays bind_of (λ b b' a. a.binds) m p is;
    live = λ m bind v h. elim (changed_was change s.entries n m h.entry h.stands) [
      | inl other ↦ inl (record { entry = h.entry; stands = other; is = h.is })
      | inr was ↦
          let stands : entry_at s m ≡ Some was.1 = rw (was.0, was.2) refl in
          inl (record { entry = was.1; stands = stands; is = (alike was.1 was.2).live bind v (rw was.3 at h.is) })
    ];
  }

  changed_built : BuiltStay s changed
  changed_built m o is = told_stays built_of_body (λ b b' a. a.built) m o is

  pub changes_valid : (F : Meanings) → Valid F s → ((e : Entry) → entry_at s n ≡ Some e → BodyHasType F s n (change e.body) e.ty) → Valid F changed
  changes_valid F valid typed = record {
    entries = each;
    observers = every_lasts _ _ (observer_lasts s changed changed_grows) s.observers valid.observers;
    now = valid.now;
    places = rw (places_stay change s.entries n (λ e is. (alike e is).places)) valid.places;
  }
    where
      new : (e : Entry) → entry_at s n ≡ Some e → ValidEntry F changed n (record e { body = change e.body })
      new e is = record {
        typed = body_lasts s changed changed_grows F n (change e.body) e.ty changed_built
            (λ bind v grab. record { entry = e; stands = is; is = (alike e is).live bind v grab }) (typed e is);
        target_is = (valid.entries n e is).target_is ∙ sym ((alike e is).target n);
      }

      each : (m : ℕ) (x : Entry) → entry_at changed m ≡ Some x → ValidEntry F changed m x
      each m x is = elim (changed_was change s.entries n m x is) [
        | inl other ↦ entry_lasts s changed changed_grows F m x changed_built other (valid.entries m x other)
        | inr was ↦ rw (was.0, was.3) (new was.1 was.2)
      ]
