-- An accepted stabilize keeps a state valid.
use Rattle.std.proofs.Common.{◌≡◌, ◌⊎◌, inl, inr, ℕ, zero, suc, ◌+◌, true, false, ◌&&◌, List, [], ◌∷◌, length, slice_get, Option, None, Some, refl, sym, ◌∙◌, ap, subst, arith}
use Rattle.std.specs.Prelude as std
use Rattle.std.specs.List.{sum_by}
use Rattle.std.proofs.lemmas.List.Sums.{sum_by-cons}
use Rattle.inc_value.specs.declared.function.FnRef.{FnRef}
use Rattle.inc_value.specs.declared.ty.Ty.{Ty}
use Rattle.script_model.specs.Check.{target_of_body}
use Rattle.inc_value.specs.Choice.{Every}
use Rattle.script_model.specs.Values.{Value, Outcome, Val, Invalid, same_outcome, same_kept}
use Rattle.script_model.specs.Formula as model
use Rattle.script_model.specs.Formula.{Formula, Kept, Body, Entry, Observer, Watch, State, Meanings, entry_at, built_at, bind_of, places_of_body, Bind, Variable, Computed, Freeze, After, Expert, Grab, Unwatched, Fresh, Told}
use Rattle.script_model.specs.Evaluate.{Gives, NameGives, truth_of}
use Rattle.script_model.specs.Need.{Place, Left, ItemGives, Met}
use Rattle.script_model.specs.Settle.{ShowAll, showing, watch_after, recorded, Builds, Becomes, BecomeAll, Settles, Notice}
use Rattle.script_model.specs.Valid.{HasType, OutcomeHasType, BuiltFits, BodyHasType, ValidEntry, WatchFits, ValidObserver, Valid, KeepToTypes}
use Rattle.script_model.proofs.Effects.{stands_where, told_where}
use Rattle.script_model.proofs.Growing.{Grows, every_lasts, type_lasts, held_lasts, outcome_lasts, name_lasts, grab_lasts, built_lasts}
use Rattle.script_model.proofs.Places.{same_values}
use Rattle.script_model.proofs.Typing.{some_is, both}
use Rattle.script_model.proofs.TypedValues.{values_have_types}

-- ---- what becomes of a body

-- equal outcomes are told apart from all others
same_outcomes : (o p : Outcome) → same_outcome o p ≡ true → o ≡ p
same_outcomes (Val v) (Val w) e = ap (λ x. Val x) (same_values v w e)
same_outcomes Invalid Invalid e = refl
same_outcomes (Val v) Invalid e = absurd (cc)
same_outcomes Invalid (Val w) e = absurd (cc)

same_kepts : (a b : Option Outcome) → same_kept a b ≡ true → a ≡ b
same_kepts None None e = refl
same_kepts (Some o) (Some p) e = ap (λ x. Some x) (same_outcomes o p e)
same_kepts None (Some p) e = absurd (cc)
same_kepts (Some o) None e = absurd (cc)

module _ (F : Meanings) (before s after : State) (n : ℕ) where
  becomes_bind : (b b' : Body) (p : Formula × Formula) → Becomes F before s after n b b' → bind_of b ≡ Some p → bind_of b' ≡ Some p
  becomes_bind (Computed (Bind left body) kept) b' p h is = rw h.1 is
  becomes_bind b b' p h is = absurd (cc)

  becomes_live : (b b' : Body) (bind : ℕ) (v : Value) → Becomes F before s after n b b' → b' ≡ Grab bind v true → b ≡ Grab bind v true
  becomes_live (Variable w) b' bind v h is = absurd (cc)
  becomes_live (Computed f was) b' bind v h is = let same = h.1 in absurd (cc)
  becomes_live (Freeze child predicate (Some w)) b' bind v h is = absurd (cc)
  becomes_live (Freeze child predicate None) b' bind v h is = let same = h.2 in absurd (cc)
  becomes_live (After t) b' bind v h is = absurd (cc)
  becomes_live (model.Every base span) b' bind v h is = absurd (cc)
  becomes_live (Expert f first links stale) b' bind v h is = absurd (cc)
  becomes_live (Grab b w true) b' bind v h is =
      let binds : b ≡ bind = cc in
      let values : w ≡ v = cc in
      rw (binds, values) refl
  becomes_live (Grab b w false) b' bind v h is = absurd (cc)

  becomes_target : (b b' : Body) (m : ℕ) → Becomes F before s after n b b' → target_of_body m b' ≡ target_of_body m b
  becomes_target (Variable w) b' m h = rw h refl
  becomes_target (Computed f was) b' m h = rw h.1 (by_formula f)
    where
      by_formula : (g : Formula) → target_of_body m (Computed g h.0) ≡ target_of_body m (Computed g was)
      by_formula (model.Name target) = refl
      by_formula g = refl
  becomes_target (Freeze child predicate (Some w)) b' m h = rw h refl
  becomes_target (Freeze child predicate None) b' m h = rw h.2 refl
  becomes_target (After t) b' m h = rw h refl
  becomes_target (model.Every base span) b' m h = rw h refl
  becomes_target (Expert f first links stale) b' m h = rw h refl
  becomes_target (Grab b w is_live) b' m h = rw h refl

  becomes_places : (b b' : Body) → Becomes F before s after n b b' → places_of_body b' ≡ places_of_body b
  becomes_places (Variable w) b' h = rw h refl
  becomes_places (Computed f was) b' h = rw h.1 refl
  becomes_places (Freeze child predicate (Some w)) b' h = rw h refl
  becomes_places (Freeze child predicate None) b' h = rw h.2 refl
  becomes_places (After t) b' h = rw h refl
  becomes_places (model.Every base span) b' h = rw h refl
  becomes_places (Expert f first links stale) b' h = rw h refl
  becomes_places (Grab b w is_live) b' h = rw h refl

-- ---- which declaration became which

module _ (F : Meanings) (before s after : State) where
  -- what a declaration was before, and what became of it
  record Became (n : ℕ) (xs : List Entry) (at : ℕ) (y : Entry) : Type 0 where
    entry : Entry
    stood : slice_get xs at ≡ Some entry
    body : Body
    is : y ≡ record entry { body = body }
    becomes : Becomes F before s after n entry.body body

  was_from : (k j : ℕ) (xs ys : List Entry) → BecomeAll F before s after k xs ys → (n : ℕ) (y : Entry) → j ≡ k + n
      → slice_get ys n ≡ Some y → Became j xs n y
  was_from k j [] [] h n y at is = absurd (cc)
  was_from k j [] (z ∷ ys) h n y at is = absurd h
  was_from k j (x ∷ xs) [] h n y at is = absurd h
  was_from k j (x ∷ xs) (z ∷ ys) h zero y at is =
      let here : k ≡ j = omega (arith, at) in
      record {
        entry = x;
        stood = refl;
        body = h.0.0;
        is = sym (some_is z y is) ∙ h.0.1;
        becomes = subst (λ m. Becomes F before s after m x.body h.0.0) here h.0.2;
      }
  was_from k j (x ∷ xs) (z ∷ ys) h (suc n) y at is =
      let rest = was_from (suc k) j xs ys h.1 n y (omega (arith, at)) is in
      record { entry = rest.entry; stood = rest.stood; body = rest.body; is = rest.is; becomes = rest.becomes }

  -- what stands where a declaration stood
  record Becoming (n : ℕ) (ys : List Entry) (at : ℕ) (x : Entry) : Type 0 where
    body : Body
    stands : slice_get ys at ≡ Some (record x { body = body })
    becomes : Becomes F before s after n x.body body

  will_from : (k j : ℕ) (xs ys : List Entry) → BecomeAll F before s after k xs ys → (n : ℕ) (x : Entry) → j ≡ k + n
      → slice_get xs n ≡ Some x → Becoming j ys n x
  will_from k j [] ys h n x at is = absurd (cc)
  will_from k j (z ∷ xs) [] h n x at is = absurd h
  will_from k j (z ∷ xs) (y ∷ ys) h zero x at is =
      let here : k ≡ j = omega (arith, at) in
      rw (← some_is z x is) (record {
        body = h.0.0;
        stands = ap (λ (e : Entry). Some e) h.0.1;
        becomes = subst (λ m. Becomes F before s after m z.body h.0.0) here h.0.2;
      })
  will_from k j (z ∷ xs) (y ∷ ys) h (suc n) x at is =
      let rest = will_from (suc k) j xs ys h.1 n x (omega (arith, at)) is in
      record { body = rest.body; stands = rest.stands; becomes = rest.becomes }

  same_length : (k : ℕ) (xs ys : List Entry) → BecomeAll F before s after k xs ys → length ys ≡ length xs
  same_length k [] [] h = refl
  same_length k [] (y ∷ ys) h = absurd h
  same_length k (x ∷ xs) [] h = absurd h
  same_length k (x ∷ xs) (y ∷ ys) h = ap suc (same_length (suc k) xs ys h.1)

  -- the places of a declaration
  abbrev places_in_entry : Entry → ℕ
  places_in_entry e = places_of_body e.body

  same_places : (k : ℕ) (xs ys : List Entry) → BecomeAll F before s after k xs ys → sum_by places_in_entry ys ≡ sum_by places_in_entry xs
  same_places k [] [] h = refl
  same_places k [] (y ∷ ys) h = absurd h
  same_places k (x ∷ xs) [] h = absurd h
  same_places k (x ∷ xs) (y ∷ ys) h =
      let first : places_in_entry y ≡ places_in_entry x = rw h.0.1 (becomes_places F before s after k x.body h.0.0 h.0.2) in
      let rest = same_places (suc k) xs ys h.1 in
      sum_by-cons places_in_entry y ys ∙ rw (first, rest) (sym (sum_by-cons places_in_entry x xs))

-- ---- a stabilize

module _ (F : Meanings) (before s after : State) (notices : List Notice) (keep : KeepToTypes F) (valid : Valid F s)
    (settles : Settles F before s after notices) where
  became : (n : ℕ) (y : Entry) → entry_at after n ≡ Some y → Became F before s after n s.entries n y
  became n y is = was_from F before s after 0 n s.entries after.entries settles.entries n y (omega arith) is

  will : (n : ℕ) (x : Entry) → entry_at s n ≡ Some x → Becoming F before s after n after.entries n x
  will n x is = will_from F before s after 0 n s.entries after.entries settles.entries n x (omega arith) is

  settles_grow : Grows s after
  settles_grow = record {
    keeps = λ n e is.
        let now = will n e is in
        record { entry = record e { body = now.body }; stands = now.stands; same_type = refl; same_target = refl };
    longer = let e = same_length F before s after 0 s.entries after.entries settles.entries in omega (arith, e);
    later = let e = settles.now in omega (arith, e);
    binds = λ n p is.
        let there = stands_where s bind_of n p is in
        let now = will n there.0 there.1 in
        told_where after bind_of n p (record there.0 { body = now.body }) now.stands
        (becomes_bind F before s after n there.0.body now.body p now.becomes there.2);
    live = λ n bind v h.
        let was = became n h.entry h.stands in
        let body : was.body ≡ Grab bind v true = rw was.is at h.is in
        inl (record { entry = was.entry; stands = was.stood; is = becomes_live F before s after n was.entry.body was.body bind v was.becomes body });
  }

  -- what a formula without binds round it gives
  given_has : (n : ℕ) (f : Formula) (t : Ty) (o : Outcome) → HasType F s n [] f t → Gives F s [] f o → OutcomeHasType after o t
  given_has n f t o has gives = outcome_lasts s after settles_grow o t (values_have_types F s keep valid n [] [] f t o tt has gives)

  -- the left of a bind that is the whole formula of a `let`
  left_gives : (n : ℕ) (left body : Formula) (kept : Kept) (o : Outcome) (e : Entry) → entry_at s n ≡ Some e → e.body ≡ Computed (Bind left body) kept
      → ItemGives F s (Place n (Left ∷ [])) o → Gives F s [] left o
  left_gives n left body kept o e stands is gives = (gives.0, rw (stands, is) at gives.1)

  built_has : (n : ℕ) (f : Formula) (was now : Kept) (e : Entry) (t : Ty) → entry_at s n ≡ Some e → e.body ≡ Computed f was
      → Builds F before s n f was.built now.built
      → HasType F s n [] f t → BuiltFits F s n f was → BuiltFits F after n f now
  built_has n (Bind left body) was now e t stands is h has fits = by_either h.either
    where
      by_either : (now.built ≡ was.built) ⊎ ((o : Outcome) × Met F before s (Place n (Left ∷ [])) × ItemGives F s (Place n (Left ∷ [])) o × (now.built ≡ Some o))
          → BuiltFits F after n (Bind left body) now
      by_either (inr (o, met, gives, built)) =
          λ p there.
          let same = some_is o p (sym built ∙ there) in
          let given = given_has n left has.0 o has.1 (left_gives n left body was o e stands is gives) in
          (has.0, type_lasts s after settles_grow F n [] left has.0 has.1, rw (← same) given)
      by_either (inl built) = λ p there. built_lasts s after settles_grow F n (Bind left body) was fits p (sym built ∙ there)
  built_has n f was now e t stands is same has fits = same ∙ fits

  -- a value that a freeze records
  recorded_is : (predicate : FnRef) (o : Outcome) (v : Value) → recorded F predicate o ≡ Some v → o ≡ Val v
  recorded_is predicate Invalid v is = absurd (cc)
  recorded_is predicate (Val w) v is = go (truth_of (F.value predicate (w ∷ []))) is
    where
      go : (b : Option std.Bool) → elim b [ Some true ↦ Some w | _ ↦ None ] ≡ Some v → Val w ≡ Val v
      go (Some true) e = ap (λ x. Val x) (some_is w v e)
      go (Some false) e = absurd (cc)
      go None e = absurd (cc)

  becomes_has : (n : ℕ) (e : Entry) (b b' : Body) (t : Ty) → entry_at s n ≡ Some e → e.body ≡ b
      → Becomes F before s after n b b' → BodyHasType F s n b t → BodyHasType F after n b' t
  becomes_has n e (Variable v) b' t stands is h has = rw h (held_lasts s after settles_grow v t has)
  becomes_has n e (Computed f was) b' t stands is h has =
      rw h.1 (type_lasts s after settles_grow F n [] f t has.0, built_has n f was h.0 e t stands is h.2.built has.0 has.1)
  becomes_has n e (Freeze child predicate (Some v)) b' t stands is h has =
      rw h (type_lasts s after settles_grow F n [] child t has.0, has.1, has.2, has.3, λ w there. held_lasts s after settles_grow w t (has.4 w there))
  becomes_has n e (Freeze child predicate None) b' t stands is h has =
      let given = given_has n child t h.0 has.0 h.1 in
      rw h.2 (type_lasts s after settles_grow F n [] child t has.0, has.1, has.2, has.3, λ v there. rw (recorded_is predicate h.0 v there) at given)
  becomes_has n e (After time) b' t stands is h has = rw h has
  becomes_has n e (model.Every base span) b' t stands is h has = rw h (has.0, has.1, rw settles.now has.2)
  becomes_has n e (Expert f first links stale) b' t stands is h has =
      rw h (
        has.0,
        has.1,
        has.2,
        held_lasts s after settles_grow first t has.3,
        every_lasts _ _ (λ m. name_lasts s after settles_grow (length s.entries) (length after.entries) m has.0 settles_grow.longer) links has.4,
        has.5,
      )
  becomes_has n e (Grab bind v is_live) b' t stands is h has =
      rw h (grab_lasts s after settles_grow F n bind v is_live (is_live && same_kept (built_at s bind) (built_at after bind)) t
      (λ live. let parts = both is_live (same_kept (built_at s bind) (built_at after bind)) live in
      (parts.0, λ built. sym (same_kepts (built_at s bind) (built_at after bind) parts.1) ∙ built))
      (λ live. record { entry = e; stands = stands; is = is ∙ rw live refl }) has)

  entry_valid : (n : ℕ) (y : Entry) → entry_at after n ≡ Some y → ValidEntry F after n y
  entry_valid n y is =
      let was = became n y is in
      let old = valid.entries n was.entry was.stood in
      rw was.is (record {
        typed = becomes_has n was.entry was.entry.body was.body was.entry.ty was.stood refl was.becomes old.typed;
        target_is = old.target_is ∙ sym (becomes_target F before s after n was.entry.body was.body n was.becomes);
      })

  -- ---- observers

  told_fits : (t : Ty) (w : Watch) (o : Outcome) → OutcomeHasType after o t → WatchFits after t (watch_after w o)
  told_fits t Unwatched o has = tt
  told_fits t Fresh o has = has
  told_fits t (Told was) o has = has

  shows_valid : (x : Observer) (o : Outcome) → ValidObserver s x → NameGives F s x.target o → ValidObserver after (showing x o)
  shows_valid x o h gives =
      let has = given_has (length s.entries) (model.Name x.target) h.ty o h.target gives in
      record {
        ty = h.ty;
        target = name_lasts s after settles_grow (length s.entries) (length after.entries) x.target h.ty settles_grow.longer h.target;
        shown = λ p is. rw (some_is o p is) at has;
        watch = told_fits h.ty x.watch o has;
      }

  show_all_valid : (xs ys : List Observer) (ns : List Notice) → ShowAll F s xs ys ns → Every (ValidObserver s) xs → Every (ValidObserver after) ys
  show_all_valid [] [] ns h every = tt
  show_all_valid [] (y ∷ ys) ns h every = absurd h
  show_all_valid (x ∷ xs) [] ns h every = absurd h
  show_all_valid (x ∷ xs) (y ∷ ys) ns h every = (rw h.3 (shows_valid x h.0 every.0 h.2), show_all_valid xs ys h.1 h.5 every.1)

  pub settles_valid : Valid F after
  settles_valid = record {
    entries = entry_valid;
    observers = show_all_valid s.observers after.observers notices settles.observers valid.observers;
    now = rw settles.now valid.now;
    places = rw (same_places F before s after 0 s.entries after.entries settles.entries) valid.places;
  }
