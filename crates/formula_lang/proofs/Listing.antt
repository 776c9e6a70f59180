-- Maps and sets by bytes, as lists of names.
use Rattle.std.proofs.Common.{◌≡◌, ℕ, zero, suc, ◌+◌, ◌≤◌, ◌<◌, Bool, true, false, ◌||◌, cond, if◌then◌else◌, List, [], ◌∷◌, ◌++◌, length, map, Option, None, Some, MatchOption, IfSome, ◌≢◌, ◌⊎◌, inl, inr, refl, sym, ◌∙◌, ap, arith}
use Rattle.std.proofs.lemmas.Iterator.Adapters.{position_from-zero}
use Rattle.std.proofs.lemmas.List.{map-append}
use Rattle.std.proofs.lemmas.Slice.Eq.{bytes_eq-Decides}
use Rattle.std.specs.List.{list_any, position, position_from, slice_get, swap_remove}
use Rattle.std.specs.Option.{option_map_or}
use Rattle.std.specs.Map.{keys_of, values_of}
use Rattle.std.specs.Str.{bytes_eq}
use Rattle.indexmap.proofs.SetLemmas.{map-swap_remove}
use Rattle.indexmap.specs.IndexMap.{insert_entry, swap_remove_by}
use Rattle.script_model.specs.Check as model
use Rattle.script_model.specs.Check.{first_named}
use Rattle.inc_value.specs.Choice.{Every, and_then}
use Rattle.formula_lang.specs.declared.names.Declared.{Declared}
use Rattle.formula_lang.specs.NamesView.{AreEarlier, AreKept, declared_in, declared_view}

-- ---- lists of bytes under another name

module _ {K : Type 0} (bytes_of : K → List ℕ) (name : List ℕ) where
  abbrev pub is_named : K → Bool
  is_named k = bytes_eq name (bytes_of k)

  pub list_any-named : (ks : List K) → list_any is_named ks ≡ list_any (bytes_eq name) (map bytes_of ks)
  list_any-named [] = refl
  list_any-named (k ∷ ks) = ap (λ b. bytes_eq name (bytes_of k) || b) (list_any-named ks)

-- ---- entries

-- a new name goes last
module _ {K : Type 0} (bytes_of : K → List ℕ) (eq : K → K → Bool) (same : (x y : K) → eq x y ≡ bytes_eq (bytes_of x) (bytes_of y)) (k : K)
    (v : Declared) where
  pub insert_entry-fresh : (es : List (K × Declared)) → Every (λ e. bytes_of e.0 ≡ e.1.name) es → first_named (bytes_of k) (declared_in es) ≡ None
      → insert_entry eq es k v ≡ es ++ (k, v) ∷ []
  insert_entry-fresh [] keys fresh = refl
  insert_entry-fresh (e ∷ es) keys fresh = go (bytes_eq (bytes_of k) e.1.name) refl fresh (insert_entry-fresh es keys.1)
    where
      go : (b : Bool) → bytes_eq (bytes_of k) e.1.name ≡ b → cond b (Some (declared_view e.1)) (first_named (bytes_of k) (declared_in es)) ≡ None
          → (first_named (bytes_of k) (declared_in es) ≡ None → insert_entry eq es k v ≡ es ++ (k, v) ∷ [])
          → insert_entry eq (e ∷ es) k v ≡ e ∷ (es ++ (k, v) ∷ [])
      go true is none rest = absurd (cc)
      go false is none rest =
          let other : eq k e.0 ≡ false = same k e.0 ∙ ap (bytes_eq (bytes_of k)) keys.0 ∙ is in
          rw other (ap (λ l. e ∷ l) (rest none))

-- what stands in a list with one more at its end
pushed : {A : Type 0} (xs : List A) (y : A) (i : ℕ) (x : A) → slice_get (xs ++ y ∷ []) i ≡ Some x
    → (slice_get xs i ≡ Some x) ⊎ ((i ≡ length xs) × (x ≡ y))
pushed [] y zero x at = inr (refl, cc)
pushed [] y (suc i) x at = absurd (cc)
pushed (z ∷ zs) y zero x at = inl at
pushed (z ∷ zs) y (suc i) x at = elim (pushed zs y i x at) [ inl h ↦ inl h | inr h ↦ inr (ap suc h.0, h.1) ]

AreEarlier-push : (ds : List model.Declared) (d : model.Declared) → AreEarlier ds → d.target ≤ length ds → AreEarlier (ds ++ d ∷ [])
AreEarlier-push ds d all last = λ i x at.
    elim (pushed ds d i x at) [
      | inl h ↦ all i x h
      | inr h
          ↦ (let same : x.target ≡ d.target = ap (λ (e : model.Declared). e.target) h.1 in omega (arith, h.0))
    ]

declared_in-push : {K : Type 0} (es : List (K × Declared)) (k : K) (v : Declared)
    → declared_in (es ++ (k, v) ∷ []) ≡ declared_in es ++ declared_view v ∷ []
declared_in-push [] k v = refl
declared_in-push (e ∷ es) k v = ap (λ l. declared_view e.1 ∷ l) (declared_in-push es k v)

Every-push : {A : Type 0} (P : A → Type 0) (xs : List A) (y : A) → Every P xs → P y → Every P (xs ++ y ∷ [])
Every-push P [] y all last = (last, tt)
Every-push P (x ∷ xs) y all last = (all.0, Every-push P xs y all.1 last)

module _ {K : Type 0} (bytes_of : K → List ℕ) (eq : K → K → Bool) (same : (x y : K) → eq x y ≡ bytes_eq (bytes_of x) (bytes_of y)) (k : K)
    (v : Declared) (es new : List (K × Declared))
    (kept : AreKept bytes_of es) (fresh : first_named v.name (declared_in es) ≡ None) (named : bytes_of k ≡ v.name)
    (is : new ≡ insert_entry eq es k v) where
  pub declared_pushed : new ≡ es ++ (k, v) ∷ []
  declared_pushed = is ∙ insert_entry-fresh bytes_of eq same k v es kept.keys (ap (λ n. first_named n (declared_in es)) named ∙ fresh)

  pub kept_after : v.target ≤ length (declared_in es) → AreKept bytes_of new
  kept_after earlier = rw declared_pushed (record {
    keys = Every-push (λ e. bytes_of e.0 ≡ e.1.name) es (k, v) kept.keys named;
    earlier = rw declared_in-push (AreEarlier-push (declared_in es) (declared_view v) kept.earlier earlier);
  })

  pub declared_after : declared_in new ≡ declared_in es ++ declared_view v ∷ []
  declared_after = ap declared_in declared_pushed ∙ declared_in-push es k v

-- ---- where a name is found

-- the first declaration of the name among entries that begin at s is the n-th
record IsLocated {K : Type 0} (name : List ℕ) (s : ℕ) (es : List (K × Declared)) (n : ℕ) : Type 0 where
  offset : ℕ
  is : n ≡ s + offset
  found : first_named name (declared_in es) ≡ slice_get (declared_in es) offset

abbrev Locates : {K : Type 0} → List ℕ → ℕ → List (K × Declared) → Option ℕ → Type 0
Locates name s es r = MatchOption r (first_named name (declared_in es) ≡ None) (λ n. IsLocated name s es n)

module _ {K : Type 0} (bytes_of : K → List ℕ) (name : List ℕ) where
  located : (es : List (K × Declared)) (s t : ℕ) → t ≡ s → Every (λ e. bytes_of e.0 ≡ e.1.name) es
      → Locates name s es (position_from (is_named bytes_of name) t (keys_of es))
  located [] s t e keys = refl
  located (x ∷ xs) s t e keys = go (bytes_eq name (bytes_of x.0)) refl (located xs (suc s) (t + 1) (omega arith) keys.1)
    where
      later : (r : Option ℕ) → bytes_eq name x.1.name ≡ false → Locates name (suc s) xs r → Locates name s (x ∷ xs) r
      later None no_match h = rw no_match h
      later (Some n) no_match h = record { offset = suc h.offset; is = omega (arith, h.is); found = rw no_match h.found }

      go : (b : Bool) → bytes_eq name (bytes_of x.0) ≡ b → Locates name (suc s) xs (position_from (is_named bytes_of name) (t + 1) (keys_of xs))
          → Locates name s (x ∷ xs) (cond b (Some t) (position_from (is_named bytes_of name) (t + 1) (keys_of xs)))
      go true match rest =
          let named : bytes_eq name x.1.name ≡ true = sym (ap (bytes_eq name) keys.0) ∙ match in
          record { offset = zero; is = omega (arith, e); found = rw named refl }
      go false match rest = later (position_from (is_named bytes_of name) (t + 1) (keys_of xs)) (sym (ap (bytes_eq name) keys.0) ∙ match) rest

  from_start : (es : List (K × Declared)) (r : Option ℕ) → Locates name 0 es r
      → first_named name (declared_in es) ≡ and_then r (slice_get (declared_in es))
  from_start es None h = h
  from_start es (Some n) h = let same : h.offset ≡ n = omega (arith, h.is) in rw (← same) h.found

  pub found_at : (es : List (K × Declared)) (r : Option ℕ) → Every (λ e. bytes_of e.0 ≡ e.1.name) es
      → r ≡ position (is_named bytes_of name) (keys_of es)
      → first_named name (declared_in es) ≡ and_then r (slice_get (declared_in es))
  found_at es r keys e =
      let first = located es 0 0 refl keys in
      let there : r ≡ position_from (is_named bytes_of name) 0 (keys_of es) = e ∙ position_from-zero (is_named bytes_of name) (keys_of es) in
      from_start es r (rw there first)

-- ---- observers

-- the first of the names that begin at s stands at n
pub record IsPlaced (name : List ℕ) (s : ℕ) (names : List (List ℕ)) (n : ℕ) : Type 0 where
  pub offset : ℕ
  pub is : n ≡ s + offset
  pub found : slice_get names offset ≡ Some name
  pub first : (k : ℕ) → k < offset → slice_get names k ≢ Some name

abbrev pub Places : List ℕ → ℕ → List (List ℕ) → Option ℕ → Type 0
Places name s names r = MatchOption r (list_any (bytes_eq name) names ≡ false) (λ n. IsPlaced name s names n)

placed : (name : List ℕ) (names : List (List ℕ)) (s t : ℕ) → t ≡ s → Places name s names (position_from (bytes_eq name) t names)
placed name [] s t e = refl
placed name (x ∷ xs) s t e = go (bytes_eq name x) refl (placed name xs (suc s) (t + 1) (omega arith))
  where
    not_before : (offset : ℕ) → bytes_eq name x ≡ false → ((k : ℕ) → k < offset → slice_get xs k ≢ Some name) → (k : ℕ) → k < suc offset
        → slice_get (x ∷ xs) k ≢ Some name
    not_before offset other first zero below = λ at. let passes = (bytes_eq-Decides name x).1 (cc) in absurd (cc)
    not_before offset other first (suc k) below = first k (omega arith)

    later : (r : Option ℕ) → bytes_eq name x ≡ false → Places name (suc s) xs r → Places name s (x ∷ xs) r
    later None other h = rw other h
    later (Some n) other h = record { offset = suc h.offset; is = omega (arith, h.is); found = h.found; first = not_before h.offset other h.first }

    go : (b : Bool) → bytes_eq name x ≡ b → Places name (suc s) xs (position_from (bytes_eq name) (t + 1) xs)
        → Places name s (x ∷ xs) (cond b (Some t) (position_from (bytes_eq name) (t + 1) xs))
    go true same rest = record {
      offset = zero;
      is = omega (arith, e);
      found = ap Some (sym ((bytes_eq-Decides name x).0 same));
      first = λ k below. absurd (omega (arith, below));
    }
    go false other rest = later (position_from (bytes_eq name) (t + 1) xs) other rest

module _ {K : Type 0} (bytes_of : K → List ℕ) (name : List ℕ) where
  position_from-named : (ks : List K) (t : ℕ) → position_from (is_named bytes_of name) t ks ≡ position_from (bytes_eq name) t (map bytes_of ks)
  position_from-named [] t = refl
  position_from-named (k ∷ ks) t = ap (cond (bytes_eq name (bytes_of k)) (Some t)) (position_from-named ks (t + 1))

  -- the same keys are left where the last takes a name's place
  pub swap_remove-named : (ks : List K) → map bytes_of (swap_remove_by (is_named bytes_of name) ks) ≡ swap_remove_by (bytes_eq name) (map bytes_of ks)
  swap_remove-named [] = refl
  swap_remove-named (k ∷ ks) = rw (← same) (go (position (is_named bytes_of name) (k ∷ ks)))
    where
      same : position (is_named bytes_of name) (k ∷ ks) ≡ position (bytes_eq name) (map bytes_of (k ∷ ks))
      same = position_from-zero (is_named bytes_of name) (k ∷ ks) ∙ position_from-named (k ∷ ks) 0
          ∙ sym (position_from-zero (bytes_eq name) (map bytes_of (k ∷ ks)))

      go : (r : Option ℕ) → map bytes_of (option_map_or (λ i. swap_remove (k ∷ ks) i k) r (k ∷ ks)) ≡ option_map_or
          (λ i. swap_remove (map bytes_of (k ∷ ks)) i (bytes_of k)) r (map bytes_of (k ∷ ks))
      go None = refl
      go (Some i) = map-swap_remove bytes_of (k ∷ ks) i k (omega arith)

  -- what a look-up among the keys says of their names
  pub placed_at : (ks : List K) (r : Option ℕ) → r ≡ position (is_named bytes_of name) ks → Places name 0 (map bytes_of ks) r
  placed_at ks r e =
      let there : r ≡ position_from (bytes_eq name) 0 (map bytes_of ks) = e ∙ position_from-zero (is_named bytes_of name) ks
      ∙ position_from-named ks 0 in
      rw there (placed name (map bytes_of ks) 0 0 refl)

  pub found_observer : (ks : List K) (r : Option ℕ) → r ≡ position (is_named bytes_of name) ks
      → MatchOption r (list_any (bytes_eq name) (map bytes_of ks) ≡ false) (λ i. slice_get (map bytes_of ks) i ≡ Some name)
  found_observer ks r e = go r (placed_at ks r e)
    where
      go : (r : Option ℕ) → Places name 0 (map bytes_of ks) r
          → MatchOption r (list_any (bytes_eq name) (map bytes_of ks) ≡ false) (λ i. slice_get (map bytes_of ks) i ≡ Some name)
      go None h = h
      go (Some i) h = let same : i ≡ h.offset = omega (arith, h.is) in rw same h.found

  pub first_observer : (ks : List K) (r : Option ℕ) → r ≡ position (is_named bytes_of name) ks
      → IfSome r (λ i. (k : ℕ) → k < i → slice_get (map bytes_of ks) k ≢ Some name)
  first_observer ks r e = go r (placed_at ks r e)
    where
      go : (r : Option ℕ) → Places name 0 (map bytes_of ks) r → IfSome r (λ i. (k : ℕ) → k < i → slice_get (map bytes_of ks) k ≢ Some name)
      go None h = tt
      go (Some i) h = λ k below. h.first k (omega (arith, h.is, below))

pub observed : {K : Type 0} (bytes_of : K → List ℕ) (k : K) (name : List ℕ) (ks : List K) → bytes_of k ≡ name
    → list_any (bytes_eq name) (map bytes_of ks) ≡ false
    → map bytes_of (if list_any (is_named bytes_of (bytes_of k)) ks then ks else ks ++ k ∷ []) ≡ map bytes_of ks ++ name ∷ []
observed bytes_of k name ks named free =
    let none : list_any (is_named bytes_of (bytes_of k)) ks ≡ false = list_any-named bytes_of (bytes_of k) ks
    ∙ ap (λ n. list_any (bytes_eq n) (map bytes_of ks)) named ∙ free in
    rw none (map-append bytes_of ks (k ∷ []) ∙ ap (λ n. map bytes_of ks ++ n ∷ []) named)

-- ---- one entry

pub shown_at : {K : Type 0} (es : List (K × Declared)) (i : ℕ) (v : Declared) → slice_get (values_of es) i ≡ Some v
    → slice_get (declared_in es) i ≡ Some (declared_view v)
shown_at [] i v at = absurd (cc)
shown_at (e ∷ es) zero v at = let same : e.1 ≡ v = cc in ap (λ x. Some (declared_view x)) same
shown_at (e ∷ es) (suc i) v at = shown_at es i v at
