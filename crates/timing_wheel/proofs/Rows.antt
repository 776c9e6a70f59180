-- The timers of slots, one by one.
use Rattle.std.proofs.Common.{◌≡◌, ◌∙◌, ◌⊎◌, ℕ, ◌+◌, ◌-◌, ◌^◌, ◌<◌, ◌≤◌, true, false, List, [], ◌∷◌, ◌++◌, refl, ap, sym, subst, inl, inr, arith, Option, Some, None, append-nil}
use Rattle.std.specs.Prelude.{slice_get, option_map, min, is_some}
use Rattle.std.proofs.lemmas.Bool.{cases_eq, cases_lt}
use Rattle.index_lists.specs.Lists.{Lists, list_at, Has}
use Rattle.timing_wheel.specs.declared.levels.Timer.{Timer}
use Rattle.timing_wheel.specs.Levels.{rows, NoneBelow, IsFilled}

-- the first place of a slot
pub filled_from : (v : Lists Timer) (at place : ℕ) → option_map (λ e. e.0) (slice_get (list_at v at) 0) ≡ Some place → IsFilled v at
filled_from v at place h = go (list_at v at) refl h
  where
    go : (es : List (ℕ × Timer)) → list_at v at ≡ es → option_map (λ e. e.0) (slice_get es 0) ≡ Some place → IsFilled v at
    go [] is k = absurd (let e : ◌≡◌ {A = Option ℕ} None (Some place) = k in cc)
    go (e ∷ es) is k = record { first = e; rest = es; is = is }

pub empty_from : (es : List (ℕ × Timer)) → option_map (λ e. e.0) (slice_get es 0) ≡ None → es ≡ []
empty_from [] h = refl
empty_from (e ∷ es) h = absurd (let k : ◌≡◌ {A = Option ℕ} (Some e.0) None = h in cc)

pub first_place : (es : List (ℕ × Timer)) (e : ℕ × Timer) (rest : List (ℕ × Timer)) → es ≡ e ∷ rest
    → option_map (λ x. x.0) (slice_get es 0) ≡ Some e.0
first_place es e rest h = ap (λ l. option_map (λ x. x.0) (slice_get l 0)) h

pub none_below_more : (v : Lists Timer) (least : ℕ) → NoneBelow v least → list_at v least ≡ [] → NoneBelow v (least + 1)
none_below_more v least below none at lt =
    elim (cases_eq at least) [
      | inl same ↦ ap (list_at v) same ∙ none
      | inr differs ↦ below at (omega (arith, lt, differs))
    ]

-- the timer is in the list
abbrev pub Occurs : List Timer → Timer → Type 0
Occurs [] t = ⊥
Occurs (x ∷ xs) t = (x ≡ t) ⊎ Occurs xs t

pub has_occurs : (es : List (ℕ × Timer)) (place : ℕ) (t : Timer) → Has es place t → Occurs (rows es) t
has_occurs [] place t h = h
has_occurs (e ∷ es) place t (inl h) = inl h.1
has_occurs (e ∷ es) place t (inr h) = inr (has_occurs es place t h)

pub occurs_has : (es : List (ℕ × Timer)) (t : Timer) → Occurs (rows es) t → (place : ℕ) × Has es place t
occurs_has [] t h = absurd h
occurs_has (e ∷ es) t (inl h) = (e.0, inl (refl, h))
occurs_has (e ∷ es) t (inr h) = let r = occurs_has es t h in (r.0, inr r.1)

occurs_push : (xs : List Timer) (x t : Timer) → Occurs (xs ++ x ∷ []) t → Occurs xs t ⊎ (x ≡ t)
occurs_push [] x t (inl h) = inr h
occurs_push [] x t (inr h) = absurd h
occurs_push (y ∷ xs) x t (inl h) = inl (inl h)
occurs_push (y ∷ xs) x t (inr h) =
    elim (occurs_push xs x t h) [
      | inl o ↦ inl (inr o)
      | inr same ↦ inr same
    ]

occurs_first : (xs : List Timer) (x t : Timer) → Occurs xs t → Occurs (xs ++ x ∷ []) t
occurs_first (y ∷ xs) x t (inl h) = inl h
occurs_first (y ∷ xs) x t (inr h) = inr (occurs_first xs x t h)
occurs_first [] x t h = absurd h

occurs_last : (xs : List Timer) (x : Timer) → Occurs (xs ++ x ∷ []) x
occurs_last [] x = inl refl
occurs_last (y ∷ xs) x = inr (occurs_last xs x)

-- the least deadline so far, or the greatest tick
pub record IsLeastSoFar (seen : List Timer) (least : ℕ) : Type 0 where
  pub below : (t : Timer) → Occurs seen t → least ≤ t.deadline
  pub found : (least ≡ 2 ^ 64 - 1) ⊎ ((t : Timer) × Occurs seen t × (t.deadline ≡ least))

pub least_start : IsLeastSoFar [] (2 ^ 64 - 1)
least_start = record { below = λ t o. absurd o; found = inl refl }

pub least_step : (seen : List Timer) (x : Timer) (least : ℕ) → IsLeastSoFar seen least → IsLeastSoFar (seen ++ x ∷ []) (min least x.deadline)
least_step seen x least h = record {
  below = λ t o. elim (occurs_push seen x t o) [
    | inl before ↦ (let b = h.below t before in omega (arith, b))
    | inr same ↦ (let d = ap (λ y. y.deadline) same in omega (arith, d))
  ];
  found = elim (cases_lt x.deadline least) [
    | inl lt ↦ inr (x, occurs_last seen x, omega (arith, lt))
    | inr ge ↦ elim h.found [
      | inl end ↦ inl (omega (arith, ge, end))
      | inr f ↦ inr (f.0, occurs_first seen x f.0 f.1, (let f2 = f.2 in omega (arith, f2, ge)))
    ]
  ];
}

-- the first to be due in a list that isn't empty
pub least_found : (x : Timer) (xs : List Timer) (least : ℕ) → IsLeastSoFar (x ∷ xs) least → x.deadline < 2 ^ 64
    → (t : Timer) × Occurs (x ∷ xs) t × (t.deadline ≡ least)
least_found x xs least h range =
    elim h.found [
      | inl end ↦ (x, inl refl, (let b = h.below x (inl refl) in omega (arith, b, end, range)))
      | inr f ↦ f
    ]

pub filled_has : (v : Lists Timer) (at : ℕ) (f : IsFilled v at) → Has (list_at v at) f.first.0 f.first.1
filled_has v at f = subst (λ es. Has es f.first.0 f.first.1) (sym f.is) (inl (refl, refl))

pub filled_place : (v : Lists Timer) (at place : ℕ) (f : IsFilled v at) → option_map (λ e. e.0) (slice_get (list_at v at) 0) ≡ Some place → place ≡ f.first.0
filled_place v at place f h = some_is place f.first.0 (sym h ∙ first_place (list_at v at) f.first f.rest f.is)
  where
    some_is : (a b : ℕ) → ◌≡◌ {A = Option ℕ} (Some a) (Some b) → a ≡ b
    some_is a b h = cc

-- the place and the row of a slot's first timer
pub first_has : (v : Lists Timer) (at place : ℕ) (t : Timer) (f : IsFilled v at) → option_map (λ e. e.0) (slice_get (list_at v at) 0) ≡ Some place
    → ((list : ℕ) (row : Timer) → Has (list_at v list) place row → t ≡ row) → Has (list_at v at) place t
first_has v at place t f h row =
    let has = subst (λ p. Has (list_at v at) p f.first.1) (sym (filled_place v at place f h)) (filled_has v at f) in
    subst (λ r. Has (list_at v at) place r) (sym (row at f.first.1 has)) has

pub not_filled : (v : Lists Timer) (at : ℕ) → option_map (λ e. e.0) (slice_get (list_at v at) 0) ≡ None → list_at v at ≡ []
not_filled v at h = empty_from (list_at v at) h

pub some_of : (o : Option ℕ) → is_some o ≡ true → (k : ℕ) × (o ≡ Some k)
some_of None h = absurd (let e = h in cc)
some_of (Some k) h = (k, refl)

pub none_of : (o : Option ℕ) → is_some o ≡ false → o ≡ None
none_of None h = refl
none_of (Some k) h = absurd (let e = h in cc)

-- what has been seen of a list of which nothing is left
pub all_seen : (xs ys all : List Timer) → xs ++ ys ≡ all → ys ≡ [] → xs ≡ all
all_seen xs ys all h none = sym (append-nil xs) ∙ ap (λ l. xs ++ l) (sym none) ∙ h
