-- What is made of the observers at some places is what is made of all, where these places have all that don't stay as they are.
use Rattle.std.proofs.Common.{◌≡◌, ◌∙◌, ◌⊎◌, ℕ, suc, zero, ◌+◌, ◌<◌, ◌≤◌, Bool, true, false, List, [], ◌∷◌, ◌++◌, refl, ap, sym, subst, inl, inr, arith, cond, Option, Some, None, slice_set}
use Rattle.std.specs.Prelude.{slice_get}
use Rattle.std.proofs.lemmas.Bool.{cases_eq, ne_eqb, eq-eqb}
use Rattle.inc_value.specs.Choice.{Among}
use Rattle.inc_value.specs.declared.node.NodeId.{NodeId}
use Rattle.inc_value.specs.declared.outcome.Outcome.{Outcome}
use Rattle.observers.specs.declared.observer.Observer.{Observer}
use Rattle.observers.specs.declared.notice.Notice.{Notice}
use Rattle.observers.specs.declared.settle.Settled.{Settled}
use Rattle.observers.specs.Observers.{after, told_of, notice_of, notices_of, told_by}
use Rattle.observers.specs.Keeping.{IsQuiet, CoversAll, notices_at, notice_at, settled_as, settled_of, settled_at, is_left, put_one, put_all, RisesFrom, IsOrdered, distinct}
use Rattle.observers.proofs.Covering.{left_is_quiet}

-- the numbers rise strictly, from so high on
abbrev pub Climbs : ℕ → List ℕ → Type 0
Climbs low [] = Unit {0}
Climbs low (x ∷ xs) = (low ≤ x) × Climbs (x + 1) xs

-- the same numbers, counted from one later
abbrev pub fewer : List ℕ → List ℕ
fewer [] = []
fewer (zero ∷ xs) = zero ∷ fewer xs
fewer (suc x ∷ xs) = x ∷ fewer xs

climbs_lower : (low low' : ℕ) (xs : List ℕ) → low' ≤ low → Climbs low xs → Climbs low' xs
climbs_lower low low' [] le h = tt
climbs_lower low low' (x ∷ xs) le h = (let a = h.0 in omega (arith, le, a), h.1)

climbs_fewer : (low : ℕ) (xs : List ℕ) → Climbs (suc low) xs → Climbs low (fewer xs)
climbs_fewer low [] h = tt
climbs_fewer low (zero ∷ xs) h = absurd (let a = h.0 in omega (arith, a))
climbs_fewer low (suc x ∷ xs) h = (let a = h.0 in omega (arith, a), climbs_fewer (x + 1) xs (climbs_lower (suc x + 1) (suc (x + 1)) xs (omega arith) h.1))

module _ (shows : NodeId → Outcome) where
  -- what is told at places of a list from the second element on is told at the places of the rest, but for the numbers; so with numbers from a count on
  abbrev pub notices_from : ℕ → List Observer → List ℕ → List Notice
  notices_from count made [] = []
  notices_from count made (x ∷ xs) = notice_at shows (count + x) (slice_get made x) ++ notices_from count made xs

  pub from_zero : (made : List Observer) (xs : List ℕ) → notices_at shows made xs ≡ notices_from 0 made xs
  from_zero made [] = refl
  from_zero made (x ∷ xs) =
      let same : x ≡ 0 + x = omega arith in
      ap (λ n. notice_at shows n (slice_get made x) ++ notices_at shows made xs) same
      ∙ ap (λ ns. notice_at shows (0 + x) (slice_get made x) ++ ns) (from_zero made xs)

  later : (count : ℕ) (o : Observer) (made : List Observer) (xs : List ℕ) → Climbs 1 xs
      → notices_from count (o ∷ made) xs ≡ notices_from (count + 1) made (fewer xs)
  later count o made [] h = refl
  later count o made (zero ∷ xs) h = absurd (let a = h.0 in omega (arith, a))
  later count o made (suc x ∷ xs) h =
      let same : count + suc x ≡ count + 1 + x = omega arith in
      ap (λ n. notice_at shows n (slice_get made x) ++ notices_from count (o ∷ made) xs) same
      ∙ ap (λ ns. notice_at shows (count + 1 + x) (slice_get made x) ++ ns) (later count o made xs (climbs_lower (suc x + 1) 1 xs (omega arith) h.1))

  among_fewer : (i : ℕ) (xs : List ℕ) → Climbs 1 xs → Among (suc i) xs → Among i (fewer xs)
  among_fewer i [] h a = absurd a
  among_fewer i (zero ∷ xs) h a = absurd (let l = h.0 in omega (arith, l))
  among_fewer i (suc x ∷ xs) h (inl e) = inl (omega (arith, e))
  among_fewer i (suc x ∷ xs) h (inr a) = inr (among_fewer i xs (climbs_lower (suc x + 1) 1 xs (omega arith) h.1) a)

  none_low : (i low : ℕ) (xs : List ℕ) → Climbs low xs → i < low → Among i xs → ⊥
  none_low i low [] h lt a = a
  none_low i low (x ∷ xs) h lt (inl e) = (let l = h.0 in omega (arith, e, l, lt))
  none_low i low (x ∷ xs) h lt (inr a) = none_low i (x + 1) xs h.1 (let l = h.0 in omega (arith, l, lt)) a

  covers_rest : (o : Observer) (made : List Observer) (xs : List ℕ) → Climbs 1 xs → CoversAll shows (o ∷ made) xs → CoversAll shows made (fewer xs)
  covers_rest o made xs h covers i p there = elim (covers (suc i) p there) [
    | inl a ↦ inl (among_fewer i xs h a)
    | inr quiet ↦ inr quiet
  ]

  covers_tail : (o : Observer) (made : List Observer) (xs : List ℕ) → CoversAll shows (o ∷ made) (zero ∷ xs) → (i : ℕ) (p : Observer)
      → slice_get made i ≡ Some p → Among (suc i) xs ⊎ IsQuiet shows p
  covers_tail o made xs covers i p there = elim (covers (suc i) p there) [
    | inl (inl e) ↦ absurd (omega (arith, e))
    | inl (inr a) ↦ inl a
    | inr quiet ↦ inr quiet
  ]

  pub all_told : (count : ℕ) (made : List Observer) (xs : List ℕ) → Climbs 0 xs → CoversAll shows made xs
      → notices_from count made xs ≡ notices_of shows count made
  all_told count [] xs h covers = nothing count xs
    where
      nothing : (count : ℕ) (xs : List ℕ) → notices_from count [] xs ≡ []
      nothing count [] = refl
      nothing count (x ∷ xs) = nothing count xs
  all_told count (o ∷ made) [] h covers =
      let quiet : IsQuiet shows o = elim (covers 0 o refl) [ inl a ↦ absurd a | inr q ↦ q ] in
      all_told (count + 1) made [] tt (covers_rest o made [] tt covers)
      ∙ ap (λ t. notice_of count t ++ notices_of shows (count + 1) made) (sym quiet.silent)
  all_told count (o ∷ made) (zero ∷ xs) h covers =
      let high : Climbs 1 xs = h.1 in
      let same : count + 0 ≡ count = omega arith in
      ap (λ n. notice_of n (told_of (shows o.node) o) ++ notices_from count (o ∷ made) xs) same
      ∙ ap (λ ns. notice_of count (told_of (shows o.node) o) ++ ns)
      (later count o made xs high ∙ all_told (count + 1) made (fewer xs) (climbs_fewer 0 xs high)
      (λ i p there. elim (covers_tail o made xs covers i p there) [ inl a ↦ inl (among_fewer i xs high a) | inr q ↦ inr q ]))
  all_told count (o ∷ made) (suc x ∷ xs) h covers =
      let high : Climbs 1 (suc x ∷ xs) = (omega arith, h.1) in
      let quiet : IsQuiet shows o = elim (covers 0 o refl) [ inl a ↦ absurd (none_low 0 1 (suc x ∷ xs) high (omega arith) a) | inr q ↦ q ] in
      later count o made (suc x ∷ xs) high
      ∙ all_told (count + 1) made (fewer (suc x ∷ xs)) (climbs_fewer 0 (suc x ∷ xs) high) (covers_rest o made (suc x ∷ xs) high covers)
      ∙ ap (λ t. notice_of count t ++ notices_of shows (count + 1) made) (sym quiet.silent)

  -- what is settled at places from the second on is settled in the rest
  settled_if : ℕ → Observer → Bool → List Settled
  settled_if place o b = cond b [] (record { place = place; observer = after (shows o.node) o } ∷ [])

  shift_if : (o p : Observer) (made : List Observer) (x : ℕ) (b : Bool) (ks ks' : List Settled)
      → put_all ks (o ∷ made) ≡ o ∷ put_all ks' made
      → put_all (settled_if (suc x) p b ++ ks) (o ∷ made) ≡ o ∷ put_all (settled_if x p b ++ ks') made
  unfolding settled_if
  shift_if o p made x true ks ks' ih = ih
  shift_if o p made x false ks ks' ih = ap (λ m. slice_set m (suc x) (after (shows p.node) p)) ih

  shift_one : (o : Observer) (made : List Observer) (x : ℕ) (p : Option Observer) (ks ks' : List Settled)
      → put_all ks (o ∷ made) ≡ o ∷ put_all ks' made
      → put_all (settled_of shows (suc x) p ++ ks) (o ∷ made) ≡ o ∷ put_all (settled_of shows x p ++ ks') made
  unfolding settled_if
  shift_one o made x None ks ks' ih = ih
  shift_one o made x (Some p) ks ks' ih = shift_if o p made x (is_left (shows p.node) p) ks ks' ih

  shift : (o : Observer) (made : List Observer) (xs : List ℕ) → Climbs 1 xs
      → put_all (settled_at shows (o ∷ made) xs) (o ∷ made) ≡ o ∷ put_all (settled_at shows made (fewer xs)) made
  shift o made [] h = refl
  shift o made (zero ∷ xs) h = absurd (let a = h.0 in omega (arith, a))
  shift o made (suc x ∷ xs) h = shift_one o made x (slice_get made x) (settled_at shows (o ∷ made) xs) (settled_at shows made (fewer xs))
      (shift o made xs (climbs_lower (suc x + 1) 1 xs (omega arith) h.1))

  first_if : (o : Observer) (b : Bool) → is_left (shows o.node) o ≡ b → (ks : List Settled) (made rest : List Observer) → put_all ks made ≡ o ∷ rest
      → put_all (settled_if 0 o b ++ ks) made ≡ after (shows o.node) o ∷ rest
  unfolding settled_if
  first_if o true is ks made rest ih = ih ∙ ap (λ x. x ∷ rest) (sym (left_is_quiet shows o is).still)
  first_if o false is ks made rest ih = ap (λ m. slice_set m 0 (after (shows o.node) o)) ih

  first : (o : Observer) (ks : List Settled) (made rest : List Observer) → put_all ks made ≡ o ∷ rest
      → put_all (settled_as shows 0 o ++ ks) made ≡ after (shows o.node) o ∷ rest
  unfolding settled_if
  first o ks made rest ih = first_if o (is_left (shows o.node) o) refl ks made rest ih

  pub all_put : (made : List Observer) (xs : List ℕ) → Climbs 0 xs → CoversAll shows made xs → put_all (settled_at shows made xs) made ≡ told_by shows made
  all_put [] xs h covers = nothing xs
    where
      nothing : (xs : List ℕ) → put_all (settled_at shows [] xs) [] ≡ []
      nothing [] = refl
      nothing (x ∷ xs) = nothing xs
  all_put (o ∷ made) [] h covers =
      let quiet : IsQuiet shows o = elim (covers 0 o refl) [ inl a ↦ absurd a | inr q ↦ q ] in
      ap (λ m. o ∷ m) (all_put made [] tt (covers_rest o made [] tt covers)) ∙ ap (λ p. p ∷ told_by shows made) (sym quiet.still)
  all_put (o ∷ made) (zero ∷ xs) h covers =
      let high : Climbs 1 xs = h.1 in
      let rest = all_put made (fewer xs) (climbs_fewer 0 xs high)
      (λ i p there. elim (covers_tail o made xs covers i p there) [ inl a ↦ inl (among_fewer i xs high a) | inr q ↦ inr q ]) in
      first o (settled_at shows (o ∷ made) xs) (o ∷ made) (told_by shows made) (shift o made xs high ∙ ap (λ m. o ∷ m) rest)
  all_put (o ∷ made) (suc x ∷ xs) h covers =
      let high : Climbs 1 (suc x ∷ xs) = (omega arith, h.1) in
      let quiet : IsQuiet shows o = elim (covers 0 o refl) [ inl a ↦ absurd (none_low 0 1 (suc x ∷ xs) high (omega arith) a) | inr q ↦ q ] in
      let rest = all_put made (fewer (suc x ∷ xs)) (climbs_fewer 0 (suc x ∷ xs) high) (covers_rest o made (suc x ∷ xs) high covers) in
      shift o made (suc x ∷ xs) high ∙ ap (λ m. o ∷ m) rest ∙ ap (λ p. p ∷ told_by shows made) (sym quiet.still)

-- ---- numbers without those that are as the one before

same_last : (y x : ℕ) (xs : List ℕ) → y ≡ x → distinct (Some y) (x ∷ xs) ≡ distinct (Some y) xs
same_last y x xs e = ap (λ b. cond b (distinct (Some y) xs) (x ∷ distinct (Some x) xs)) (eq-eqb y x e)

other_last : (y x : ℕ) (xs : List ℕ) → (y ≡ x → ⊥) → distinct (Some y) (x ∷ xs) ≡ x ∷ distinct (Some x) xs
other_last y x xs d = ap (λ b. cond b (distinct (Some y) xs) (x ∷ distinct (Some x) xs)) (ne_eqb y x d)

climbs_behind : (y : ℕ) (xs : List ℕ) → RisesFrom y xs → Climbs (y + 1) (distinct (Some y) xs)
climbs_behind y [] h = tt
climbs_behind y (x ∷ xs) h = elim (cases_eq y x) [
  | inl e ↦ subst (Climbs (y + 1)) (sym (same_last y x xs e)) (climbs_behind y xs (subst (λ l. RisesFrom l xs) (sym e) h.1))
  | inr d ↦ subst (Climbs (y + 1)) (sym (other_last y x xs d)) ((let a = h.0 in omega (arith, a, d)), climbs_behind x xs h.1)
]

pub distinct_climbs : (xs : List ℕ) → IsOrdered xs → Climbs 0 (distinct None xs)
distinct_climbs [] h = tt
distinct_climbs (x ∷ xs) h = (omega arith, climbs_behind x xs h.1)

among_behind : (i y : ℕ) (xs : List ℕ) → Among i xs → (i ≡ y) ⊎ Among i (distinct (Some y) xs)
among_behind i y [] a = absurd a
among_behind i y (x ∷ xs) (inl e) = elim (cases_eq y x) [
  | inl same ↦ inl (e ∙ sym same)
  | inr d ↦ inr (subst (Among i) (sym (other_last y x xs d)) (inl e))
]
among_behind i y (x ∷ xs) (inr a) = elim (cases_eq y x) [
  | inl same ↦ elim (among_behind i y xs a) [ inl e ↦ inl e | inr b ↦ inr (subst (Among i) (sym (same_last y x xs same)) b) ]
  | inr d ↦ elim (among_behind i x xs a) [
    | inl e ↦ inr (subst (Among i) (sym (other_last y x xs d)) (inl e))
    | inr b ↦ inr (subst (Among i) (sym (other_last y x xs d)) (inr b))
  ]
]

pub among_distinct : (i : ℕ) (xs : List ℕ) → Among i xs → Among i (distinct None xs)
among_distinct i [] a = absurd a
among_distinct i (x ∷ xs) (inl e) = inl e
among_distinct i (x ∷ xs) (inr a) = elim (among_behind i x xs a) [ inl e ↦ inl e | inr b ↦ inr b ]

-- what was pushed last is put first
pub put_last : (ks : List Settled) (one : Settled) (made : List Observer) → put_all (ks ++ one ∷ []) made ≡ put_all ks (put_one one made)
put_last [] one made = refl
put_last (k ∷ ks) one made = ap (put_one k) (put_last ks one made)

-- those that are due, each once, cover all if those that are due do
pub covers_distinct : (shows : NodeId → Outcome) (made : List Observer) (due : List ℕ) → CoversAll shows made due → CoversAll shows made (distinct None due)
covers_distinct shows made due covers i o there = elim (covers i o there) [ inl a ↦ inl (among_distinct i due a) | inr q ↦ inr q ]
