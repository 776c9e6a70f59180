-- Timers by deadline: one list for each tick decides it.
use Rattle.std.proofs.Common.{◌≡◌, ◌≢◌, ◌∙◌, ◌⊎◌, ℕ, ◌+◌, ◌<◌, ◌≤◌, Bool, true, false, List, [], ◌∷◌, ◌++◌, refl, ap, sym, subst, inl, inr, arith, cond, eqb, Some, nat_le, nat_lt}
use Rattle.std.specs.Prelude.{filter, ◌==◌}
use Rattle.std.proofs.lemmas.Bool.{cases_eq, ne_eqb, eq-eqb, cases_lt}
use Rattle.std.proofs.lemmas.List.Elements.{filter-append}
use Rattle.timing_wheel.specs.declared.levels.Timer.{Timer}
use Rattle.timing_wheel.specs.Queue.{placed}
use Rattle.timing_wheel.specs.Timers.{no_later, by_deadline, due_at, due_by, due_after, first_due}

pub either : (t : Bool) → (t ≡ true) ⊎ (t ≡ false)
either true = inl refl
either false = inr refl

-- a filter at a head
module _ {A : Type 0} where
  pub keeps : (p : A → Bool) (a : A) (rest : List A) → p a ≡ true → filter p (a ∷ rest) ≡ a ∷ filter p rest
  keeps p a rest h = ap (λ t. cond t (a ∷ filter p rest) (filter p rest)) h

  pub drops : (p : A → Bool) (a : A) (rest : List A) → p a ≡ false → filter p (a ∷ rest) ≡ filter p rest
  drops p a rest h = ap (λ t. cond t (a ∷ filter p rest) (filter p rest)) h

  -- two filters in either order
  pub filters : (p q : A → Bool) (rest : List A) → filter p (filter q rest) ≡ filter q (filter p rest)
  filters p q [] = refl
  filters p q (a ∷ rest) =
      elim (either (p a)) [
        | inl yes_p ↦ elim (either (q a)) [
          | inl yes_q ↦ ap (filter p) (keeps q a rest yes_q) ∙ keeps p a (filter q rest) yes_p ∙ ap (λ xs. a ∷ xs) (filters p q rest)
              ∙ sym (keeps q a (filter p rest) yes_q) ∙ ap (filter q) (sym (keeps p a rest yes_p))
          | inr no_q ↦ ap (filter p) (drops q a rest no_q) ∙ filters p q rest
              ∙ sym (drops q a (filter p rest) no_q) ∙ ap (filter q) (sym (keeps p a rest yes_p))
        ]
        | inr no_p ↦ elim (either (q a)) [
          | inl yes_q ↦ ap (filter p) (keeps q a rest yes_q) ∙ drops p a (filter q rest) no_p ∙ filters p q rest ∙ ap (filter q) (sym (drops p a rest no_p))
          | inr no_q ↦ ap (filter p) (drops q a rest no_q) ∙ filters p q rest ∙ ap (filter q) (sym (drops p a rest no_p))
        ]
      ]

-- no timer is due before the tick
abbrev pub NoneBefore : ℕ → List Timer → Type 0
NoneBefore tick [] = Unit {0}
NoneBefore tick (a ∷ rest) = (tick ≤ a.deadline) × NoneBefore tick rest

-- the deadlines don't fall
abbrev pub InOrder : List Timer → Type 0
InOrder [] = Unit {0}
InOrder (a ∷ rest) = NoneBefore a.deadline rest × InOrder rest

pub eqb_same : (m n : ℕ) → eqb m n ≡ true → m ≡ n
eqb_same m n h = grind (arith, h)

pub le_true : (m n : ℕ) → m ≤ n → nat_le m n ≡ true
le_true m n h = grind (arith, h)

pub le_false : (m n : ℕ) → n < m → nat_le m n ≡ false
le_false m n h = grind (arith, h)

pub lt_true : (m n : ℕ) → m < n → nat_lt m n ≡ true
lt_true m n h = grind (arith, h)

pub lt_false : (m n : ℕ) → n ≤ m → nat_lt m n ≡ false
lt_false m n h = grind (arith, h)

pub le_cases : (m n : ℕ) → ((m ≤ n) × (nat_le m n ≡ true)) ⊎ ((n < m) × (nat_le m n ≡ false))
le_cases m n =
    elim (cases_lt n m) [
      | inl lt ↦ inr (lt, le_false m n lt)
      | inr le ↦ inl (le, le_true m n le)
    ]

pub none_before_from : (s t : ℕ) (xs : List Timer) → s ≤ t → NoneBefore t xs → NoneBefore s xs
none_before_from s t [] le h = tt
none_before_from s t (a ∷ rest) le h = ((let h0 = h.0 in omega (arith, le, h0)), none_before_from s t rest le h.1)

pub at_here : (t : ℕ) (a : Timer) (rest : List Timer) → a.deadline ≡ t → due_at t (a ∷ rest) ≡ a ∷ due_at t rest
at_here t a rest h = keeps (λ x. x.deadline == t) a rest (eq-eqb a.deadline t h)

pub at_other : (t : ℕ) (a : Timer) (rest : List Timer) → a.deadline ≢ t → due_at t (a ∷ rest) ≡ due_at t rest
at_other t a rest h = drops (λ x. x.deadline == t) a rest (ne_eqb a.deadline t h)

placed_at : (t : ℕ) (a : Timer) (xs : List Timer) → due_at t (placed no_later a xs) ≡ due_at t (a ∷ xs)
placed_at t a [] = refl
placed_at t a (b ∷ rest) =
    elim (le_cases a.deadline b.deadline) [
      | inl le ↦ ap (λ q. due_at t (cond q (a ∷ b ∷ rest) (b ∷ placed no_later a rest))) le.1
      | inr gt ↦
          ap (λ q. due_at t (cond q (a ∷ b ∷ rest) (b ∷ placed no_later a rest))) gt.1
          ∙ elim (cases_eq b.deadline t) [
            | inl same ↦
                let other : a.deadline ≢ t = λ e. (let g0 = gt.0 in omega (arith, g0, same, e)) in
                at_here t b (placed no_later a rest) same ∙ ap (λ xs. b ∷ xs) (placed_at t a rest ∙ at_other t a rest other)
                ∙ sym (at_here t b rest same) ∙ sym (at_other t a (b ∷ rest) other)
            | inr differs ↦
                at_other t b (placed no_later a rest) differs ∙ placed_at t a rest
                ∙ elim (cases_eq a.deadline t) [
                  | inl at ↦ at_here t a rest at ∙ ap (λ xs. a ∷ xs) (sym (at_other t b rest differs)) ∙ sym (at_here t a (b ∷ rest) at)
                  | inr other ↦ at_other t a rest other ∙ sym (at_other t b rest differs) ∙ sym (at_other t a (b ∷ rest) other)
                ]
          ]
    ]

-- each tick has the timers that it had, in their order
pub by_deadline_at : (t : ℕ) (xs : List Timer) → due_at t (by_deadline xs) ≡ due_at t xs
by_deadline_at t [] = refl
by_deadline_at t (a ∷ rest) =
    placed_at t a (by_deadline rest)
    ∙ elim (cases_eq a.deadline t) [
      | inl same ↦ at_here t a (by_deadline rest) same ∙ ap (λ xs. a ∷ xs) (by_deadline_at t rest) ∙ sym (at_here t a rest same)
      | inr differs ↦ at_other t a (by_deadline rest) differs ∙ by_deadline_at t rest ∙ sym (at_other t a rest differs)
    ]

placed_before : (t : ℕ) (a : Timer) (xs : List Timer) → t ≤ a.deadline → NoneBefore t xs → NoneBefore t (placed no_later a xs)
placed_before t a [] le h = (le, tt)
placed_before t a (b ∷ rest) le h =
    elim (le_cases a.deadline b.deadline) [
      | inl x ↦ subst (λ q. NoneBefore t (cond q (a ∷ b ∷ rest) (b ∷ placed no_later a rest))) (sym x.1) (le, h)
      | inr x ↦ subst (λ q. NoneBefore t (cond q (a ∷ b ∷ rest) (b ∷ placed no_later a rest))) (sym x.1) (h.0, placed_before t a rest le h.1)
    ]

placed_order : (a : Timer) (xs : List Timer) → InOrder xs → InOrder (placed no_later a xs)
placed_order a [] h = (tt, tt)
placed_order a (b ∷ rest) h =
    elim (le_cases a.deadline b.deadline) [
      | inl x ↦ subst (λ q. InOrder (cond q (a ∷ b ∷ rest) (b ∷ placed no_later a rest))) (sym x.1)
          ((x.0, none_before_from a.deadline b.deadline rest x.0 h.0), h)
      | inr x ↦ subst (λ q. InOrder (cond q (a ∷ b ∷ rest) (b ∷ placed no_later a rest))) (sym x.1)
          (placed_before b.deadline a rest (let y = x.0 in omega (arith, y)) h.0, placed_order a rest h.1)
    ]

pub by_deadline_order : (xs : List Timer) → InOrder (by_deadline xs)
by_deadline_order [] = tt
by_deadline_order (a ∷ rest) = placed_order a (by_deadline rest) (by_deadline_order rest)

-- a timer is in the list that its tick has
pub first_at : (a : Timer) (rest : List Timer) → due_at a.deadline (a ∷ rest) ≡ a ∷ due_at a.deadline rest
first_at a rest = at_here a.deadline a rest refl

pub nothing_at : (t s : ℕ) (xs : List Timer) → NoneBefore t xs → s < t → due_at s xs ≡ []
nothing_at t s [] h lt = refl
nothing_at t s (a ∷ rest) h lt =
    at_other s a rest (λ e. (let h0 = h.0 in omega (arith, h0, lt, e))) ∙ nothing_at t s rest h.1 lt

tail_at : (a b : Timer) (xs ys : List Timer) (t : ℕ) → a ≡ b → due_at t (a ∷ xs) ≡ due_at t (b ∷ ys) → due_at t xs ≡ due_at t ys
tail_at a b xs ys t same h =
    elim (cases_eq a.deadline t) [
      | inl at ↦ ap (λ l. drop_one l) (sym (at_here t a xs at) ∙ h ∙ at_here t b ys (ap (λ x. x.deadline) (sym same) ∙ at))
      | inr other ↦ sym (at_other t a xs other) ∙ h ∙ at_other t b ys (λ e. other (ap (λ x. x.deadline) same ∙ e))
    ]
  where
    drop_one : List Timer → List Timer
    drop_one [] = []
    drop_one (x ∷ rest) = rest

-- lists in order in which each tick has the same timers are equal
pub same_queue : (xs ys : List Timer) → InOrder xs → InOrder ys → ((t : ℕ) → due_at t xs ≡ due_at t ys) → xs ≡ ys
same_queue [] [] hx hy h = refl
same_queue [] (b ∷ ys) hx hy h = absurd (let e : ◌≡◌ {A = List Timer} [] (b ∷ due_at b.deadline ys) = h b.deadline ∙ first_at b ys in cc)
same_queue (a ∷ xs) [] hx hy h = absurd (let e : ◌≡◌ {A = List Timer} [] (a ∷ due_at a.deadline xs) = sym (h a.deadline) ∙ first_at a xs in cc)
same_queue (a ∷ xs) (b ∷ ys) hx hy h =
    let ab : a.deadline ≡ b.deadline =
    elim (cases_lt a.deadline b.deadline) [
      | inl lt ↦ absurd (let e : ◌≡◌ {A = List Timer} [] (a ∷ due_at a.deadline xs) =
          sym (nothing_at b.deadline a.deadline (b ∷ ys) (omega arith, hy.0) lt) ∙ sym (h a.deadline) ∙ first_at a xs in cc)
      | inr ge ↦ elim (cases_lt b.deadline a.deadline) [
        | inl lt ↦ absurd (let e : ◌≡◌ {A = List Timer} [] (b ∷ due_at b.deadline ys) =
            sym (nothing_at a.deadline b.deadline (a ∷ xs) (omega arith, hx.0) lt) ∙ h b.deadline ∙ first_at b ys in cc)
        | inr le ↦ omega (arith, ge, le)
      ]
    ] in
    let heads = sym (first_at a xs) ∙ h a.deadline ∙ at_here a.deadline b ys (sym ab) in
    let same : a ≡ b = ap (λ l. elim l as (λ x. Timer) [ [] ↦ a | x ∷ rest ↦ x ]) heads in
    let tails = same_queue xs ys hx.1 hy.1 (λ t. tail_at a b xs ys t same (h t)) in
    ap (λ x. x ∷ xs) same ∙ ap (λ l. b ∷ l) tails

filter_before : (p : Timer → Bool) (t : ℕ) (xs : List Timer) → NoneBefore t xs → NoneBefore t (filter p xs)
filter_before p t [] h = tt
filter_before p t (a ∷ rest) h =
    elim (either (p a)) [
      | inl yes_p ↦ subst (NoneBefore t) (sym (keeps p a rest yes_p)) (h.0, filter_before p t rest h.1)
      | inr no_p ↦ subst (NoneBefore t) (sym (drops p a rest no_p)) (filter_before p t rest h.1)
    ]

pub filter_order : (p : Timer → Bool) (xs : List Timer) → InOrder xs → InOrder (filter p xs)
filter_order p [] h = tt
filter_order p (a ∷ rest) h =
    elim (either (p a)) [
      | inl yes_p ↦ subst InOrder (sym (keeps p a rest yes_p)) (filter_before p a.deadline rest h.0, filter_order p rest h.1)
      | inr no_p ↦ subst InOrder (sym (drops p a rest no_p)) (filter_order p rest h.1)
    ]

-- timers are taken off before or after they are put in order
pub by_deadline_filter : (p : Timer → Bool) (xs : List Timer) → by_deadline (filter p xs) ≡ filter p (by_deadline xs)
by_deadline_filter p xs =
    same_queue (by_deadline (filter p xs)) (filter p (by_deadline xs)) (by_deadline_order (filter p xs)) (filter_order p (by_deadline xs) (by_deadline_order xs))
    (λ t. by_deadline_at t (filter p xs) ∙ filters (λ x. x.deadline == t) p xs ∙ ap (filter p) (sym (by_deadline_at t xs))
    ∙ sym (filters (λ x. x.deadline == t) p (by_deadline xs)))

-- a timer that is added comes behind those of its tick
pub by_deadline_added : (xs ys : List Timer) (a : Timer) → ((t : ℕ) → due_at t ys ≡ due_at t (xs ++ a ∷ []))
    → by_deadline ys ≡ by_deadline (by_deadline xs ++ a ∷ [])
by_deadline_added xs ys a h =
    same_queue (by_deadline ys) (by_deadline (by_deadline xs ++ a ∷ [])) (by_deadline_order ys) (by_deadline_order (by_deadline xs ++ a ∷ []))
    (λ t. by_deadline_at t ys ∙ h t ∙ filter-append (λ x. x.deadline == t) xs (a ∷ [])
    ∙ ap (λ l. l ++ due_at t (a ∷ [])) (sym (by_deadline_at t xs)) ∙ sym (filter-append (λ x. x.deadline == t) (by_deadline xs) (a ∷ []))
    ∙ sym (by_deadline_at t (by_deadline xs ++ a ∷ [])))

-- none is due before a tick, where no earlier one has a timer
pub none_before : (t : ℕ) (xs : List Timer) → ((s : ℕ) → s < t → due_at s xs ≡ []) → NoneBefore t xs
none_before t [] h = tt
none_before t (a ∷ rest) h = (
  elim (cases_lt a.deadline t) [
    | inl lt ↦ absurd (let e : ◌≡◌ {A = List Timer} [] (a ∷ due_at a.deadline rest) = sym (h a.deadline lt) ∙ first_at a rest in cc)
    | inr ge ↦ ge
  ],
  none_before t rest (λ s lt. elim (cases_eq a.deadline s) [
    | inl same ↦ absurd (let e : ◌≡◌ {A = List Timer} [] (a ∷ due_at s rest) = sym (h s lt) ∙ at_here s a rest same in cc)
    | inr differs ↦ sym (at_other s a rest differs) ∙ h s lt
  ]),
)

lt_cases : (m n : ℕ) → ((m < n) × (nat_lt m n ≡ true)) ⊎ ((n ≤ m) × (nat_lt m n ≡ false))
lt_cases m n =
    elim (cases_lt m n) [
      | inl lt ↦ inl (lt, lt_true m n lt)
      | inr le ↦ inr (le, lt_false m n le)
    ]

-- what is due after a tick, at another
pub after_at : (n t : ℕ) (xs : List Timer) → n < t → due_at t (due_after n xs) ≡ due_at t xs
after_at n t [] lt = refl
after_at n t (a ∷ rest) lt =
    elim (lt_cases n a.deadline) [
      | inl x ↦ ap (due_at t) (keeps (λ y. nat_lt n y.deadline) a rest x.1)
          ∙ elim (cases_eq a.deadline t) [
            | inl same ↦ at_here t a (due_after n rest) same ∙ ap (λ l. a ∷ l) (after_at n t rest lt) ∙ sym (at_here t a rest same)
            | inr differs ↦ at_other t a (due_after n rest) differs ∙ after_at n t rest lt ∙ sym (at_other t a rest differs)
          ]
      | inr x ↦ ap (due_at t) (drops (λ y. nat_lt n y.deadline) a rest x.1) ∙ after_at n t rest lt
          ∙ sym (at_other t a rest (λ e. (let x0 = x.0 in omega (arith, x0, lt, e))))
    ]

pub after_none : (n t : ℕ) (xs : List Timer) → t ≤ n → due_at t (due_after n xs) ≡ []
after_none n t [] le = refl
after_none n t (a ∷ rest) le =
    elim (lt_cases n a.deadline) [
      | inl x ↦ ap (due_at t) (keeps (λ y. nat_lt n y.deadline) a rest x.1)
          ∙ at_other t a (due_after n rest) (λ e. (let x0 = x.0 in omega (arith, x0, le, e))) ∙ after_none n t rest le
      | inr x ↦ ap (due_at t) (drops (λ y. nat_lt n y.deadline) a rest x.1) ∙ after_none n t rest le
    ]

-- a queue of which each tick after another has what it had, and no other has any, is what is due after that one
pub queue_after : (n : ℕ) (xs ys : List Timer) → ((t : ℕ) → n < t → due_at t ys ≡ due_at t xs) → ((t : ℕ) → t ≤ n → due_at t ys ≡ [])
    → by_deadline ys ≡ due_after n (by_deadline xs)
queue_after n xs ys same none =
    same_queue (by_deadline ys) (due_after n (by_deadline xs)) (by_deadline_order ys)
    (filter_order (λ a. nat_lt n a.deadline) (by_deadline xs) (by_deadline_order xs))
    (λ t. by_deadline_at t ys ∙ elim (cases_lt n t) [
      | inl lt ↦ same t lt ∙ sym (by_deadline_at t xs) ∙ sym (after_at n t (by_deadline xs) lt)
      | inr le ↦ none t le ∙ sym (after_none n t (by_deadline xs) le)
    ])

-- from the tick on at which the first may be due
pub queue_front : (n to : ℕ) (xs : List Timer) → n ≤ to → InOrder xs → NoneBefore n xs
    → due_by to xs ≡ due_at n xs ++ due_by to (due_after n xs)
queue_front n to [] le order before = refl
queue_front n to (a ∷ rest) le order before =
    elim (lt_cases n a.deadline) [
      | inl x ↦
          let later = none_before_from (n + 1) a.deadline rest (let x0 = x.0 in omega (arith, x0)) order.0 in
          let none = at_other n a rest (λ e. (let x0 = x.0 in omega (arith, x0, e))) ∙ nothing_at (n + 1) n rest later (omega arith) in
          let all = keeps (λ y. nat_lt n y.deadline) a rest x.1 ∙ ap (λ l. a ∷ l) (after_all n rest later) in
          sym (ap (λ l. l ++ due_by to (due_after n (a ∷ rest))) none ∙ ap (due_by to) all)
      | inr x ↦
          let same : a.deadline ≡ n = (let x0 = x.0 in let b0 = before.0 in omega (arith, x0, b0)) in
          keeps (λ y. nat_le y.deadline to) a rest (le_true a.deadline to (omega (arith, same, le)))
          ∙ ap (λ l. a ∷ l) (queue_front n to rest le order.1 before.1)
          ∙ sym (ap (λ l. l ++ due_by to (due_after n (a ∷ rest))) (at_here n a rest same)
          ∙ ap (λ l. a ∷ due_at n rest ++ due_by to l) (drops (λ y. nat_lt n y.deadline) a rest x.1))
    ]
  where
    after_all : (m : ℕ) (ys : List Timer) → NoneBefore (m + 1) ys → due_after m ys ≡ ys
    after_all m [] h = refl
    after_all m (y ∷ ys) h =
        keeps (λ z. nat_lt m z.deadline) y ys (lt_true m y.deadline (let h0 = h.0 in omega (arith, h0))) ∙ ap (λ l. y ∷ l) (after_all m ys h.1)

-- what is due after a later tick
pub after_after : (n to : ℕ) (xs : List Timer) → n ≤ to → due_after to (due_after n xs) ≡ due_after to xs
after_after n to [] le = refl
after_after n to (a ∷ rest) le =
    elim (lt_cases n a.deadline) [
      | inl x ↦ ap (due_after to) (keeps (λ y. nat_lt n y.deadline) a rest x.1)
          ∙ elim (lt_cases to a.deadline) [
            | inl y ↦ keeps (λ z. nat_lt to z.deadline) a (due_after n rest) y.1 ∙ ap (λ l. a ∷ l) (after_after n to rest le)
                ∙ sym (keeps (λ z. nat_lt to z.deadline) a rest y.1)
            | inr y ↦ drops (λ z. nat_lt to z.deadline) a (due_after n rest) y.1 ∙ after_after n to rest le
                ∙ sym (drops (λ z. nat_lt to z.deadline) a rest y.1)
          ]
      | inr x ↦ ap (due_after to) (drops (λ y. nat_lt n y.deadline) a rest x.1) ∙ after_after n to rest le
          ∙ sym (drops (λ z. nat_lt to z.deadline) a rest (lt_false to a.deadline (let x0 = x.0 in omega (arith, x0, le))))
    ]

-- where none is due by a tick
pub none_due : (to : ℕ) (xs : List Timer) → NoneBefore (to + 1) xs → (due_by to xs ≡ []) × (due_after to xs ≡ xs)
none_due to [] h = (refl, refl)
none_due to (a ∷ rest) h =
    let r = none_due to rest h.1 in
    let lt : to < a.deadline = (let h0 = h.0 in omega (arith, h0)) in (
      drops (λ y. nat_le y.deadline to) a rest (le_false a.deadline to lt) ∙ r.0,
      keeps (λ y. nat_lt to y.deadline) a rest (lt_true to a.deadline lt) ∙ ap (λ l. a ∷ l) r.1,
    )

-- when the first of a queue is due
pub first_due_is : (m : ℕ) (a : Timer) (xs rest : List Timer) → InOrder xs → NoneBefore m xs → due_at m xs ≡ a ∷ rest → first_due xs ≡ Some m
first_due_is m a [] rest order before found = absurd (let e : ◌≡◌ {A = List Timer} [] (a ∷ rest) = found in cc)
first_due_is m a (x ∷ xs) rest order before found =
    elim (cases_lt m x.deadline) [
      | inl lt ↦ absurd (let e : ◌≡◌ {A = List Timer} [] (a ∷ rest) =
          sym (nothing_at x.deadline m (x ∷ xs) (omega arith, order.0) lt) ∙ found in cc)
      | inr ge ↦ ap Some (let b0 = before.0 in omega (arith, ge, b0))
    ]
