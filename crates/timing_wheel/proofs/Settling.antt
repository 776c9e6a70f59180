-- The first timer of a slot that is being emptied is taken off, and told or put into a lower slot.
use Rattle.std.proofs.Common.{◌≡◌, ◌≢◌, ◌∙◌, ◌⊎◌, ℕ, ◌+◌, ◌^◌, ◌<◌, ◌≤◌, List, [], ◌∷◌, ◌++◌, length, refl, ap, sym, subst, inl, inr, arith, cond, eqb, nat_eq, Option, Some, None, append-nil, append_assoc, slice_index_or, slice_set}
use Rattle.std.proofs.lemmas.Bool.{cases_eq, ne_eqb, eq-eqb}
use Rattle.std.proofs.lemmas.List.{get_or-set_same, get_or-set_other, length-set, map-append}
use Rattle.std.proofs.lemmas.List.Elements.{filter-append}
use Rattle.index_lists.specs.Lists.{Lists, list_at, Has, IsThere, IsPopped}
use Rattle.timing_wheel.specs.declared.levels.Timer.{Timer}
use Rattle.timing_wheel.specs.Slots.{slot}
use Rattle.timing_wheel.specs.Timers.{due_at, keys_of}
use Rattle.timing_wheel.specs.Levels.{rows, timers_in, NoneBelow, IsKeyed, IsDrained, KeepsLater, fired}
use Rattle.timing_wheel.proofs.Queue.{at_here, at_other}

-- the first timer of a slot is taken off
pub record Popped (v w : Lists Timer) (at place : ℕ) (a : Timer) : Type 0 where
  pub rest : List (ℕ × Timer)
  pub was : list_at v at ≡ (place, a) ∷ rest
  pub here : list_at w at ≡ rest
  pub others : (o : ℕ) → o ≢ at → list_at w o ≡ list_at v o
  pub width : length w.lists ≡ length v.lists
  pub vacant : (o : ℕ) (t : Timer) → Has (list_at w o) place t → ⊥

pub popped_from : (v w : Lists Timer) (at place : ℕ) (a : Timer) → at < length v.lists → IsPopped v w at place a → (IsThere w place → ⊥)
    → Popped v w at place a
popped_from v w at place a wide popped vacant = record {
  rest = popped.rest;
  was = popped.was;
  here = ap (λ l. slice_index_or l at []) popped.lists ∙ get_or-set_same v.lists at popped.rest [] wide;
  others = λ o differs. ap (λ l. slice_index_or l o []) popped.lists ∙ get_or-set_other v.lists at o popped.rest [] differs;
  width = ap length popped.lists ∙ length-set v.lists at popped.rest;
  vacant = λ o t has. vacant (record { list = o; row = t; has = has });
}

-- a timer is put behind those of a slot
pub record Put (v w : Lists Timer) (at place : ℕ) (a : Timer) : Type 0 where
  pub here : list_at w at ≡ list_at v at ++ (place, a) ∷ []
  pub others : (o : ℕ) → o ≢ at → list_at w o ≡ list_at v o
  pub width : length w.lists ≡ length v.lists

pub put_from : (v w : Lists Timer) (at place : ℕ) (a : Timer) → at < length v.lists
    → w.lists ≡ slice_set v.lists at (list_at v at ++ (place, a) ∷ []) → Put v w at place a
put_from v w at place a wide set = record {
  here = ap (λ l. slice_index_or l at []) set ∙ get_or-set_same v.lists at (list_at v at ++ (place, a) ∷ []) [] wide;
  others = λ o differs. ap (λ l. slice_index_or l o []) set ∙ get_or-set_other v.lists at o (list_at v at ++ (place, a) ∷ []) [] differs;
  width = ap length set ∙ length-set v.lists at (list_at v at ++ (place, a) ∷ []);
}

pub has_on : (es : List (ℕ × Timer)) (place p : ℕ) (a t : Timer) → Has (es ++ (place, a) ∷ []) p t → ((place ≡ p) × (a ≡ t)) ⊎ Has es p t
has_on [] place p a t (inl h) = inl h
has_on [] place p a t (inr h) = absurd h
has_on (e ∷ es) place p a t (inl h) = inr (inl h)
has_on (e ∷ es) place p a t (inr h) =
    elim (has_on es place p a t h) [
      | inl same ↦ inl same
      | inr there ↦ inr (inr there)
    ]

pub on_has : (es : List (ℕ × Timer)) (place p : ℕ) (a t : Timer) → Has es p t → Has (es ++ (place, a) ∷ []) p t
on_has [] place p a t h = absurd h
on_has (e ∷ es) place p a t (inl h) = inl h
on_has (e ∷ es) place p a t (inr h) = inr (on_has es place p a t h)

pub on_last : (es : List (ℕ × Timer)) (place : ℕ) (a : Timer) → Has (es ++ (place, a) ∷ []) place a
on_last [] place a = inl (refl, refl)
on_last (e ∷ es) place a = inr (on_last es place a)

module _ (v w : Lists Timer) (at place : ℕ) (a : Timer) (p : Popped v w at place a) where
  pub pop_back : (o q : ℕ) (t : Timer) → Has (list_at w o) q t → Has (list_at v o) q t
  pop_back o q t h =
      elim (cases_eq o at) [
        | inl same ↦ subst (λ n. Has (list_at v n) q t) (sym same) (subst (λ es. Has es q t) (sym p.was)
            (inr (subst (λ es. Has es q t) p.here (subst (λ n. Has (list_at w n) q t) same h))))
        | inr differs ↦ subst (λ es. Has es q t) (p.others o differs) h
      ]

  pub pop_has : Has (list_at v at) place a
  pop_has = subst (λ es. Has es place a) (sym p.was) (inl (refl, refl))

  pub pop_fore : (o q : ℕ) (t : Timer) → Has (list_at v o) q t → ((o ≡ at) × (place ≡ q) × (a ≡ t)) ⊎ Has (list_at w o) q t
  pop_fore o q t h =
      elim (cases_eq o at) [
        | inl same ↦ elim (subst (λ es. Has es q t) p.was (subst (λ n. Has (list_at v n) q t) same h)) [
          | inl head ↦ inl (same, head.0, head.1)
          | inr tail ↦ inr (subst (λ n. Has (list_at w n) q t) (sym same) (subst (λ es. Has es q t) (sym p.here) tail))
        ]
        | inr differs ↦ inr (subst (λ es. Has es q t) (sym (p.others o differs)) h)
      ]

  -- another tick has the same timers in each slot
  pub pop_due : (t : ℕ) → a.deadline ≢ t → (o : ℕ) → due_at t (timers_in w o) ≡ due_at t (timers_in v o)
  pop_due t differs o =
      elim (cases_eq o at) [
        | inl same ↦ rw same (ap (λ es. due_at t (rows es)) p.here ∙ sym (at_other t a (rows p.rest) differs) ∙ ap (λ es. due_at t (rows es)) (sym p.was))
        | inr other ↦ ap (λ es. due_at t (rows es)) (p.others o other)
      ]

  pub pop_here : (t : ℕ) → a.deadline ≡ t → due_at t (timers_in v at) ≡ a ∷ due_at t (timers_in w at)
  pop_here t same = ap (λ es. due_at t (rows es)) p.was ∙ at_here t a (rows p.rest) same ∙ ap (λ es. a ∷ due_at t (rows es)) (sym p.here)

  pub pop_shorter : length (list_at w at) + 1 ≡ length (list_at v at)
  pop_shorter = let x = ap length p.was in let y = ap length p.here in omega (arith, x, y)

-- the timer was due, and its key is told
module _ (tick at place : ℕ) (a : Timer) (find find' : ℕ → Option ℕ) (v w : Lists Timer) (p : Popped v w at place a)
    (drained : IsDrained tick at find v) (due_now : a.deadline ≡ tick)
    (finds : (q : ℕ) → find' q ≡ cond (nat_eq a.key q) None (find q)) where
  find_other : (q : ℕ) → a.key ≢ q → find' q ≡ find q
  find_other q differs = finds q ∙ ap (λ t. cond t None (find q)) (ne_eqb a.key q differs)

  find_gone : (q : ℕ) → a.key ≡ q → find' q ≡ None
  find_gone q same = finds q ∙ ap (λ t. cond t None (find q)) (eq-eqb a.key q same)

  some_same : (x y : ℕ) → ◌≡◌ {A = Option ℕ} (Some x) (Some y) → x ≡ y
  some_same x y h = cc

  fired_keyed : IsKeyed find' w
  fired_keyed = record {
    found = λ key q is.
        elim (cases_eq a.key key) [
          | inl same ↦ absurd (let e : ◌≡◌ {A = Option ℕ} None (Some q) = sym (find_gone key same) ∙ is in cc)
          | inr differs ↦
              let k = drained.keyed.found key q (sym (find_other key differs) ∙ is) in
              elim (pop_fore v w at place a p k.at q k.timer k.has) [
                | inl head ↦ absurd (differs (ap (λ t. t.key) head.2 ∙ k.same))
                | inr there ↦ record { at = k.at; timer = k.timer; has = there; same = k.same }
              ]
        ];
    kept = λ o q t has.
        let old = drained.keyed.kept o q t (pop_back v w at place a p o q t has) in
        elim (cases_eq a.key t.key) [
          | inl same ↦
              let mine = drained.keyed.kept at place a (pop_has v w at place a p) in
              let e : place ≡ q = some_same place q (sym mine ∙ ap find same ∙ old) in
              absurd (p.vacant o t (subst (λ n. Has (list_at w o) n t) (sym e) has))
          | inr differs ↦ find_other t.key differs ∙ old
        ];
  }

  pub fired_drained : IsDrained tick at find' w
  fired_drained = record {
    within = (let n = p.width in omega (arith, n, drained.within));
    keyed = fired_keyed;
    after = λ o q t other has. drained.after o q t other (pop_back v w at place a p o q t has);
    left = λ q t has. drained.left q t (pop_back v w at place a p at q t has);
    range = λ o q t has. drained.range o q t (pop_back v w at place a p o q t has);
  }

  pub fired_later : KeepsLater tick at v w
  fired_later t lt =
      let differs : a.deadline ≢ t = λ e. omega (arith, e, due_now, lt) in
      ap (λ l. l ++ due_at t (timers_in w at)) (pop_due v w at place a p t differs (slot tick t))
      ∙ ap (λ l. due_at t (timers_in v (slot tick t)) ++ l) (pop_due v w at place a p t differs at)

  pub fired_keys : (due : List ℕ) → (due ++ a.key ∷ []) ++ fired tick at w ≡ due ++ fired tick at v
  fired_keys due = append_assoc due (a.key ∷ []) (fired tick at w) ∙ ap (λ l. due ++ keys_of l) (sym (pop_here v w at place a p tick due_now))

  pub fired_below : (least : ℕ) → least ≤ at → NoneBelow v least → NoneBelow w least
  fired_below least le below o lt = p.others o (λ e. omega (arith, e, le, lt)) ∙ below o lt

-- the timer is due later, and goes into a lower slot
module _ (tick at place : ℕ) (a : Timer) (find : ℕ → Option ℕ) (v w x : Lists Timer) (p : Popped v w at place a)
    (u : Put w x (slot tick a.deadline) place a) (drained : IsDrained tick at find v) (differs : a.deadline ≢ tick) where
  abbrev lower : ℕ
  lower = slot tick a.deadline

  pub is_later : tick < a.deadline
  is_later = let l = (drained.left place a (pop_has v w at place a p)).0 in omega (arith, l, differs)

  pub is_lower : lower < at
  is_lower = (drained.left place a (pop_has v w at place a p)).1 is_later

  put_back : (o q : ℕ) (t : Timer) → Has (list_at x o) q t → ((o ≡ lower) × (place ≡ q) × (a ≡ t)) ⊎ Has (list_at v o) q t
  put_back o q t h =
      elim (cases_eq o lower) [
        | inl same ↦ elim (has_on (list_at w lower) place q a t (subst (λ es. Has es q t) u.here (subst (λ n. Has (list_at x n) q t) same h))) [
          | inl last ↦ inl (same, last.0, last.1)
          | inr there ↦ inr (subst (λ n. Has (list_at v n) q t) (sym same) (pop_back v w at place a p lower q t there))
        ]
        | inr other ↦ inr (pop_back v w at place a p o q t (subst (λ es. Has es q t) (u.others o other) h))
      ]

  put_fore : (o q : ℕ) (t : Timer) → Has (list_at w o) q t → Has (list_at x o) q t
  put_fore o q t h =
      elim (cases_eq o lower) [
        | inl same ↦ subst (λ n. Has (list_at x n) q t) (sym same) (subst (λ es. Has es q t) (sym u.here)
            (on_has (list_at w lower) place q a t (subst (λ n. Has (list_at w n) q t) same h)))
        | inr other ↦ subst (λ es. Has es q t) (sym (u.others o other)) h
      ]

  put_has : Has (list_at x lower) place a
  put_has = subst (λ es. Has es place a) (sym u.here) (on_last (list_at w lower) place a)

  moved_keyed : IsKeyed find x
  moved_keyed = record {
    found = λ key q is.
        let k = drained.keyed.found key q is in
        elim (pop_fore v w at place a p k.at q k.timer k.has) [
          | inl head ↦ record {
            at = lower;
            timer = a;
            has = subst (λ n. Has (list_at x lower) n a) head.1 put_has;
            same = ap (λ t. t.key) head.2 ∙ k.same;
          }
          | inr there ↦ record { at = k.at; timer = k.timer; has = put_fore k.at q k.timer there; same = k.same }
        ];
    kept = λ o q t has.
        elim (put_back o q t has) [
          | inl last ↦ ap (λ s. find s.key) (sym last.2) ∙ drained.keyed.kept at place a (pop_has v w at place a p) ∙ ap Some last.1
          | inr there ↦ drained.keyed.kept o q t there
        ];
  }

  pub moved_drained : IsDrained tick at find x
  moved_drained = record {
    within = (let n = u.width in let k = p.width in omega (arith, n, k, drained.within));
    keyed = moved_keyed;
    after = λ o q t other has.
        elim (put_back o q t has) [
          | inl last ↦ (
            subst (λ s. tick < s.deadline) last.2 is_later,
            ap (λ s. slot tick s.deadline) (sym last.2) ∙ sym last.0,
          )
          | inr there ↦ drained.after o q t other there
        ];
    left = λ q t has.
        elim (put_back at q t has) [
          | inl last ↦ absurd (let l = is_lower in let e = last.0 in omega (arith, l, e))
          | inr there ↦ drained.left q t there
        ];
    range = λ o q t has.
        elim (put_back o q t has) [
          | inl last ↦ subst (λ s. s.deadline < 2 ^ 64) last.2 (drained.range at place a (pop_has v w at place a p))
          | inr there ↦ drained.range o q t there
        ];
  }

  at_not_lower : at ≢ lower
  at_not_lower e = let l = is_lower in omega (arith, l, e)

  put_due : (t : ℕ) → a.deadline ≢ t → (o : ℕ) → due_at t (timers_in x o) ≡ due_at t (timers_in w o)
  put_due t other o =
      elim (cases_eq o lower) [
        | inl same ↦ rw same (ap (λ es. due_at t (rows es)) u.here
            ∙ ap (due_at t) (map-append (λ e. e.1) (list_at w lower) ((place, a) ∷ []))
            ∙ filter-append (λ s. eqb s.deadline t) (timers_in w lower) (a ∷ [])
            ∙ ap (λ l. due_at t (timers_in w lower) ++ l) (at_other t a [] other) ∙ append-nil (due_at t (timers_in w lower)))
        | inr apart ↦ ap (λ es. due_at t (rows es)) (u.others o apart)
      ]

  put_here : (t : ℕ) → a.deadline ≡ t → due_at t (timers_in x lower) ≡ due_at t (timers_in w lower) ++ a ∷ []
  put_here t same =
      ap (λ es. due_at t (rows es)) u.here
      ∙ ap (due_at t) (map-append (λ e. e.1) (list_at w lower) ((place, a) ∷ []))
      ∙ filter-append (λ s. eqb s.deadline t) (timers_in w lower) (a ∷ [])
      ∙ ap (λ l. due_at t (timers_in w lower) ++ l) (at_here t a [] same)

  pub moved_later : KeepsLater tick at v x
  moved_later t lt =
      elim (cases_eq a.deadline t) [
        | inl same ↦
            let there : slot tick t ≡ lower = ap (slot tick) (sym same) in
            ap (λ n. due_at t (timers_in x n) ++ due_at t (timers_in x at)) there
            ∙ ap (λ l. l ++ due_at t (timers_in x at)) (put_here t same)
            ∙ append_assoc (due_at t (timers_in w lower)) (a ∷ []) (due_at t (timers_in x at))
            ∙ ap (λ es. due_at t (timers_in w lower) ++ a ∷ due_at t (rows es)) (u.others at at_not_lower)
            ∙ ap (λ es. due_at t (rows es) ++ a ∷ due_at t (timers_in w at)) (p.others lower (λ e. at_not_lower (sym e)))
            ∙ ap (λ l. due_at t (timers_in v lower) ++ l) (sym (pop_here v w at place a p t same))
            ∙ ap (λ n. due_at t (timers_in v n) ++ due_at t (timers_in v at)) (sym there)
        | inr other ↦
            ap (λ l. l ++ due_at t (timers_in x at)) (put_due t other (slot tick t) ∙ pop_due v w at place a p t other (slot tick t))
            ∙ ap (λ l. due_at t (timers_in v (slot tick t)) ++ l) (put_due t other at ∙ pop_due v w at place a p t other at)
      ]

  pub moved_keys : fired tick at x ≡ fired tick at v
  moved_keys = ap keys_of (put_due tick differs at ∙ pop_due v w at place a p tick differs at)

  pub moved_shorter : length (list_at x at) + 1 ≡ length (list_at v at)
  moved_shorter = ap (λ es. length es + 1) (u.others at at_not_lower) ∙ pop_shorter v w at place a p

  pub moved_below : (least : ℕ) → least ≤ lower → NoneBelow v least → NoneBelow x least
  moved_below least le below o lt =
      let l = is_lower in
      u.others o (λ e. omega (arith, e, le, lt)) ∙ p.others o (λ e. omega (arith, e, le, lt, l)) ∙ below o lt
