-- A timer is added, and the timer of a key is taken off.
use Rattle.std.proofs.Common.{◌≡◌, ◌≢◌, ◌∙◌, ◌⊎◌, ℕ, zero, suc, ◌+◌, ◌^◌, ◌<◌, ◌≤◌, List, [], ◌∷◌, ◌++◌, length, map, refl, ap, sym, subst, inl, inr, arith, cond, nat_eq, not, Option, Some, None, append-nil, slice_index_or, replicate}
use Rattle.std.specs.Prelude.{◌==◌}
use Rattle.std.proofs.Math.ListN.{get_or-map}
use Rattle.std.proofs.lemmas.Bool.{cases_eq, ne_eqb, eq-eqb}
use Rattle.std.proofs.lemmas.List.{map-append, length-append}
use Rattle.std.proofs.lemmas.List.Elements.{filter-append}
use Rattle.index_lists.specs.Lists.{Lists, list_at, Has, without}
use Rattle.timing_wheel.specs.declared.levels.Timer.{Timer}
use Rattle.timing_wheel.specs.Slots.{slot}
use Rattle.timing_wheel.specs.Queue.{placed}
use Rattle.timing_wheel.specs.Timers.{due_at, by_deadline, no_later, but, IsPending}
use Rattle.timing_wheel.specs.Levels.{rows, timers_in, timers_of, NoneBelow, InPlace, IsKeyed, KeepsTimers}
use Rattle.timing_wheel.proofs.Queue.{at_other, by_deadline_filter, by_deadline_added, le_cases, keeps, drops}
use Rattle.timing_wheel.proofs.Settling.{Put, has_on, on_has, on_last}
use Rattle.timing_wheel.proofs.Turning.{slot_due, none_has}

some_same : (x y : ℕ) → ◌≡◌ {A = Option ℕ} (Some x) (Some y) → x ≡ y
some_same x y h = cc

pub has_width : (v : Lists Timer) (at place : ℕ) (t : Timer) → Has (list_at v at) place t → 0 < length v.lists + v.spare
has_width v at place t has = go v.lists has
  where
    go : (lists : List (List (ℕ × Timer))) → Has (slice_index_or lists at []) place t → 0 < length lists + v.spare
    go [] h = absurd h
    go (l ∷ lists) h = omega arith

-- the same lists
module _ (v w : Lists Timer) (list_same : (o : ℕ) → list_at w o ≡ list_at v o) where
  has_same : (o place : ℕ) (t : Timer) → Has (list_at w o) place t → Has (list_at v o) place t
  has_same o place t has = subst (λ es. Has es place t) (list_same o) has

  pub same_inplace : (now : ℕ) → InPlace now v → InPlace now w
  same_inplace now h = record {
    after = λ o place t has. h.after o place t (has_same o place t has);
    placed = λ o place t has. h.placed o place t (has_same o place t has);
    range = λ o place t has. h.range o place t (has_same o place t has);
  }

  pub same_keyed : (find find' : ℕ → Option ℕ) → ((q : ℕ) → find' q ≡ find q) → IsKeyed find v → IsKeyed find' w
  same_keyed find find' finds h = record {
    found = λ key place is.
        let k = h.found key place (sym (finds key) ∙ is) in
        record { at = k.at; timer = k.timer; has = subst (λ es. Has es place k.timer) (sym (list_same k.at)) k.has; same = k.same };
    kept = λ o place t has. finds t.key ∙ h.kept o place t (has_same o place t has);
  }

  pub same_below : (least : ℕ) → NoneBelow v least → NoneBelow w least
  same_below least below o lt = list_same o ∙ below o lt

-- pending keys
placed_pending : (a : Timer) (xs : List Timer) (key : ℕ) → IsPending (placed no_later a xs) key → (a.key ≡ key) ⊎ IsPending xs key
placed_pending a [] key h = h
placed_pending a (b ∷ rest) key h =
    elim (le_cases a.deadline b.deadline) [
      | inl x ↦ subst (λ q. IsPending (cond q (a ∷ b ∷ rest) (b ∷ placed no_later a rest)) key) x.1 h
      | inr x ↦ elim (subst (λ q. IsPending (cond q (a ∷ b ∷ rest) (b ∷ placed no_later a rest)) key) x.1 h) [
        | inl head ↦ inr (inl head)
        | inr tail ↦ elim (placed_pending a rest key tail) [
          | inl mine ↦ inl mine
          | inr other ↦ inr (inr other)
        ]
      ]
    ]

pending_placed : (a : Timer) (xs : List Timer) (key : ℕ) → (a.key ≡ key) ⊎ IsPending xs key → IsPending (placed no_later a xs) key
pending_placed a [] key h = h
pending_placed a (b ∷ rest) key h =
    elim (le_cases a.deadline b.deadline) [
      | inl x ↦ subst (λ q. IsPending (cond q (a ∷ b ∷ rest) (b ∷ placed no_later a rest)) key) (sym x.1) h
      | inr x ↦ subst (λ q. IsPending (cond q (a ∷ b ∷ rest) (b ∷ placed no_later a rest)) key) (sym x.1)
          (elim h [
            | inl mine ↦ inr (pending_placed a rest key (inl mine))
            | inr other ↦ elim other [
              | inl head ↦ inl head
              | inr tail ↦ inr (pending_placed a rest key (inr tail))
            ]
          ])
    ]

pub queue_pending : (xs : List Timer) (key : ℕ) → IsPending (by_deadline xs) key → IsPending xs key
queue_pending [] key h = h
queue_pending (a ∷ rest) key h =
    elim (placed_pending a (by_deadline rest) key h) [
      | inl mine ↦ inl mine
      | inr other ↦ inr (queue_pending rest key other)
    ]

pub pending_queue : (xs : List Timer) (key : ℕ) → IsPending xs key → IsPending (by_deadline xs) key
pending_queue [] key h = h
pending_queue (a ∷ rest) key (inl mine) = pending_placed a (by_deadline rest) key (inl mine)
pending_queue (a ∷ rest) key (inr other) = pending_placed a (by_deadline rest) key (inr (pending_queue rest key other))

pending_first : (xs ys : List Timer) (key : ℕ) → IsPending xs key → IsPending (xs ++ ys) key
pending_first [] ys key h = absurd h
pending_first (x ∷ xs) ys key (inl h) = inl h
pending_first (x ∷ xs) ys key (inr h) = inr (pending_first xs ys key h)

pending_second : (xs ys : List Timer) (key : ℕ) → IsPending ys key → IsPending (xs ++ ys) key
pending_second [] ys key h = h
pending_second (x ∷ xs) ys key h = inr (pending_second xs ys key h)

pending_either : (xs ys : List Timer) (key : ℕ) → IsPending (xs ++ ys) key → IsPending xs key ⊎ IsPending ys key
pending_either [] ys key h = inr h
pending_either (x ∷ xs) ys key (inl h) = inl (inl h)
pending_either (x ∷ xs) ys key (inr h) =
    elim (pending_either xs ys key h) [
      | inl a ↦ inl (inr a)
      | inr b ↦ inr b
    ]

row_pending : (es : List (ℕ × Timer)) (key : ℕ) → IsPending (rows es) key → (place : ℕ) × (t : Timer) × (Has es place t) × (t.key ≡ key)
row_pending [] key h = absurd h
row_pending (e ∷ es) key (inl h) = (e.0, e.1, inl (refl, refl), h)
row_pending (e ∷ es) key (inr h) = let r = row_pending es key h in (r.0, r.1, inr r.2, r.3)

pending_row : (es : List (ℕ × Timer)) (key place : ℕ) (t : Timer) → Has es place t → t.key ≡ key → IsPending (rows es) key
pending_row [] key place t h same = absurd h
pending_row (e ∷ es) key place t (inl h) same = inl (ap (λ a. a.key) h.1 ∙ same)
pending_row (e ∷ es) key place t (inr h) same = inr (pending_row es key place t h same)

pub pending_has : (lists : List (List (ℕ × Timer))) (key : ℕ) → IsPending (timers_of lists) key
    → (o : ℕ) × (place : ℕ) × (t : Timer) × (Has (slice_index_or lists o []) place t) × (t.key ≡ key)
pending_has [] key h = absurd h
pending_has (l ∷ lists) key h =
    elim (pending_either (rows l) (timers_of lists) key h) [
      | inl a ↦ (let r = row_pending l key a in (0, r.0, r.1, r.2, r.3))
      | inr b ↦ (let r = pending_has lists key b in (suc r.0, r.1, r.2, r.3, r.4))
    ]

pub has_pending : (lists : List (List (ℕ × Timer))) (key o place : ℕ) (t : Timer) → Has (slice_index_or lists o []) place t → t.key ≡ key
    → IsPending (timers_of lists) key
has_pending [] key o place t h same = absurd h
has_pending (l ∷ lists) key zero place t h same = pending_first (rows l) (timers_of lists) key (pending_row l key place t h same)
has_pending (l ∷ lists) key (suc o) place t h same = pending_second (rows l) (timers_of lists) key (has_pending lists key o place t h same)

-- a key without a timer has no place
pub none_kept : (find : ℕ → Option ℕ) (v : Lists Timer) (key : ℕ) → IsKeyed find v → (IsPending (by_deadline (timers_of v.lists)) key → ⊥) → find key ≡ None
none_kept find v key keyed fresh = go (find key) refl
  where
    go : (o : Option ℕ) → find key ≡ o → find key ≡ None
    go None e = e
    go (Some place) e = absurd (let k = keyed.found key place e in
        fresh (pending_queue (timers_of v.lists) key (has_pending v.lists key k.at place k.timer k.has k.same)))

-- a timer is added
module _ (now place : ℕ) (a : Timer) (find find' : ℕ → Option ℕ) (v w : Lists Timer) (u : Put v w (slot now a.deadline) place a)
    (inplace : InPlace now v) (keyed : IsKeyed find v) (later : now < a.deadline) (range : a.deadline < 2 ^ 64)
    (fresh : IsPending (by_deadline (timers_of v.lists)) a.key → ⊥)
    (finds : (q : ℕ) → find' q ≡ cond (nat_eq a.key q) (Some place) (find q)) where
  abbrev at : ℕ
  at = slot now a.deadline

  add_back : (o q : ℕ) (t : Timer) → Has (list_at w o) q t → ((o ≡ at) × (place ≡ q) × (a ≡ t)) ⊎ Has (list_at v o) q t
  add_back o q t h =
      elim (cases_eq o at) [
        | inl same ↦ elim (has_on (list_at v at) place q a t (subst (λ es. Has es q t) u.here (subst (λ n. Has (list_at w n) q t) same h))) [
          | inl last ↦ inl (same, last.0, last.1)
          | inr there ↦ inr (subst (λ n. Has (list_at v n) q t) (sym same) there)
        ]
        | inr other ↦ inr (subst (λ es. Has es q t) (u.others o other) h)
      ]

  add_fore : (o q : ℕ) (t : Timer) → Has (list_at v o) q t → Has (list_at w o) q t
  add_fore o q t h =
      elim (cases_eq o at) [
        | inl same ↦ subst (λ n. Has (list_at w n) q t) (sym same) (subst (λ es. Has es q t) (sym u.here)
            (on_has (list_at v at) place q a t (subst (λ n. Has (list_at v n) q t) same h)))
        | inr other ↦ subst (λ es. Has es q t) (sym (u.others o other)) h
      ]

  pub added_inplace : InPlace now w
  added_inplace = record {
    after = λ o q t has. elim (add_back o q t has) [
      | inl last ↦ subst (λ s. now < s.deadline) last.2 later
      | inr there ↦ inplace.after o q t there
    ];
    placed = λ o q t has. elim (add_back o q t has) [
      | inl last ↦ ap (λ s. slot now s.deadline) (sym last.2) ∙ sym last.0
      | inr there ↦ inplace.placed o q t there
    ];
    range = λ o q t has. elim (add_back o q t has) [
      | inl last ↦ subst (λ s. s.deadline < 2 ^ 64) last.2 range
      | inr there ↦ inplace.range o q t there
    ];
  }

  not_mine : (o q : ℕ) (t : Timer) → Has (list_at v o) q t → a.key ≢ t.key
  not_mine o q t has same = fresh (pending_queue (timers_of v.lists) a.key (has_pending v.lists a.key o q t has (sym same)))

  add_find_mine : (q : ℕ) → a.key ≡ q → find' q ≡ Some place
  add_find_mine q same = finds q ∙ ap (λ t. cond t (Some place) (find q)) (eq-eqb a.key q same)

  add_find_other : (q : ℕ) → a.key ≢ q → find' q ≡ find q
  add_find_other q differs = finds q ∙ ap (λ t. cond t (Some place) (find q)) (ne_eqb a.key q differs)

  pub added_keyed : IsKeyed find' w
  added_keyed = record {
    found = λ key q is. elim (cases_eq a.key key) [
      | inl same ↦ record {
        at = at;
        timer = a;
        has = subst (λ n. Has (list_at w at) n a) (some_same place q (sym (add_find_mine key same) ∙ is))
            (subst (λ es. Has es place a) (sym u.here) (on_last (list_at v at) place a));
        same = same;
      }
      | inr differs ↦
          let k = keyed.found key q (sym (add_find_other key differs) ∙ is) in
          record { at = k.at; timer = k.timer; has = add_fore k.at q k.timer k.has; same = k.same }
    ];
    kept = λ o q t has. elim (add_back o q t has) [
      | inl last ↦ add_find_mine t.key (ap (λ s. s.key) last.2) ∙ ap Some last.1
      | inr there ↦ add_find_other t.key (not_mine o q t there) ∙ keyed.kept o q t there
    ];
  }

  pub added_below : (least : ℕ) → least ≤ at → NoneBelow v least → NoneBelow w least
  added_below least le below o lt = u.others o (λ e. omega (arith, e, le, lt)) ∙ below o lt

  pub added_queue : by_deadline (timers_of w.lists) ≡ by_deadline (by_deadline (timers_of v.lists) ++ a ∷ [])
  added_queue =
      by_deadline_added (timers_of v.lists) (timers_of w.lists) a
      (λ t. slot_due now t w added_inplace ∙ slot_added t ∙ ap (λ l. l ++ due_at t (a ∷ [])) (sym (slot_due now t v inplace))
      ∙ sym (filter-append (λ s. s.deadline == t) (timers_of v.lists) (a ∷ [])))
    where
      slot_added : (t : ℕ) → due_at t (timers_in w (slot now t)) ≡ due_at t (timers_in v (slot now t)) ++ due_at t (a ∷ [])
      slot_added t =
          elim (cases_eq (slot now t) at) [
            | inl same ↦ rw same (ap (λ es. due_at t (rows es)) u.here
                ∙ ap (due_at t) (map-append (λ e. e.1) (list_at v at) ((place, a) ∷ []))
                ∙ filter-append (λ s. s.deadline == t) (timers_in v at) (a ∷ []))
            | inr other ↦ ap (λ es. due_at t (rows es)) (u.others (slot now t) other)
                ∙ sym (append-nil (due_at t (timers_in v (slot now t))))
                ∙ ap (λ l. due_at t (timers_in v (slot now t)) ++ l) (sym (at_other t a [] (λ e. other (ap (slot now) (sym e)))))
          ]

-- rows but for that of a place
without_back : (place : ℕ) (es : List (ℕ × Timer)) (q : ℕ) (t : Timer) → Has (without place es) q t → Has es q t × (q ≢ place)
without_back place [] q t h = absurd h
without_back place (e ∷ es) q t h =
    elim (cases_eq e.0 place) [
      | inl same ↦
          let r = without_back place es q t (subst (λ l. Has l q t) (drops (λ x. not (x.0 == place)) e es (ap not (eq-eqb e.0 place same))) h) in
          (inr r.0, r.1)
      | inr differs ↦
          elim (subst (λ l. Has l q t) (keeps (λ x. not (x.0 == place)) e es (ap not (ne_eqb e.0 place differs))) h) [
            | inl head ↦ (inl head, λ k. differs (head.0 ∙ k))
            | inr tail ↦ (let r = without_back place es q t tail in (inr r.0, r.1))
          ]
    ]

without_fore : (place : ℕ) (es : List (ℕ × Timer)) (q : ℕ) (t : Timer) → Has es q t → q ≢ place → Has (without place es) q t
without_fore place [] q t h other = absurd h
without_fore place (e ∷ es) q t (inl h) other =
    subst (λ l. Has l q t) (sym (keeps (λ x. not (x.0 == place)) e es (ap not (ne_eqb e.0 place (λ k. other (sym h.0 ∙ k)))))) (inl h)
without_fore place (e ∷ es) q t (inr h) other =
    elim (cases_eq e.0 place) [
      | inl same ↦ subst (λ l. Has l q t) (sym (drops (λ x. not (x.0 == place)) e es (ap not (eq-eqb e.0 place same)))) (without_fore place es q t h other)
      | inr differs ↦ subst (λ l. Has l q t) (sym (keeps (λ x. not (x.0 == place)) e es (ap not (ne_eqb e.0 place differs))))
          (inr (without_fore place es q t h other))
    ]

rows_but : (place key : ℕ) (es : List (ℕ × Timer)) → ((q : ℕ) (t : Timer) → Has es q t → q ≡ place → t.key ≡ key)
    → ((q : ℕ) (t : Timer) → Has es q t → t.key ≡ key → q ≡ place) → rows (without place es) ≡ but key (rows es)
rows_but place key [] there mine = refl
rows_but place key (e ∷ es) there mine =
    let rest = rows_but place key es (λ q t has. there q t (inr has)) (λ q t has. mine q t (inr has)) in
    elim (cases_eq e.0 place) [
      | inl same ↦ ap rows (drops (λ x. not (x.0 == place)) e es (ap not (eq-eqb e.0 place same))) ∙ rest
          ∙ sym (drops (λ x. not (x.key == key)) e.1 (rows es) (ap not (eq-eqb e.1.key key (there e.0 e.1 (inl (refl, refl)) same))))
      | inr differs ↦ ap rows (keeps (λ x. not (x.0 == place)) e es (ap not (ne_eqb e.0 place differs))) ∙ ap (λ l. e.1 ∷ l) rest
          ∙ sym (keeps (λ x. not (x.key == key)) e.1 (rows es) (ap not (ne_eqb e.1.key key (λ k. differs (mine e.0 e.1 (inl (refl, refl)) k)))))
    ]

flat_but : (place key : ℕ) (lists : List (List (ℕ × Timer))) → ((o q : ℕ) (t : Timer) → Has (slice_index_or lists o []) q t → q ≡ place → t.key ≡ key)
    → ((o q : ℕ) (t : Timer) → Has (slice_index_or lists o []) q t → t.key ≡ key → q ≡ place)
    → timers_of (map (without place) lists) ≡ but key (timers_of lists)
flat_but place key [] there mine = refl
flat_but place key (l ∷ lists) there mine =
    ap (λ x. x ++ timers_of (map (without place) lists)) (rows_but place key l (there 0) (mine 0))
    ∙ ap (λ x. but key (rows l) ++ x) (flat_but place key lists (λ o. there (suc o)) (λ o. mine (suc o)))
    ∙ sym (filter-append (λ x. not (x.key == key)) (rows l) (timers_of lists))

-- a key's timer is taken off
module _ (now place key : ℕ) (gone : Timer) (find find' : ℕ → Option ℕ) (v w : Lists Timer) (inplace : InPlace now v) (keyed : IsKeyed find v)
    (is : find key ≡ Some place) (off : w.lists ≡ map (without place) v.lists)
    (row : (o : ℕ) (t : Timer) → Has (list_at v o) place t → gone ≡ t)
    (finds : (q : ℕ) → find' q ≡ cond (nat_eq key q) None (find q)) where
  off_at : (o : ℕ) → list_at w o ≡ without place (list_at v o)
  off_at o = ap (λ ls. slice_index_or ls o []) off ∙ get_or-map (without place) v.lists o []

  off_back : (o q : ℕ) (t : Timer) → Has (list_at w o) q t → Has (list_at v o) q t × (q ≢ place)
  off_back o q t has = without_back place (list_at v o) q t (subst (λ es. Has es q t) (off_at o) has)

  gone_key : gone.key ≡ key
  gone_key = let k = keyed.found key place is in ap (λ t. t.key) (row k.at k.timer k.has) ∙ k.same

  pub off_inplace : InPlace now w
  off_inplace = record {
    after = λ o q t has. inplace.after o q t (off_back o q t has).0;
    placed = λ o q t has. inplace.placed o q t (off_back o q t has).0;
    range = λ o q t has. inplace.range o q t (off_back o q t has).0;
  }

  pub off_keyed : IsKeyed find' w
  off_keyed = record {
    found = λ k q found. elim (cases_eq key k) [
      | inl same ↦ absurd (let e : ◌≡◌ {A = Option ℕ} None (Some q) =
          sym (finds k ∙ ap (λ t. cond t None (find k)) (eq-eqb key k same)) ∙ found in cc)
      | inr differs ↦
          let h = keyed.found k q (sym (finds k ∙ ap (λ t. cond t None (find k)) (ne_eqb key k differs)) ∙ found) in
          let other : q ≢ place = λ e. differs (sym gone_key
          ∙ ap (λ t. t.key) (row h.at h.timer (subst (λ n. Has (list_at v h.at) n h.timer) e h.has)) ∙ h.same) in
          record {
            at = h.at;
            timer = h.timer;
            has = subst (λ es. Has es q h.timer) (sym (off_at h.at)) (without_fore place (list_at v h.at) q h.timer h.has other);
            same = h.same;
          }
    ];
    kept = λ o q t has.
        let old = off_back o q t has in
        let k = keyed.kept o q t old.0 in
        let other : key ≢ t.key = λ e. old.1 (some_same q place (sym k ∙ ap find (sym e) ∙ is)) in
        finds t.key ∙ ap (λ b. cond b None (find t.key)) (ne_eqb key t.key other) ∙ k;
  }

  pub off_below : (least : ℕ) → NoneBelow v least → NoneBelow w least
  off_below least below o lt = off_at o ∙ ap (without place) (below o lt)

  pub off_queue : by_deadline (timers_of w.lists) ≡ but key (by_deadline (timers_of v.lists))
  off_queue =
      ap (λ ls. by_deadline (timers_of ls)) off
      ∙ ap by_deadline (flat_but place key v.lists
      (λ o q t has e. ap (λ s. s.key) (sym (row o t (subst (λ n. Has (list_at v o) n t) e has))) ∙ gone_key)
      (λ o q t has e. some_same q place (sym (keyed.kept o q t has) ∙ ap find e ∙ is)))
      ∙ by_deadline_filter (λ x. not (x.key == key)) (timers_of v.lists)

-- more slots
wide_at : (lists : List (List (ℕ × Timer))) (n o : ℕ) → slice_index_or (lists ++ replicate n []) o [] ≡ slice_index_or lists o []
wide_at [] n o = nothing_there n o
  where
    nothing_there : (m i : ℕ) → ◌≡◌ {A = List (ℕ × Timer)} (slice_index_or (replicate m []) i []) []
    nothing_there zero i = refl
    nothing_there (suc m) zero = refl
    nothing_there (suc m) (suc i) = nothing_there m i
wide_at (l ∷ lists) n zero = refl
wide_at (l ∷ lists) n (suc o) = wide_at lists n o

wide_timers : (lists : List (List (ℕ × Timer))) (n : ℕ) → timers_of (lists ++ replicate n []) ≡ timers_of lists
wide_timers [] zero = refl
wide_timers [] (suc n) = wide_timers [] n
wide_timers (l ∷ lists) n = ap (λ x. rows l ++ x) (wide_timers lists n)

pub wide_keeps : (v w : Lists Timer) (n : ℕ) → w.lists ≡ v.lists ++ replicate n [] → KeepsTimers v w
wide_keeps v w n is = record {
  lists = λ o. ap (λ ls. slice_index_or ls o []) is ∙ wide_at v.lists n o;
  timers = ap timers_of is ∙ wide_timers v.lists n;
  width = let e = ap length is in let a = length-append v.lists (replicate {A = List (ℕ × Timer)} n []) in omega (arith, e, a);
}

pub same_keeps : (v w x : Lists Timer) → KeepsTimers v w → x.lists ≡ w.lists → KeepsTimers v x
same_keeps v w x k is = record {
  lists = λ o. ap (λ ls. slice_index_or ls o []) is ∙ k.lists o;
  timers = ap timers_of is ∙ k.timers;
  width = let e = ap length is in let l = k.width in omega (arith, e, l);
}

-- no timers
module _ (v : Lists Timer) (none : v.lists ≡ []) where
  pub none_at : (o : ℕ) → list_at v o ≡ []
  none_at o = ap (λ ls. slice_index_or ls o []) none

  pub none_inplace : (now : ℕ) → InPlace now v
  none_inplace now = record {
    after = λ o q t has. absurd (none_has v o q t (none_at o) has);
    placed = λ o q t has. absurd (none_has v o q t (none_at o) has);
    range = λ o q t has. absurd (none_has v o q t (none_at o) has);
  }

  pub none_keyed : (find : ℕ → Option ℕ) → ((q : ℕ) → find q ≡ None) → IsKeyed find v
  none_keyed find finds = record {
    found = λ key q is. absurd (let e : ◌≡◌ {A = Option ℕ} None (Some q) = sym (finds key) ∙ is in cc);
    kept = λ o q t has. absurd (none_has v o q t (none_at o) has);
  }
