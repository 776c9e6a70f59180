-- The queue of all slots: before and after a slot is emptied, and as now moves on.
use Rattle.std.proofs.Common.{◌≡◌, ◌≢◌, ◌∙◌, ◌⊎◌, ℕ, zero, suc, ◌+◌, ◌^◌, ◌<◌, ◌≤◌, true, false, List, [], ◌∷◌, ◌++◌, length, refl, ap, sym, subst, inl, inr, arith, Option, Some, append-nil, append_assoc, slice_index_or}
use Rattle.std.specs.Prelude.{flat_map, min, ◌==◌}
use Rattle.std.proofs.lemmas.Bool.{cases_eq, cases_lt}
use Rattle.std.proofs.lemmas.List.{get_or_past, map-append}
use Rattle.std.proofs.lemmas.List.Elements.{filter-append}
use Rattle.index_lists.specs.Lists.{Lists, list_at, Has}
use Rattle.timing_wheel.specs.declared.levels.Timer.{Timer}
use Rattle.timing_wheel.specs.Slots.{slot}
use Rattle.timing_wheel.specs.Timers.{due_at, due_by, due_after, by_deadline, keys_of, first_due}
use Rattle.timing_wheel.specs.Levels.{rows, timers_in, timers_of, NoneBelow, IsFirstLater, InPlace, IsKeyed, IsDrained, later, KeepsLater, fired}
use Rattle.timing_wheel.proofs.Slots.{first_slots, stays, falls, still}
use Rattle.timing_wheel.proofs.Queue.{at_here, at_other, by_deadline_at, by_deadline_order, NoneBefore, none_before, queue_after, none_due, first_due_is, queue_front, InOrder}

-- where at most one list has something of a kind
flat_none : {A B : Type 0} (f : List A → List B) (lists : List (List A)) → ((i : ℕ) → f (slice_index_or lists i []) ≡ []) → flat_map f lists ≡ []
flat_none f [] none = refl
flat_none f (l ∷ lists) none = ap (λ x. x ++ flat_map f lists) (none 0) ∙ flat_none f lists (λ i. none (suc i))

flat_one : {A B : Type 0} (f : List A → List B) (lists : List (List A)) (k : ℕ) → f [] ≡ [] → ((i : ℕ) → i ≢ k → f (slice_index_or lists i []) ≡ [])
    → flat_map f lists ≡ f (slice_index_or lists k [])
flat_one f [] k empty none = sym empty
flat_one f (l ∷ lists) zero empty none =
    ap (λ x. f l ++ x) (flat_none f lists (λ i. none (suc i) (λ e. omega (arith, e)))) ∙ append-nil (f l)
flat_one f (l ∷ lists) (suc k) empty none =
    ap (λ x. x ++ flat_map f lists) (none 0 (λ e. omega (arith, e))) ∙ flat_one f lists k empty (λ i differs. none (suc i) (λ e. differs (omega (arith, e))))

due_flat : (t : ℕ) (lists : List (List (ℕ × Timer))) → due_at t (timers_of lists) ≡ flat_map (λ l. due_at t (rows l)) lists
due_flat t [] = refl
due_flat t (l ∷ lists) = filter-append (λ a. a.deadline == t) (rows l) (timers_of lists) ∙ ap (λ x. due_at t (rows l) ++ x) (due_flat t lists)

-- a list none of whose timers is due at the tick
pub no_due : (t : ℕ) (es : List (ℕ × Timer)) → ((place : ℕ) (a : Timer) → Has es place a → a.deadline ≢ t) → due_at t (rows es) ≡ []
no_due t [] none = refl
no_due t (e ∷ es) none = at_other t e.1 (rows es) (none e.0 e.1 (inl (refl, refl))) ∙ no_due t es (λ place a has. none place a (inr has))

-- the timers of a tick are those of one slot
pub due_one : (t k : ℕ) (v : Lists Timer) → ((i place : ℕ) (a : Timer) → i ≢ k → Has (list_at v i) place a → a.deadline ≢ t)
    → due_at t (timers_of v.lists) ≡ due_at t (timers_in v k)
due_one t k v none =
    due_flat t v.lists
    ∙ flat_one (λ l. due_at t (rows l)) v.lists k refl (λ i differs. no_due t (list_at v i) (λ place a has. none i place a differs has))

pub due_nowhere : (t : ℕ) (v : Lists Timer) → ((i place : ℕ) (a : Timer) → Has (list_at v i) place a → a.deadline ≢ t) → due_at t (timers_of v.lists) ≡ []
due_nowhere t v none =
    due_flat t v.lists ∙ flat_none (λ l. due_at t (rows l)) v.lists (λ i. no_due t (list_at v i) (λ place a has. none i place a has))

-- the queue has no timer before a tick
pub queue_before : (t : ℕ) (v : Lists Timer) → ((i place : ℕ) (a : Timer) → Has (list_at v i) place a → t ≤ a.deadline)
    → NoneBefore t (by_deadline (timers_of v.lists))
queue_before t v later =
    none_before t (by_deadline (timers_of v.lists)) (λ s lt. by_deadline_at s (timers_of v.lists)
    ∙ due_nowhere s v (λ i place a has e. (let l = later i place a has in omega (arith, l, e, lt))))

pub none_has : (v : Lists Timer) (i place : ℕ) (a : Timer) → list_at v i ≡ [] → Has (list_at v i) place a → ⊥
none_has v i place a none has = subst (λ es. Has es place a) none has

-- a timer in its slot is due at its tick
pub slot_due : (now t : ℕ) (v : Lists Timer) → InPlace now v → due_at t (timers_of v.lists) ≡ due_at t (timers_in v (slot now t))
slot_due now t v inplace =
    due_one t (slot now t) v (λ i place a differs has e. differs (sym (inplace.placed i place a has) ∙ ap (slot now) e))

-- a slot begins to be emptied: the first that isn't empty, at a tick up to the first of its timers
module _ (now tick at m mplace : ℕ) (mt : Timer) (v : Lists Timer) (inplace : InPlace now v) (below : NoneBelow v at)
    (has_m : Has (list_at v at) mplace mt) (is_m : mt.deadline ≡ m)
    (least : (place : ℕ) (a : Timer) → Has (list_at v at) place a → m ≤ a.deadline) (from : now ≤ tick) (upto : tick ≤ m)
    (moved : (tick ≡ m) ⊎ (slot tick m ≢ at)) where
  range_m : m < 2 ^ 64
  range_m = subst (λ n. n < 2 ^ 64) is_m (inplace.range at mplace mt has_m)

  after_m : now < m
  after_m = subst (λ n. now < n) is_m (inplace.after at mplace mt has_m)

  slot_m : slot now m ≡ at
  slot_m = ap (slot now) (sym is_m) ∙ inplace.placed at mplace mt has_m

  -- the timers of later slots
  later_slot : (o place : ℕ) (a : Timer) → o ≢ at → Has (list_at v o) place a → at < o
  later_slot o place a other has =
      elim (cases_lt o at) [
        | inl lt ↦ absurd (none_has v o place a (below o lt) has)
        | inr ge ↦ omega (arith, ge, other)
      ]

  later_order : (o place : ℕ) (a : Timer) → o ≢ at → Has (list_at v o) place a → slot now m < slot now a.deadline
  later_order o place a other has =
      let l = later_slot o place a other has in
      let p = inplace.placed o place a has in omega (arith, l, p, slot_m)

  later_due : (o place : ℕ) (a : Timer) → o ≢ at → Has (list_at v o) place a → m < a.deadline
  later_due o place a other has =
      first_slots now tick m a.deadline range_m (inplace.range o place a has) after_m (inplace.after o place a has) (later_order o place a other has)

  moved_slot : (tick ≡ m) ⊎ (slot tick m ≢ slot now m)
  moved_slot = elim moved [ inl same ↦ inl same | inr differs ↦ inr (λ e. differs (e ∙ slot_m)) ]

  pub none_earlier : (o place : ℕ) (a : Timer) → Has (list_at v o) place a → tick ≤ a.deadline
  none_earlier o place a has =
      elim (cases_eq o at) [
        | inl same ↦ (let l = least place a (subst (λ n. Has (list_at v n) place a) same has) in omega (arith, l, upto))
        | inr other ↦ (let l = later_due o place a other has in omega (arith, l, upto))
      ]

  pub drain_start : (find : ℕ → Option ℕ) → IsKeyed find v → at < length v.lists → IsDrained tick at find v
  drain_start find keyed wide = record {
    within = wide;
    keyed = keyed;
    after = λ o place a other has. (
      (let l = later_due o place a other has in omega (arith, l, upto)),
      stays now tick m a.deadline range_m (inplace.range o place a has) after_m (inplace.after o place a has) from upto
          (later_order o place a other has) ∙ inplace.placed o place a has,
    );
    left = λ place a has. (
      (let l = least place a has in omega (arith, l, upto)),
      λ lt. subst (λ n. slot tick a.deadline < n) (inplace.placed at place a has)
          (falls now tick m a.deadline range_m (inplace.range at place a has) after_m (inplace.after at place a has) from upto
          (least place a has) lt (slot_m ∙ sym (inplace.placed at place a has)) moved_slot),
    );
    range = inplace.range;
  }

  -- before any timer is moved
  pub later_start : (t : ℕ) → tick < t → later tick at t v ≡ due_at t (timers_of v.lists)
  later_start t lt =
      elim (cases_eq (slot now t) at) [
        | inl here ↦
            ap (λ l. l ++ due_at t (timers_in v at)) (no_due t (list_at v (slot tick t)) (λ place a has e. (in_lower here place a has e)))
            ∙ sym (slot_due now t v inplace ∙ ap (λ n. due_at t (timers_in v n)) here)
        | inr there ↦
            ap (λ l. due_at t (timers_in v (slot tick t)) ++ l) (no_due t (list_at v at)
            (λ place a has e. there (ap (slot now) (sym e) ∙ inplace.placed at place a has)))
            ∙ append-nil (due_at t (timers_in v (slot tick t)))
            ∙ sym (due_one t (slot tick t) v (λ i place a other has e. other (in_slot there i place a has e)))
      ]
    where
      in_lower : slot now t ≡ at → (place : ℕ) (a : Timer) → Has (list_at v (slot tick t)) place a → a.deadline ≡ t → ⊥
      in_lower here place a has e =
          let own = inplace.placed (slot tick t) place a has in
          let same : slot tick t ≡ at = sym own ∙ ap (slot now) e ∙ here in
          let mle = least place a (subst (λ n. Has (list_at v n) place a) same has) in
          let low = falls now tick m a.deadline range_m (inplace.range (slot tick t) place a has) after_m (inplace.after (slot tick t) place a has)
          from upto mle (omega (arith, lt, e)) (slot_m ∙ sym here ∙ ap (slot now) (sym e)) moved_slot in
          let k : slot tick a.deadline ≡ slot tick t = ap (slot tick) e in
          omega (arith, low, k, own)

      in_slot : slot now t ≢ at → (i place : ℕ) (a : Timer) → Has (list_at v i) place a → a.deadline ≡ t → i ≡ slot tick t
      in_slot there i place a has e =
          let own = inplace.placed i place a has in
          let other : i ≢ at = λ same. there (ap (slot now) (sym e) ∙ own ∙ same) in
          sym own
          ∙ sym (stays now tick m a.deadline range_m (inplace.range i place a has) after_m (inplace.after i place a has) from upto
          (later_order i place a other has))
          ∙ ap (slot tick) e

  -- the keys to be told are those of the queue
  pub fired_start : fired tick at v ≡ keys_of (due_at tick (by_deadline (timers_of v.lists)))
  fired_start =
      ap keys_of (sym (by_deadline_at tick (timers_of v.lists)
      ∙ due_one tick at v (λ i place a other has e. (let l = later_due i place a other has in omega (arith, l, e, upto)))))

  pub queue_start : NoneBefore tick (by_deadline (timers_of v.lists))
  queue_start = queue_before tick v none_earlier

  -- when the first timer is due
  pub next_start : tick ≡ m → first_due (by_deadline (timers_of v.lists)) ≡ Some m
  next_start same =
      let one = by_deadline_at m (timers_of v.lists)
      ∙ due_one m at v (λ i place a other has e. (let l = later_due i place a other has in omega (arith, l, e))) in
      let f = found_due (list_at v at) mplace has_m in
      first_due_is m f.0 (by_deadline (timers_of v.lists)) f.1 (by_deadline_order (timers_of v.lists))
      (subst (λ n. NoneBefore n (by_deadline (timers_of v.lists))) same queue_start) (one ∙ f.2)
    where
      found_due : (es : List (ℕ × Timer)) (place : ℕ) → Has es place mt → (a : Timer) × (rest : List Timer) × (due_at m (rows es) ≡ a ∷ rest)
      found_due [] place h = absurd h
      found_due (e ∷ es) place (inl h) = (e.1, due_at m (rows es), at_here m e.1 (rows es) (ap (λ a. a.deadline) h.1 ∙ is_m))
      found_due (e ∷ es) place (inr h) =
          let r = found_due es place h in
          elim (cases_eq e.1.deadline m) [
            | inl here ↦ (e.1, due_at m (rows es), at_here m e.1 (rows es) here)
            | inr other ↦ (r.0, r.1, at_other m e.1 (rows es) other ∙ r.2)
          ]

-- a slot is empty
module _ (tick at : ℕ) (find : ℕ → Option ℕ) (w : Lists Timer) (drained : IsDrained tick at find w) (empty : list_at w at ≡ []) where
  other_slot : (o place : ℕ) (a : Timer) → Has (list_at w o) place a → o ≢ at
  other_slot o place a has same = none_has w o place a (ap (list_at w) same ∙ empty) has

  pub drain_inplace : InPlace tick w
  drain_inplace = record {
    after = λ o place a has. (drained.after o place a (other_slot o place a has) has).0;
    placed = λ o place a has. (drained.after o place a (other_slot o place a has) has).1;
    range = drained.range;
  }

  drain_due : (t : ℕ) → due_at t (timers_of w.lists) ≡ later tick at t w
  drain_due t =
      slot_due tick t w drain_inplace ∙ sym (append-nil (due_at t (timers_in w (slot tick t))))
      ∙ ap (λ es. due_at t (timers_in w (slot tick t)) ++ due_at t (rows es)) (sym empty)

  pub drain_queue : (v : Lists Timer) → KeepsLater tick at v w → ((t : ℕ) → tick < t → later tick at t v ≡ due_at t (timers_of v.lists))
      → by_deadline (timers_of w.lists) ≡ due_after tick (by_deadline (timers_of v.lists))
  drain_queue v keeps start =
      queue_after tick (timers_of v.lists) (timers_of w.lists) (λ t lt. drain_due t ∙ keeps t lt ∙ start t lt)
      (λ t le. due_nowhere t w (λ i place a has e. (let l = drain_inplace.after i place a has in omega (arith, l, e, le))))

-- now moves on, and no timer comes down
pub moves_on : (now to at : ℕ) (v : Lists Timer) → InPlace now v → NoneBelow v at → IsFirstLater v at to true → now ≤ to → InPlace to v
moves_on now to at v inplace below first from = record {
  after = λ o place a has. (on o place a has).0;
  placed = λ o place a has. (on o place a has).1 ∙ inplace.placed o place a has;
  range = inplace.range;
}
  where
    on : (o place : ℕ) (a : Timer) → Has (list_at v o) place a → (to < a.deadline) × (slot to a.deadline ≡ slot now a.deadline)
    on o place a has =
        let f = first.later refl in
        let own = inplace.placed at first.place first.first first.has in
        let own_a = inplace.placed o place a has in
        let rf = inplace.range at first.place first.first first.has in
        let ra = inplace.range o place a has in
        let nf = inplace.after at first.place first.first first.has in
        let na = inplace.after o place a has in
        elim (cases_lt o at) [
          | inl lt ↦ absurd (none_has v o place a (below o lt) has)
          | inr ge ↦ elim (cases_eq o at) [
            | inl same ↦ still now to first.first.deadline a.deadline rf ra nf na from f.0 (f.1 ∙ sym own) (own_a ∙ same ∙ sym own)
            | inr other ↦
                let order : slot now first.first.deadline < slot now a.deadline = omega (arith, own, own_a, ge, other) in
                let later = first_slots now to first.first.deadline a.deadline rf ra nf na order in (
                  (let f0 = f.0 in omega (arith, f0, later)),
                  stays now to first.first.deadline a.deadline rf ra nf na from (let f0 = f.0 in omega (arith, f0)) order,
                )
          ]
        ]

-- no timer is there
pub all_empty : (v : Lists Timer) → NoneBelow v (length v.lists) → (o place : ℕ) (a : Timer) → Has (list_at v o) place a → ⊥
all_empty v below o place a has =
    elim (cases_lt o (length v.lists)) [
      | inl lt ↦ none_has v o place a (below o lt) has
      | inr past ↦ none_has v o place a (get_or_past v.lists o [] past) has
    ]

pub empty_inplace : (to : ℕ) (v : Lists Timer) → NoneBelow v (length v.lists) → InPlace to v
empty_inplace to v below = record {
  after = λ o place a has. absurd (all_empty v below o place a has);
  placed = λ o place a has. absurd (all_empty v below o place a has);
  range = λ o place a has. absurd (all_empty v below o place a has);
}

-- once all are due later
pub queue_later : (to : ℕ) (v : Lists Timer) → InPlace to v
    → (due_by to (by_deadline (timers_of v.lists)) ≡ []) × (due_after to (by_deadline (timers_of v.lists)) ≡ by_deadline (timers_of v.lists))
queue_later to v inplace =
    none_due to (by_deadline (timers_of v.lists))
    (queue_before (to + 1) v (λ i place a has. (let l = inplace.after i place a has in omega (arith, l))))

pub queue_empty : (v : Lists Timer) → NoneBelow v (length v.lists) → timers_of v.lists ≡ []
queue_empty v below =
    flat_none rows v.lists (λ i. ap rows (elim (cases_lt i (length v.lists)) [
      | inl lt ↦ below i lt
      | inr past ↦ get_or_past v.lists i [] past
    ]))

-- the first timers of a slot come down, where now is to be moved on so far that they don't stay
pub moved_from : (now to at m mplace : ℕ) (mt : Timer) (v : Lists Timer) → InPlace now v → IsFirstLater v at to false → Has (list_at v at) mplace mt
    → mt.deadline ≡ m → ((place : ℕ) (a : Timer) → Has (list_at v at) place a → m ≤ a.deadline) → now ≤ to
    → (min m to ≡ m) ⊎ (slot (min m to) m ≢ at)
moved_from now to at m mplace mt v inplace first has_m is_m least from =
    elim (cases_lt to m) [
      | inr le ↦ inl (omega (arith, le))
      | inl lt ↦
          let tick : min m to ≡ to = omega (arith, lt) in
          elim (first.near refl) [
            | inl early ↦ absurd (let l = least first.place first.first first.has in omega (arith, l, early, lt))
            | inr moved ↦ inr (λ e.
                let own = inplace.placed at mplace mt has_m in
                let own_first = inplace.placed at first.place first.first first.has in
                let slot_m : slot now m ≡ at = ap (slot now) (sym is_m) ∙ own in
                let s = still now to m first.first.deadline (subst (λ n. n < 2 ^ 64) is_m (inplace.range at mplace mt has_m))
                (inplace.range at first.place first.first first.has) (subst (λ n. now < n) is_m (inplace.after at mplace mt has_m))
                (inplace.after at first.place first.first first.has) from lt (ap (λ n. slot n m) (sym tick) ∙ e ∙ sym slot_m)
                (own_first ∙ sym slot_m) in
                moved (s.1 ∙ own_first))
          ]
    ]

-- and then now does move on
pub moves_forward : (now to at m mplace : ℕ) (mt : Timer) (v : Lists Timer) → InPlace now v → IsFirstLater v at to false → Has (list_at v at) mplace mt
    → mt.deadline ≡ m → now ≤ to → now < min m to
moves_forward now to at m mplace mt v inplace first has_m is_m from =
    let after = inplace.after at mplace mt has_m in
    let later = inplace.after at first.place first.first first.has in
    elim (cases_lt now to) [
      | inl lt ↦ omega (arith, after, is_m, lt)
      | inr ge ↦ elim (first.near refl) [
        | inl early ↦ absurd (omega (arith, early, later, ge))
        | inr moved ↦ absurd (moved (ap (λ n. slot n first.first.deadline) (omega (arith, ge, from)) ∙ inplace.placed at first.place first.first first.has))
      ]
    ]

-- what is due by a tick, once the timers of an earlier one are told
pub told : (tick to : ℕ) (q : List Timer) (items due : List ℕ) → tick ≤ to → InOrder q → NoneBefore tick q → due ≡ items ++ keys_of (due_at tick q)
    → due ++ keys_of (due_by to (due_after tick q)) ≡ items ++ keys_of (due_by to q)
told tick to q items due le order before is =
    ap (λ l. l ++ keys_of (due_by to (due_after tick q))) is
    ∙ append_assoc items (keys_of (due_at tick q)) (keys_of (due_by to (due_after tick q)))
    ∙ ap (λ l. items ++ l) (sym (map-append (λ a. a.key) (due_at tick q) (due_by to (due_after tick q)))
    ∙ ap keys_of (sym (queue_front tick to q le order before)))
