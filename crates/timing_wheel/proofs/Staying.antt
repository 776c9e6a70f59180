-- Timers and alarms that stay in their slots as now moves on.
use Rattle.std.proofs.Common.{◌≡◌, ◌∙◌, ◌⊎◌, ℕ, zero, suc, false, List, [], ◌∷◌, ◌++◌, refl, ap, sym, subst, inl, inr, arith, cond, slice_index_or}
use Rattle.std.proofs.lemmas.Int.{ints}
use Rattle.inc_value.specs.Choice.{Among}
use Rattle.index_lists.specs.Lists.{Lists, Has}
use Rattle.timing_wheel.specs.declared.levels.Timer.{Timer}
use Rattle.timing_wheel.specs.Slots.{slot}
use Rattle.timing_wheel.specs.Queue.{placed}
use Rattle.timing_wheel.specs.Timers.{Pending, by_deadline, no_later, AllStay, OneLeaves}
use Rattle.timing_wheel.specs.Levels.{rows, timers_of, InPlace, IsFirstLater, MovesOne}
use Rattle.timing_wheel.specs.Alarms.{Alarm, Wheel, time_at, tick_at, alarm_of, alarms_of, StaysInSlot as AlarmStays, AllStay as AlarmsStay, OneLeaves as OneAlarmLeaves}
use Rattle.timing_wheel.proofs.Queue.{le_cases}

-- which timers stand in the queue
of_placed : (a x : Timer) (xs : List Timer) → Among x (placed no_later a xs) → (x ≡ a) ⊎ Among x xs
of_placed a x [] h = h
of_placed a x (b ∷ rest) h =
    elim (le_cases a.deadline b.deadline) [
      | inl le ↦ subst (λ q. Among x (cond q (a ∷ b ∷ rest) (b ∷ placed no_later a rest))) le.1 h
      | inr gt ↦ elim (subst (λ q. Among x (cond q (a ∷ b ∷ rest) (b ∷ placed no_later a rest))) gt.1 h) [
        | inl head ↦ inr (inl head)
        | inr tail ↦ elim (of_placed a x rest tail) [
          | inl mine ↦ inl mine
          | inr other ↦ inr (inr other)
        ]
      ]
    ]

in_placed : (a x : Timer) (xs : List Timer) → (x ≡ a) ⊎ Among x xs → Among x (placed no_later a xs)
in_placed a x [] h = h
in_placed a x (b ∷ rest) h =
    elim (le_cases a.deadline b.deadline) [
      | inl le ↦ subst (λ q. Among x (cond q (a ∷ b ∷ rest) (b ∷ placed no_later a rest))) (sym le.1) h
      | inr gt ↦ subst (λ q. Among x (cond q (a ∷ b ∷ rest) (b ∷ placed no_later a rest))) (sym gt.1)
          (elim h [
            | inl mine ↦ inr (in_placed a x rest (inl mine))
            | inr other ↦ elim other [
              | inl head ↦ inl head
              | inr tail ↦ inr (in_placed a x rest (inr tail))
            ]
          ])
    ]

of_queue : (xs : List Timer) (x : Timer) → Among x (by_deadline xs) → Among x xs
of_queue [] x h = h
of_queue (a ∷ rest) x h =
    elim (of_placed a x (by_deadline rest) h) [
      | inl mine ↦ inl mine
      | inr other ↦ inr (of_queue rest x other)
    ]

in_queue : (xs : List Timer) (x : Timer) → Among x xs → Among x (by_deadline xs)
in_queue [] x h = h
in_queue (a ∷ rest) x (inl mine) = in_placed a x (by_deadline rest) (inl mine)
in_queue (a ∷ rest) x (inr other) = in_placed a x (by_deadline rest) (inr (in_queue rest x other))

in_first : (xs ys : List Timer) (x : Timer) → Among x xs → Among x (xs ++ ys)
in_first [] ys x h = absurd h
in_first (a ∷ xs) ys x (inl h) = inl h
in_first (a ∷ xs) ys x (inr h) = inr (in_first xs ys x h)

in_second : (xs ys : List Timer) (x : Timer) → Among x ys → Among x (xs ++ ys)
in_second [] ys x h = h
in_second (a ∷ xs) ys x h = inr (in_second xs ys x h)

in_either : (xs ys : List Timer) (x : Timer) → Among x (xs ++ ys) → Among x xs ⊎ Among x ys
in_either [] ys x h = inr h
in_either (a ∷ xs) ys x (inl h) = inl (inl h)
in_either (a ∷ xs) ys x (inr h) =
    elim (in_either xs ys x h) [
      | inl p ↦ inl (inr p)
      | inr q ↦ inr q
    ]

of_rows : (es : List (ℕ × Timer)) (x : Timer) → Among x (rows es) → (place : ℕ) × Has es place x
of_rows [] x h = absurd h
of_rows (e ∷ es) x (inl h) = (e.0, inl (refl, sym h))
of_rows (e ∷ es) x (inr h) = let r = of_rows es x h in (r.0, inr r.1)

in_rows : (es : List (ℕ × Timer)) (place : ℕ) (x : Timer) → Has es place x → Among x (rows es)
in_rows [] place x h = absurd h
in_rows (e ∷ es) place x (inl h) = inl (sym h.1)
in_rows (e ∷ es) place x (inr h) = inr (in_rows es place x h)

of_slots : (lists : List (List (ℕ × Timer))) (x : Timer) → Among x (timers_of lists)
    → (o : ℕ) × (place : ℕ) × Has (slice_index_or lists o []) place x
of_slots [] x h = absurd h
of_slots (l ∷ lists) x h =
    elim (in_either (rows l) (timers_of lists) x h) [
      | inl p ↦ (let r = of_rows l x p in (0, r.0, r.1))
      | inr q ↦ (let r = of_slots lists x q in (suc r.0, r.1, r.2))
    ]

in_slots : (lists : List (List (ℕ × Timer))) (o place : ℕ) (x : Timer) → Has (slice_index_or lists o []) place x → Among x (timers_of lists)
in_slots [] o place x h = absurd h
in_slots (l ∷ lists) zero place x h = in_first (rows l) (timers_of lists) x (in_rows l place x h)
in_slots (l ∷ lists) (suc o) place x h = in_second (rows l) (timers_of lists) x (in_slots lists o place x h)

module _ (now tick spare : ℕ) (v : Lists Timer) (inplace : InPlace now v) where
  abbrev pending : Pending
  pending = record { time = now; timers = by_deadline (timers_of v.lists); spare = spare }

  -- where all timers are in place at the tick too
  pub all_stay : InPlace tick v → AllStay pending tick
  all_stay moved = λ t among.
      let s = of_slots v.lists t (of_queue (timers_of v.lists) t among) in
      record { later = moved.after s.0 s.1 t s.2; same = moved.placed s.0 s.1 t s.2 ∙ sym (inplace.placed s.0 s.1 t s.2) }

  pub one_leaves : MovesOne now tick v → OneLeaves pending tick
  one_leaves m = (m.timer, in_queue (timers_of v.lists) m.timer (in_slots v.lists m.at m.place m.timer m.has), m.leaves)

-- the first timer of a slot leaves it
pub moves_one : (now tick at : ℕ) (v : Lists Timer) → InPlace now v → IsFirstLater v at tick false → MovesOne now tick v
moves_one now tick at v inplace first = record {
  at = at;
  place = first.place;
  timer = first.first;
  has = first.has;
  leaves = record {
    ahead = inplace.after at first.place first.first first.has;
    leaves = elim (first.near refl) [
      | inl early ↦ inl early
      | inr moved ↦ inr (λ e. moved (e ∙ inplace.placed at first.place first.first first.has))
    ];
  };
}

-- the same of alarms
tick_time : (n : ℕ) → tick_at (time_at n) ≡ n
tick_time n = omega (arith, ints)

of_alarms : (ts : List Timer) (a : Alarm) → Among a (alarms_of ts) → (t : Timer) × Among t ts × (a ≡ alarm_of t)
of_alarms [] a h = absurd h
of_alarms (t ∷ ts) a (inl h) = (t, inl refl, h)
of_alarms (t ∷ ts) a (inr h) = let r = of_alarms ts a h in (r.0, inr r.1, r.2)

in_alarms : (ts : List Timer) (t : Timer) → Among t ts → Among (alarm_of t) (alarms_of ts)
in_alarms [] t h = absurd h
in_alarms (u ∷ ts) t (inl h) = inl (ap alarm_of h)
in_alarms (u ∷ ts) t (inr h) = inr (in_alarms ts t h)

slot_seen : (n d : ℕ) → slot (tick_at (time_at n)) (tick_at (time_at d)) ≡ slot n d
slot_seen n d = ap (λ m. slot m (tick_at (time_at d))) (tick_time n) ∙ ap (slot n) (tick_time d)

abbrev pub seen : Pending → Wheel
seen p = record { time = time_at p.time; alarms = alarms_of p.timers; spare = p.spare }

module _ (p : Pending) (tick : ℕ) where
  pub stay_seen : AllStay p tick → AlarmsStay (seen p) (time_at tick)
  stay_seen stay = λ a among.
      let r = of_alarms p.timers a among in
      let s = stay r.0 r.1 in
      subst (AlarmStays (time_at p.time) (time_at tick)) (sym r.2) (record {
        later = (let l = s.later in omega (arith, ints, l));
        same = slot_seen tick r.0.deadline ∙ s.same ∙ sym (slot_seen p.time r.0.deadline);
      })

  pub leaves_seen : OneLeaves p tick → OneAlarmLeaves (seen p) (time_at tick)
  leaves_seen h =
      let t = h.0 in let l = h.2 in (
        alarm_of t,
        in_alarms p.timers t h.1,
        record {
          ahead = (let a = l.ahead in omega (arith, ints, a));
          leaves = elim l.leaves [
            | inl early ↦ inl (omega (arith, ints, early))
            | inr moved ↦ inr (λ e. moved (sym (slot_seen tick t.deadline) ∙ e ∙ slot_seen p.time t.deadline))
          ];
        },
      )
