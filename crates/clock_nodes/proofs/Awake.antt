-- A clock stays awake: as long as no alarm of a node is due it shows what it shows at present.
use Rattle.std.proofs.Common.{cond, nat_eq, arith, ◌≡◌, ◌≢◌, ◌∙◌, ℕ, ℤ, pos, ◌≤ℤ◌, ◌<ℤ◌, ◌==◌, Bool, true, false, List, [], ◌∷◌, ◌++◌, ◌⊎◌, inl, inr, Option, None, Some, IsSome, IfSome, IfNone, refl, sym, ap, subst}
use Rattle.std.specs.Prelude.{int_le, int_lt, not}
use Rattle.std.specs.Bool.{Decides}
use Rattle.std.proofs.lemmas.Bool.{ne_eqb, eq-eqb}
use Rattle.std.proofs.lemmas.Bool.Decides.{Decides-eqb}
use Rattle.std.proofs.lemmas.Int.{ints}
use Rattle.std.proofs.lemmas.Option.{same_Some}
use Rattle.inc_value.specs.Choice.{Among, NoRepeats}
use Rattle.inc_terms.specs.Clock.{clock_value, IsTimed, IsNextChange, MayTurn}
use Rattle.inc_terms.proofs.Plan.{among_left}
use Rattle.inc_terms.proofs.Quiet.{timed_on}
use Rattle.timing_wheel.specs.Alarms.{Alarm, Wheel, by_deadline, due_by, due_after, but, keys_of}
use Rattle.clock_nodes.specs.Clock.{Rows, row_at}
use Rattle.clock_nodes.specs.Kinds.{watch_def}
use Rattle.clock_nodes.specs.Keeping.{ComesLater, IsWatch, IsAwake}
use Rattle.clock_nodes.specs.declared.watch.Watch.{Watch}
use Rattle.clock_nodes.proofs.Alarms.{has_key, key_has, same_alarm, among_ordered, ordered_among, among_last, among_cases, once_front, once_last, once_more, among_sifted, sifted_among, once_sifted}

-- equal keys or not
decided : (r : Bool) (P : Type 0) → Decides r P → P ⊎ (P → ⊥)
decided true P d = inl (d.0 refl)
decided false P d = inr (λ p. absurd (let e = d.1 p in cc))

pub same_or_not : (a b : ℕ) → (a ≡ b) ⊎ (a ≡ b → ⊥)
same_or_not a b = decided (a == b) (a ≡ b) (Decides-eqb a b)

-- one row changes, or none does
pub record ChangesRow (old new : Rows) (key : ℕ) (row : Option Watch) : Type 0 where
  pub changed : row_at new key ≡ row
  pub others : (k : ℕ) → k ≢ key → row_at new k ≡ row_at old k

pub changes_row : (old new : Rows) (key : ℕ) (row : Option Watch) → ((k : ℕ) → row_at new k ≡ cond (nat_eq key k) row (row_at old k))
    → ChangesRow old new key row
changes_row old new key row each = record {
  changed = each key ∙ ap (λ t. cond t row (row_at old key)) (eq-eqb key key refl);
  others = λ k other. each k ∙ ap (λ t. cond t row (row_at old k)) (ne_eqb key k (λ e. other (sym e)));
}

-- the same rows
pub same_rows : (rows rows' : Rows) (w : Wheel) (due : List ℕ) → ((k : ℕ) → row_at rows' k ≡ row_at rows k) → IsAwake rows w due → IsAwake rows' w due
same_rows rows rows' w due keeps awake = record {
  time = awake.time;
  watches = λ key x is. awake.watches key x (sym (keeps key) ∙ is);
  kept = λ key h. subst IsSome (sym (keeps key)) (awake.kept key h);
  single = awake.single;
  turns = λ a x h is. awake.turns a x h (sym (keeps a.key) ∙ is);
  quiet = λ key x is. awake.quiet key x (sym (keeps key) ∙ is);
  due_once = awake.due_once;
  due_kept = λ key h. subst IsSome (sym (keeps key)) (awake.due_kept key h);
  due_off = awake.due_off;
}

-- ---- a key's alarm is set again

module _ (rows : Rows) (w w' : Wheel) (key : ℕ) (due : List ℕ) (x : Watch) (until : Option ℤ) (awake : IsAwake rows w (due ++ key ∷ []))
    (is : row_at rows key ≡ Some x) (quiet : IsNextChange w.time (watch_def x) until) (time : w'.time ≡ w.time) where
  module _ (parts : (a : Alarm) → Among a w'.alarms → Among a w.alarms ⊎ ((a.key ≡ key) × MayTurn (watch_def x) a.deadline))
      (more : (a : Alarm) → Among a w.alarms → Among a w'.alarms) (once : NoRepeats (keys_of w'.alarms))
      (own : (after : ℤ) → w.time ≤ℤ after → after ≤ℤ pos 9223372036854775807 → ComesLater w'.alarms key after
      → clock_value after (watch_def x) ≡ clock_value w.time (watch_def x)) where
    of_key : (k : ℕ) → Among k (keys_of w'.alarms) → (k ≡ key) ⊎ Among k (keys_of w.alarms)
    of_key k h =
        let a = key_has w'.alarms k h in
        elim (parts a.0 a.1) [ inl old ↦ inr (has_key w.alarms a.0 k old a.2) | inr new ↦ inl (sym a.2 ∙ new.0) ]

    still : (k : ℕ) (y : Watch) → row_at rows k ≡ Some y → (Among k due → ⊥) → (after : ℤ) → w.time ≤ℤ after
        → after ≤ℤ pos 9223372036854775807 → ComesLater w'.alarms k after → clock_value after (watch_def y) ≡ clock_value w.time (watch_def y)
    still k y there off after on max later = elim (same_or_not k key) [
      | inl e ↦
          let same : x ≡ y = same_Some x y (sym is ∙ ap (λ n. row_at rows n) (sym e) ∙ there) in
          subst (λ (z : Watch). clock_value after (watch_def z) ≡ clock_value w.time (watch_def z)) same
          (own after on max (λ a h e'. later a h (e' ∙ sym e)))
      | inr other ↦ awake.quiet k y there (λ h. elim (among_cases k key due h) [ inl g ↦ off g | inr e ↦ other e ]) after on max
          (λ a h e. later a (more a h) e)
    ]

    pub armed_so : IsAwake rows w' due
    armed_so = record {
      time = subst (λ t. pos 0 ≤ℤ t) (sym time) awake.time;
      watches = λ k y there. (let h = awake.watches k y there in
          record { reads = h.reads; timed = subst (λ t. IsTimed t (watch_def y)) (sym time) h.timed });
      kept = λ k h. elim (of_key k h) [
        | inl e ↦ subst IsSome (sym (ap (λ n. row_at rows n) e ∙ is)) refl
        | inr g ↦ awake.kept k g
      ];
      single = once;
      turns = λ a y h there. elim (parts a h) [
        | inl old ↦ awake.turns a y old there
        | inr new ↦
            let same : x ≡ y = same_Some x y (sym is ∙ ap (λ n. row_at rows n) (sym new.0) ∙ there) in
            subst (λ (z : Watch). MayTurn (watch_def z) a.deadline) same new.1
      ];
      quiet = λ k y there off after on max later.
          subst (λ t. clock_value after (watch_def y) ≡ clock_value t (watch_def y)) (sym time)
          (still k y there off after (subst (λ t. t ≤ℤ after) time on) max later);
      due_once = once_front key due awake.due_once;
      due_kept = λ k h. awake.due_kept k (among_left k due (key ∷ []) h);
      due_off = λ k h g. elim (of_key k g) [
        | inl e ↦ once_last key due awake.due_once (subst (λ n. Among n due) e h)
        | inr old ↦ awake.due_off k (among_left k due (key ∷ []) h) old
      ];
    }

-- where there is no time to set one for, and where there is
pub armed : (rows : Rows) (w w' : Wheel) (key : ℕ) (due : List ℕ) (x : Watch) (until : Option ℤ) → IsAwake rows w (due ++ key ∷ [])
    → row_at rows key ≡ Some x → IsNextChange w.time (watch_def x) until → w'.time ≡ w.time
    → IfSome until (λ t. w'.alarms ≡ by_deadline (w.alarms ++ record { deadline = t; key = key } ∷ [])) → IfNone until (w'.alarms ≡ w.alarms)
    → IsAwake rows w' due
armed rows w w' key due x None awake is quiet time set none = armed_so rows w w' key due x None awake is quiet time
    (λ a h. inl (subst (Among a) none h))
    (λ a h. subst (Among a) (sym none) h)
    (subst (λ l. NoRepeats (keys_of l)) (sym none) awake.single)
    (λ after on max later. quiet.same after on max (λ t e. absurd (let e' = e in cc)))
armed rows w w' key due x (Some t) awake is quiet time set none =
    let new : Alarm = record { deadline = t; key = key } in
    let fresh : Among key (keys_of w.alarms) → ⊥ = awake.due_off key (among_last key due) in
    armed_so rows w w' key due x (Some t) awake is quiet time
    (λ a h. elim (among_cases a new w.alarms (among_ordered a (w.alarms ++ new ∷ []) (subst (Among a) set h))) [
      | inl old ↦ inl old
      | inr e ↦ inr (ap (λ (b : Alarm). b.key) e, subst (λ (b : Alarm). MayTurn (watch_def x) b.deadline) (sym e) (quiet.turns t refl))
    ])
    (λ a h. subst (Among a) (sym set) (ordered_among a (w.alarms ++ new ∷ []) (among_left a w.alarms (new ∷ []) h)))
    (subst (λ l. NoRepeats (keys_of l)) (sym set) (once_more w.alarms new awake.single fresh))
    (λ after on max later. quiet.same after on max (λ u e.
    subst (λ v. after <ℤ v) (same_Some t u e)
    (later new (subst (Among new) (sym set) (ordered_among new (w.alarms ++ new ∷ []) (among_last new w.alarms))) refl)))

-- ---- the time moves on

module _ (rows : Rows) (w w' : Wheel) (to : ℤ) (awake : IsAwake rows w []) (forward : w.time ≤ℤ to) (time : w'.time ≡ to)
    (rest : w'.alarms ≡ due_after to w.alarms) where
  abbrev told : List ℕ
  told = keys_of (due_by to w.alarms)

  is_due : (a : Alarm) → Among a (due_by to w.alarms) → Among a w.alarms × (a.deadline ≤ℤ to)
  is_due a h =
      let r = among_sifted (λ (b : Alarm). int_le b.deadline to) a w.alarms h in
      (r.0, (let yes = r.1 in grind (arith, ints)))

  is_left : (a : Alarm) → Among a w'.alarms → Among a w.alarms × (to <ℤ a.deadline)
  is_left a h =
      let r = among_sifted (λ (b : Alarm). int_lt to b.deadline) a w.alarms (subst (Among a) rest h) in
      (r.0, (let yes = r.1 in grind (arith, ints)))

  stays : (a : Alarm) → Among a w.alarms → (Among a.key told → ⊥) → Among a w'.alarms
  stays a h off = elim (late (int_lt to a.deadline) refl) [
    | inl is_late ↦ subst (Among a) (sym rest) (sifted_among (λ (b : Alarm). int_lt to b.deadline) a w.alarms h is_late)
    | inr is_early ↦ absurd (off (has_key (due_by to w.alarms) a a.key (sifted_among (λ (b : Alarm). int_le b.deadline to) a w.alarms h is_early) refl))
  ]
    where
      late : (b : Bool) → int_lt to a.deadline ≡ b → (int_lt to a.deadline ≡ true) ⊎ (int_le a.deadline to ≡ true)
      late true e = inl e
      late false e = inr (grind (arith, ints))

  -- an alarm that isn't due was after the time, whenever those that are left are
  all_later : (key : ℕ) (after : ℤ) → (Among key told → ⊥) → ComesLater w'.alarms key after → ComesLater w.alarms key after
  all_later key after off later a h e = later a (stays a h (λ g. off (subst (λ k. Among k told) e g))) e

  value_stays : (key : ℕ) (x : Watch) → row_at rows key ≡ Some x → (Among key told → ⊥) → (after : ℤ) → to ≤ℤ after
      → after ≤ℤ pos 9223372036854775807 → ComesLater w'.alarms key after → clock_value after (watch_def x) ≡ clock_value w.time (watch_def x)
  value_stays key x is off after on max later =
      awake.quiet key x is (λ h. h) after (omega (arith, ints, forward, on)) max (all_later key after off later)

  to_later : (key : ℕ) → ComesLater w'.alarms key to
  to_later key a h e = (is_left a h).1

  module _ (range : to ≤ℤ pos 9223372036854775807) where
    -- a node whose alarm wasn't due shows what it showed
    pub value_same : (key : ℕ) (x : Watch) → row_at rows key ≡ Some x → (Among key told → ⊥)
        → clock_value to (watch_def x) ≡ clock_value w.time (watch_def x)
    value_same key x is off = value_stays key x is off to (omega (arith, ints)) range (to_later key)

    pub moved : IsAwake rows w' told
    moved = record {
      time = (let low = awake.time in rw time (omega (arith, ints, low, forward)));
      watches = λ key x is. (let h = awake.watches key x is in
          record { reads = h.reads; timed = rw time (timed_on w.time to forward (watch_def x) h.timed) });
      kept = λ key h. (let a = key_has w'.alarms key h in awake.kept key (has_key w.alarms a.0 key (is_left a.0 a.1).0 a.2));
      turns = λ a x h is. awake.turns a x (is_left a h).0 is;
      single = subst (λ l. NoRepeats (keys_of l)) (sym rest) (once_sifted (λ (b : Alarm). int_lt to b.deadline) w.alarms awake.single);
      quiet = λ key x is off after on max later.
          (let on' : to ≤ℤ after = subst (λ t. t ≤ℤ after) time on in
          subst (λ t. clock_value after (watch_def x) ≡ clock_value t (watch_def x)) (sym time)
          (value_stays key x is off after on' max later ∙ sym (value_same key x is off)));
      due_once = once_sifted (λ (b : Alarm). int_le b.deadline to) w.alarms awake.single;
      due_kept = λ key h. (let a = key_has (due_by to w.alarms) key h in awake.kept key (has_key w.alarms a.0 key (is_due a.0 a.1).0 a.2));
      due_off = λ key h g.
          (let a = key_has (due_by to w.alarms) key h in
          let b = key_has w'.alarms key g in
          let same : a.0 ≡ b.0 = same_alarm w.alarms a.0 b.0 awake.single (is_due a.0 a.1).0 (is_left b.0 b.1).0 (a.2 ∙ sym b.2) in
          let early = (is_due a.0 a.1).1 in
          let late : to <ℤ a.0.deadline = subst (λ (y : Alarm). to <ℤ y.deadline) (sym same) (is_left b.0 b.1).1 in
          omega (arith, ints, early, late));
    }

-- ---- a node is watched, and no longer

module _ (rows rows' : Rows) (w : Wheel) (key : ℕ) (x : Watch) (awake : IsAwake rows w []) (absent : row_at rows key ≡ None)
    (changes : ChangesRow rows rows' key (Some x)) (watch : IsWatch w.time x) where
  row_of : (k : ℕ) (y : Watch) → row_at rows' k ≡ Some y → ((k ≡ key) × (x ≡ y)) ⊎ (row_at rows k ≡ Some y)
  row_of k y is = elim (same_or_not k key) [
    | inl e ↦ inl (e, same_Some x y (sym changes.changed ∙ ap (λ n. row_at rows' n) (sym e) ∙ is))
    | inr other ↦ inr (sym (changes.others k other) ∙ is)
  ]

  kept_there : (k : ℕ) → IsSome (row_at rows k) → IsSome (row_at rows' k)
  kept_there k h = elim (same_or_not k key) [
    | inl e ↦ subst IsSome (sym (ap (λ n. row_at rows' n) e ∙ changes.changed)) refl
    | inr other ↦ subst IsSome (sym (changes.others k other)) h
  ]

  pub entered : IsAwake rows' w (key ∷ [])
  entered = record {
    time = awake.time;
    watches = λ k y is. elim (row_of k y is) [
      | inl h ↦ subst (IsWatch w.time) h.1 watch
      | inr old ↦ awake.watches k y old
    ];
    kept = λ k h. kept_there k (awake.kept k h);
    single = awake.single;
    turns = λ a y h is. elim (row_of a.key y is) [
      | inl new ↦ absurd (let some = awake.kept key (has_key w.alarms a key h new.0) in let none = absent in cc)
      | inr old ↦ awake.turns a y h old
    ];
    quiet = λ k y is off after on max later. elim (row_of k y is) [
      | inl h ↦ absurd (off (inl h.0))
      | inr old ↦ awake.quiet k y old (λ g. g) after on max later
    ];
    due_once = ((λ h. h), tt);
    due_kept = λ k h. elim h [
      | inl e ↦ subst IsSome (sym (ap (λ n. row_at rows' n) e ∙ changes.changed)) refl
      | inr g ↦ absurd g
    ];
    due_off = λ k h g. elim h [
      | inl e ↦ absurd (let some = awake.kept key (subst (λ n. Among n (keys_of w.alarms)) e g) in let none = absent in cc)
      | inr none ↦ absurd none
    ];
  }

module _ (rows rows' : Rows) (w w' : Wheel) (key : ℕ) (awake : IsAwake rows w []) (changes : ChangesRow rows rows' key None)
    (time : w'.time ≡ w.time) (left : (a : Alarm) → Among a w'.alarms → Among a w.alarms × (a.key ≡ key → ⊥))
    (stays : (a : Alarm) → Among a w.alarms → (a.key ≡ key → ⊥) → Among a w'.alarms) (once : NoRepeats (keys_of w'.alarms)) where
  row_was : (k : ℕ) (y : Watch) → row_at rows' k ≡ Some y → (row_at rows k ≡ Some y) × (k ≡ key → ⊥)
  row_was k y is = elim (same_or_not k key) [
    | inl e ↦ absurd (let none = sym (ap (λ n. row_at rows' n) e ∙ changes.changed) ∙ is in cc)
    | inr other ↦ (sym (changes.others k other) ∙ is, other)
  ]

  pub off_awake : IsAwake rows' w' []
  off_awake = record {
    time = subst (λ t. pos 0 ≤ℤ t) (sym time) awake.time;
    watches = λ k y is. (let h = awake.watches k y (row_was k y is).0 in
        record { reads = h.reads; timed = subst (λ t. IsTimed t (watch_def y)) (sym time) h.timed });
    kept = λ k h. (let a = key_has w'.alarms k h in let l = left a.0 a.1 in
        subst IsSome (sym (changes.others k (λ e. l.1 (a.2 ∙ e)))) (awake.kept k (has_key w.alarms a.0 k l.0 a.2)));
    single = once;
    turns = λ a y h is. awake.turns a y (left a h).0 (row_was a.key y is).0;
    quiet = λ k y is off after on max later.
        (let r = row_was k y is in
        subst (λ t. clock_value after (watch_def y) ≡ clock_value t (watch_def y)) (sym time)
        (awake.quiet k y r.0 (λ h. h) after (subst (λ t. t ≤ℤ after) time on) max
        (λ a h e. later a (stays a h (λ e'. r.1 (sym e ∙ e'))) e)));
    due_once = tt;
    due_kept = λ k h. absurd h;
    due_off = λ k h. absurd h;
  }

-- of the alarms but those of a key
pub but_left : (key : ℕ) (alarms : List Alarm) (a : Alarm) → Among a (but key alarms) → Among a alarms × (a.key ≡ key → ⊥)
but_left key alarms a h =
    let r = among_sifted (λ (b : Alarm). not (b.key == key)) a alarms h in
    (r.0, λ e. absurd (let yes : (a.key == key) ≡ true = (Decides-eqb a.key key).1 e in let no = r.1 in cc))

pub but_stays : (key : ℕ) (alarms : List Alarm) (a : Alarm) → Among a alarms → (a.key ≡ key → ⊥) → Among a (but key alarms)
but_stays key alarms a h other =
    sifted_among (λ (b : Alarm). not (b.key == key)) a alarms h (differ (a.key == key) (Decides-eqb a.key key) other)
  where
    differ : (b : Bool) → Decides b (a.key ≡ key) → (a.key ≡ key → ⊥) → not b ≡ true
    differ true d other = absurd (other (d.0 refl))
    differ false d other = refl

pub but_once : (key : ℕ) (alarms : List Alarm) → NoRepeats (keys_of alarms) → NoRepeats (keys_of (but key alarms))
but_once key alarms once = once_sifted (λ (b : Alarm). not (b.key == key)) alarms once
