-- Timers seen as alarms.
use Rattle.std.proofs.Common.{◌≡◌, ◌∙◌, ℕ, Bool, List, [], ◌∷◌, ◌++◌, map, refl, ap, sym, inl, inr, arith, cond, nat_le, nat_lt}
use Rattle.std.specs.Prelude.{filter, int_le, int_lt, ◌==◌, not}
use Rattle.std.proofs.lemmas.Int.{ints}
use Rattle.std.proofs.lemmas.List.{map-append}
use Rattle.timing_wheel.specs.declared.levels.Timer.{Timer}
use Rattle.timing_wheel.specs.Queue.{placed, in_order}
use Rattle.timing_wheel.specs.Timers.{IsPending as IsTimed, by_deadline as timers_by_deadline, no_later as timer_no_later, due_by as timers_due_by, due_after as timers_due_after, but as timers_but, keys_of as timer_keys}
use Rattle.timing_wheel.specs.Alarms.{time_at, alarm_of, alarms_of, by_deadline, no_later, due_by, due_after, but, keys_of, IsPending}
use Rattle.timing_wheel.proofs.Queue.{either, keeps, drops}

pub le_time : (d t : ℕ) → int_le (time_at d) (time_at t) ≡ nat_le d t
le_time d t = grind (arith, ints)

pub lt_time : (d t : ℕ) → int_lt (time_at d) (time_at t) ≡ nat_lt d t
lt_time d t = grind (arith, ints)

-- what is kept and placed of seen things
module _ {A B : Type 0} (f : A → B) where
  filter_seen : (p : A → Bool) (q : B → Bool) (xs : List A) → ((a : A) → q (f a) ≡ p a) → filter q (map f xs) ≡ map f (filter p xs)
  filter_seen p q [] same = refl
  filter_seen p q (a ∷ xs) same =
      elim (either (p a)) [
        | inl yes_p ↦ keeps q (f a) (map f xs) (same a ∙ yes_p) ∙ ap (λ l. f a ∷ l) (filter_seen p q xs same) ∙ ap (map f) (sym (keeps p a xs yes_p))
        | inr no_p ↦ drops q (f a) (map f xs) (same a ∙ no_p) ∙ filter_seen p q xs same ∙ ap (map f) (sym (drops p a xs no_p))
      ]

  placed_seen : (le : A → A → Bool) (le' : B → B → Bool) (a : A) (xs : List A) → ((x y : A) → le' (f x) (f y) ≡ le x y)
      → placed le' (f a) (map f xs) ≡ map f (placed le a xs)
  placed_seen le le' a [] same = refl
  placed_seen le le' a (b ∷ xs) same =
      elim (either (le a b)) [
        | inl yes_le ↦ ap (λ t. cond t (f a ∷ f b ∷ map f xs) (f b ∷ placed le' (f a) (map f xs))) (same a b ∙ yes_le)
            ∙ ap (map f) (sym (ap (λ t. cond t (a ∷ b ∷ xs) (b ∷ placed le a xs)) yes_le))
        | inr no_le ↦ ap (λ t. cond t (f a ∷ f b ∷ map f xs) (f b ∷ placed le' (f a) (map f xs))) (same a b ∙ no_le)
            ∙ ap (λ l. f b ∷ l) (placed_seen le le' a xs same)
            ∙ ap (map f) (sym (ap (λ t. cond t (a ∷ b ∷ xs) (b ∷ placed le a xs)) no_le))
      ]

  in_order_seen : (le : A → A → Bool) (le' : B → B → Bool) (xs : List A) → ((x y : A) → le' (f x) (f y) ≡ le x y)
      → in_order le' (map f xs) ≡ map f (in_order le xs)
  in_order_seen le le' [] same = refl
  in_order_seen le le' (a ∷ xs) same =
      ap (placed le' (f a)) (in_order_seen le le' xs same) ∙ placed_seen le le' a (in_order le xs) same

pub seen_added : (ts : List Timer) (t : Timer) → alarms_of (timers_by_deadline (ts ++ t ∷ [])) ≡ by_deadline (alarms_of ts ++ alarm_of t ∷ [])
seen_added ts t =
    sym (in_order_seen alarm_of timer_no_later no_later (ts ++ t ∷ []) (λ x y. le_time x.deadline y.deadline))
    ∙ ap by_deadline (map-append alarm_of ts (t ∷ []))

pub seen_due : (ts : List Timer) (tick : ℕ) → due_by (time_at tick) (alarms_of ts) ≡ alarms_of (timers_due_by tick ts)
seen_due ts tick =
    filter_seen alarm_of (λ t. nat_le t.deadline tick) (λ a. int_le a.deadline (time_at tick)) ts (λ t. le_time t.deadline tick)

pub seen_rest : (ts : List Timer) (tick : ℕ) → due_after (time_at tick) (alarms_of ts) ≡ alarms_of (timers_due_after tick ts)
seen_rest ts tick =
    filter_seen alarm_of (λ t. nat_lt tick t.deadline) (λ a. int_lt (time_at tick) a.deadline) ts (λ t. lt_time tick t.deadline)

pub seen_but : (ts : List Timer) (key : ℕ) → but key (alarms_of ts) ≡ alarms_of (timers_but key ts)
seen_but ts key = filter_seen alarm_of (λ t. not (t.key == key)) (λ a. not (a.key == key)) ts (λ t. refl)

pub seen_keys : (ts : List Timer) → keys_of (alarms_of ts) ≡ timer_keys ts
seen_keys [] = refl
seen_keys (t ∷ ts) = ap (λ l. t.key ∷ l) (seen_keys ts)

pub seen_pending : (ts : List Timer) (key : ℕ) → IsPending (alarms_of ts) key → IsTimed ts key
seen_pending [] key h = h
seen_pending (t ∷ ts) key (inl h) = inl h
seen_pending (t ∷ ts) key (inr h) = inr (seen_pending ts key h)

pub pending_seen : (ts : List Timer) (key : ℕ) → IsTimed ts key → IsPending (alarms_of ts) key
pending_seen [] key h = h
pending_seen (t ∷ ts) key (inl h) = inl h
pending_seen (t ∷ ts) key (inr h) = inr (pending_seen ts key h)
