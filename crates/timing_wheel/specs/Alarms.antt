-- What a contract sees of a wheel.
use Rattle.std.specs.Prelude.{ℕ, ℤ, pos, ◌+ℤ◌, ◌-ℤ◌, ◌<ℤ◌, ◌≤ℤ◌, unsigned_abs, ◌≡◌, ◌≢◌, ◌⊎◌, [], ◌∷◌, int_le, int_lt, Bool, not, ◌==◌, List, map, filter, Option, option_map, slice_get}
use Rattle.inc_value.specs.Choice.{Among}
use Rattle.timing_wheel.specs.declared.levels.Timer.{Timer}
use Rattle.timing_wheel.specs.Queue.{in_order}
use Rattle.timing_wheel.specs.Slots.{slot}

-- the time that is so many nanoseconds above the least one
abbrev pub time_at : ℕ → ℤ
time_at tick = pos tick -ℤ pos 9223372036854775808

-- how many nanoseconds a time is above the least one
abbrev pub tick_at : ℤ → ℕ
tick_at time = unsigned_abs (time +ℤ pos 9223372036854775808)

-- a key with the time at which it is due
pub record Alarm : Type 0 where
  pub deadline : ℤ
  pub key : ℕ

-- a timer as an alarm
abbrev pub alarm_of : Timer → Alarm
alarm_of t = record { deadline = time_at t.deadline; key = t.key }

abbrev pub alarms_of : List Timer → List Alarm
alarms_of timers = map alarm_of timers

-- the first is due no later than the second
abbrev pub no_later : Alarm → Alarm → Bool
no_later a b = int_le a.deadline b.deadline

-- the alarms by deadline, those of one deadline as they stand
abbrev pub by_deadline : List Alarm → List Alarm
by_deadline alarms = in_order no_later alarms

-- the alarms that are due at a time, or before it
abbrev pub due_by : ℤ → List Alarm → List Alarm
due_by time alarms = filter (λ a. int_le a.deadline time) alarms

-- the alarms that are due after a time
abbrev pub due_after : ℤ → List Alarm → List Alarm
due_after time alarms = filter (λ a. int_lt time a.deadline) alarms

-- the alarms but for that of a key
abbrev pub but : ℕ → List Alarm → List Alarm
but key alarms = filter (λ a. not (a.key == key)) alarms

abbrev pub keys_of : List Alarm → List ℕ
keys_of alarms = map (λ a. a.key) alarms

-- when the first is due
abbrev pub first_due : List Alarm → Option ℤ
first_due alarms = option_map (λ a. a.deadline) (slice_get alarms 0)

-- an alarm has the key
abbrev pub IsPending : List Alarm → ℕ → Type 0
IsPending [] key = ⊥
IsPending (a ∷ rest) key = (a.key ≡ key) ⊎ IsPending rest key

-- the present time, and the pending alarms by deadline, those of one deadline in order of adding
pub record Wheel : Type 0 where
  pub time : ℤ
  pub alarms : List Alarm
  pub spare : ℕ

-- the slot of an alarm, as seen from a time before its deadline
abbrev pub slot_at : ℤ → Alarm → ℕ
slot_at time a = slot (tick_at time) (tick_at a.deadline)

-- the alarm is due after a time, and its slot then is that of now
pub record StaysInSlot (now time : ℤ) (a : Alarm) : Type 0 where
  pub later : time <ℤ a.deadline
  pub same : slot_at time a ≡ slot_at now a

-- the alarm, due after now, is due by a time, or its slot then is another than that of now
pub record LeavesSlot (now time : ℤ) (a : Alarm) : Type 0 where
  pub ahead : now <ℤ a.deadline
  pub leaves : (a.deadline ≤ℤ time) ⊎ (slot_at time a ≢ slot_at now a)

-- moving the time on to another leaves each alarm in its slot
abbrev pub AllStay : Wheel → ℤ → Type 0
AllStay w time = (a : Alarm) → Among a w.alarms → StaysInSlot w.time time a

-- moving the time on to another takes an alarm out of its slot
abbrev pub OneLeaves : Wheel → ℤ → Type 0
OneLeaves w time = (a : Alarm) × Among a w.alarms × LeavesSlot w.time time a
