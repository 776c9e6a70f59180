-- What a contract sees of timers, whose deadlines are ticks.
use Rattle.std.specs.Prelude.{ℕ, ◌≡◌, ◌≢◌, ◌⊎◌, ◌<◌, ◌≤◌, [], ◌∷◌, ◌==◌, nat_le, nat_lt, Bool, not, List, map, filter, Option, option_map, slice_get}
use Rattle.inc_value.specs.Choice.{Among}
use Rattle.timing_wheel.specs.declared.levels.Timer.{Timer}
use Rattle.timing_wheel.specs.Queue.{in_order}
use Rattle.timing_wheel.specs.Slots.{slot}

-- the first is due no later than the second
abbrev pub no_later : Timer → Timer → Bool
no_later a b = nat_le a.deadline b.deadline

-- the timers by deadline, those of one deadline as they stand
abbrev pub by_deadline : List Timer → List Timer
by_deadline timers = in_order no_later timers

-- the timers that are due at a tick, or before it
abbrev pub due_by : ℕ → List Timer → List Timer
due_by tick timers = filter (λ a. nat_le a.deadline tick) timers

-- the timers that are due after a tick
abbrev pub due_after : ℕ → List Timer → List Timer
due_after tick timers = filter (λ a. nat_lt tick a.deadline) timers

-- the timers that are due at a tick
abbrev pub due_at : ℕ → List Timer → List Timer
due_at tick timers = filter (λ a. a.deadline == tick) timers

-- the timers but for that of a key
abbrev pub but : ℕ → List Timer → List Timer
but key timers = filter (λ a. not (a.key == key)) timers

abbrev pub keys_of : List Timer → List ℕ
keys_of timers = map (λ a. a.key) timers

-- when the first is due
abbrev pub first_due : List Timer → Option ℕ
first_due timers = option_map (λ a. a.deadline) (slice_get timers 0)

-- a timer has the key
abbrev pub IsPending : List Timer → ℕ → Type 0
IsPending [] key = ⊥
IsPending (a ∷ rest) key = (a.key ≡ key) ⊎ IsPending rest key

-- the present tick, the pending timers by deadline, those of one deadline in order of adding, and for how many more there is room
pub record Pending : Type 0 where
  pub time : ℕ
  pub timers : List Timer
  pub spare : ℕ

-- the timer is due after a tick, and its slot then is that of now
pub record StaysInSlot (now tick : ℕ) (t : Timer) : Type 0 where
  pub later : tick < t.deadline
  pub same : slot tick t.deadline ≡ slot now t.deadline

-- the timer, due after now, is due by a tick, or its slot then is another than that of now
pub record LeavesSlot (now tick : ℕ) (t : Timer) : Type 0 where
  pub ahead : now < t.deadline
  pub leaves : (t.deadline ≤ tick) ⊎ (slot tick t.deadline ≢ slot now t.deadline)

-- moving now on to a tick leaves each timer in its slot
abbrev pub AllStay : Pending → ℕ → Type 0
AllStay p tick = (t : Timer) → Among t p.timers → StaysInSlot p.time tick t

-- moving now on to a tick takes a timer out of its slot
abbrev pub OneLeaves : Pending → ℕ → Type 0
OneLeaves p tick = (t : Timer) × Among t p.timers × LeavesSlot p.time tick t
