-- How timers stand in slots.
use Rattle.std.specs.Prelude.{◌≡◌, ◌≢◌, ◌⊎◌, Bool, true, false, ℕ, ◌+◌, ◌<◌, ◌≤◌, ◌^◌, ◌++◌, List, [], ◌∷◌, length, map, flat_map, Option, Some}
use Rattle.index_lists.specs.Lists.{Lists, list_at, Has}
use Rattle.timing_wheel.specs.declared.levels.Timer.{Timer}
use Rattle.timing_wheel.specs.Slots.{slot}
use Rattle.timing_wheel.specs.Timers.{due_at, keys_of, LeavesSlot}

-- the timers of a slot
abbrev pub rows : List (ℕ × Timer) → List Timer
rows es = map (λ e. e.1) es

abbrev pub timers_in : Lists Timer → ℕ → List Timer
timers_in v at = rows (list_at v at)

-- the slots have the same timers
pub record KeepsTimers (v w : Lists Timer) : Type 0 where
  pub lists : (at : ℕ) → list_at w at ≡ list_at v at
  pub timers : flat_map rows w.lists ≡ flat_map rows v.lists
  pub width : length v.lists ≤ length w.lists

-- the slots are made, unless there is neither a slot nor room
abbrev pub AreMade : Lists Timer → Type 0
AreMade v = 0 < length v.lists + v.spare → 2048 ≤ length v.lists

-- the timers of all slots
abbrev pub timers_of : List (List (ℕ × Timer)) → List Timer
timers_of lists = flat_map rows lists

-- the slots below this one are empty
abbrev pub NoneBelow : Lists Timer → ℕ → Type 0
NoneBelow v least = (at : ℕ) → at < least → list_at v at ≡ []

-- the slot isn't empty
pub record IsFilled (v : Lists Timer) (at : ℕ) : Type 0 where
  pub first : ℕ × Timer
  pub rest : List (ℕ × Timer)
  pub is : list_at v at ≡ first ∷ rest

-- whether the first timer of the slot is due after a tick at which it is still in that slot
pub record IsFirstLater (v : Lists Timer) (at tick : ℕ) (is : Bool) : Type 0 where
  pub place : ℕ
  pub first : Timer
  pub has : Has (list_at v at) place first
  pub later : is ≡ true → (tick < first.deadline) × (slot tick first.deadline ≡ at)
  pub near : is ≡ false → (first.deadline ≤ tick) ⊎ (slot tick first.deadline ≢ at)

-- each timer is due after now, and stands in its slot
pub record InPlace (now : ℕ) (v : Lists Timer) : Type 0 where
  pub after : (at place : ℕ) (t : Timer) → Has (list_at v at) place t → now < t.deadline
  pub placed : (at place : ℕ) (t : Timer) → Has (list_at v at) place t → slot now t.deadline ≡ at
  pub range : (at place : ℕ) (t : Timer) → Has (list_at v at) place t → t.deadline < 2 ^ 64

-- a timer leaves its slot, or is due, as now moves on to a tick
pub record MovesOne (now tick : ℕ) (v : Lists Timer) : Type 0 where
  pub at : ℕ
  pub place : ℕ
  pub timer : Timer
  pub has : Has (list_at v at) place timer
  pub leaves : LeavesSlot now tick timer

-- a key's timer
pub record HasKey (v : Lists Timer) (key place : ℕ) : Type 0 where
  pub at : ℕ
  pub timer : Timer
  pub has : Has (list_at v at) place timer
  pub same : timer.key ≡ key

-- each key has the place of its timer
pub record IsKeyed (find : ℕ → Option ℕ) (v : Lists Timer) : Type 0 where
  pub found : (key place : ℕ) → find key ≡ Some place → HasKey v key place
  pub kept : (at place : ℕ) (t : Timer) → Has (list_at v at) place t → find t.key ≡ Some place

-- A slot is being emptied at a tick, at which none of its timers was due before: those of the others stand in their slots, and its
-- own are to come into lower ones.
pub record IsDrained (tick at : ℕ) (find : ℕ → Option ℕ) (v : Lists Timer) : Type 0 where
  pub within : at < length v.lists
  pub keyed : IsKeyed find v
  pub after : (other place : ℕ) (t : Timer) → (other ≡ at → ⊥) → Has (list_at v other) place t → (tick < t.deadline) × (slot tick t.deadline ≡ other)
  pub left : (place : ℕ) (t : Timer) → Has (list_at v at) place t → (tick ≤ t.deadline) × (tick < t.deadline → slot tick t.deadline < at)
  pub range : (other place : ℕ) (t : Timer) → Has (list_at v other) place t → t.deadline < 2 ^ 64

-- the timers due at a later tick, once the slot will be empty
abbrev pub later : ℕ → ℕ → ℕ → Lists Timer → List Timer
later tick at t v = due_at t (timers_in v (slot tick t)) ++ due_at t (timers_in v at)

abbrev pub KeepsLater : ℕ → ℕ → Lists Timer → Lists Timer → Type 0
KeepsLater tick at old new = (t : ℕ) → tick < t → later tick at t new ≡ later tick at t old

-- the keys that are still to be told at the tick
abbrev pub fired : ℕ → ℕ → Lists Timer → List ℕ
fired tick at v = keys_of (due_at tick (timers_in v at))
