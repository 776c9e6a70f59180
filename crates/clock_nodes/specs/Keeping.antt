-- What a clock keeps of its nodes and alarms.
use Rattle.std.specs.Prelude.{◌≡◌, ◌≢◌, ◌++◌, ◌∷◌, [], ◌⊎◌, ◌≤ℤ◌, ◌<ℤ◌, pos, ℕ, ℤ, List, Some, IsSome, true}
use Rattle.inc_value.specs.Choice.{Among, NoRepeats}
use Rattle.inc_value.specs.declared.node.NodeId.{NodeId}
use Rattle.inc_terms.specs.Clock.{clock_value, reads_clock, IsTimed, MayTurn}
use Rattle.timing_wheel.specs.Alarms.{Alarm, Wheel, keys_of}
use Rattle.clock_nodes.specs.Clock.{Rows, row_at}
use Rattle.clock_nodes.specs.Kinds.{watch_def, watch_slot}
use Rattle.clock_nodes.specs.declared.watch.Watch.{Watch}

-- the key's alarms are due after the time
abbrev pub ComesLater : List Alarm → ℕ → ℤ → Type 0
ComesLater alarms key time = (a : Alarm) → Among a alarms → a.key ≡ key → time <ℤ a.deadline

-- the node reads the clock
pub record IsWatch (time : ℤ) (w : Watch) : Type 0 where
  pub reads : reads_clock (watch_def w) ≡ true
  pub timed : IsTimed time (watch_def w)

-- Each alarm is for when a node may come to show another value, and no key has two. Until then the node goes on to show what it shows at present;
-- so does one that has no alarm, but for those whose keys were due
pub record IsAwake (rows : Rows) (wheel : Wheel) (due : List ℕ) : Type 0 where
  pub time : pos 0 ≤ℤ wheel.time
  pub watches : (key : ℕ) (w : Watch) → row_at rows key ≡ Some w → IsWatch wheel.time w
  pub kept : (key : ℕ) → Among key (keys_of wheel.alarms) → IsSome (row_at rows key)
  pub single : NoRepeats (keys_of wheel.alarms)
  pub turns : (a : Alarm) (w : Watch) → Among a wheel.alarms → row_at rows a.key ≡ Some w → MayTurn (watch_def w) a.deadline
  pub quiet : (key : ℕ) (w : Watch) → row_at rows key ≡ Some w → (Among key due → ⊥) → (after : ℤ) → wheel.time ≤ℤ after
      → after ≤ℤ pos 9223372036854775807 → ComesLater wheel.alarms key after → clock_value after (watch_def w) ≡ clock_value wheel.time (watch_def w)
  pub due_once : NoRepeats due
  pub due_kept : (key : ℕ) → Among key due → IsSome (row_at rows key)
  pub due_off : (key : ℕ) → Among key due → Among key (keys_of wheel.alarms) → ⊥

-- all nodes were timed before
abbrev pub WereTimed : Rows → ℤ → Type 0
WereTimed rows before = (key : ℕ) (w : Watch) → row_at rows key ≡ Some w → IsTimed before (watch_def w)

-- the node of a key was put behind a list where it shows another value than before
pub record TellsOne (rows : Rows) (before time : ℤ) (key : ℕ) (old new : List NodeId) : Type 0 where
  pub watch : Watch
  pub is : row_at rows key ≡ Some watch
  pub told : ((new ≡ old) × (clock_value time (watch_def watch) ≢ clock_value before (watch_def watch) → ⊥))
      ⊎ ((new ≡ old ++ record { slot = watch_slot watch; gen_ = key } ∷ []) × (clock_value time (watch_def watch) ≢ clock_value before (watch_def watch)))

-- a kept node that shows another value than before
pub record IsStaleIn (rows : Rows) (before time : ℤ) (n : NodeId) : Type 0 where
  pub watch : Watch
  pub is : row_at rows n.gen_ ≡ Some watch
  pub own : watch_slot watch ≡ n.slot
  pub changed : clock_value time (watch_def watch) ≢ clock_value before (watch_def watch)

-- of the keys that were due all but those that still are were looked at: behind a list there are, each once, their nodes that show another value
pub record TellsDue (rows : Rows) (before time : ℤ) (all due : List ℕ) (old new : List NodeId) : Type 0 where
  pub nodes : List NodeId
  pub behind : new ≡ old ++ nodes
  pub once : NoRepeats nodes
  pub are : (n : NodeId) → Among n nodes → IsStaleIn rows before time n
  pub done : (n : NodeId) → Among n nodes → Among n.gen_ due → ⊥
  pub each : (n : NodeId) → IsStaleIn rows before time n → Among n.gen_ all → Among n.gen_ due ⊎ Among n nodes
