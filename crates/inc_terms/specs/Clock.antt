-- What nodes that read the clock show, and from when on they may show another value.
use Rattle.std.specs.Prelude.{◌≡◌, ◌≤ℤ◌, ◌<ℤ◌, ◌+ℤ◌, ◌-ℤ◌, ◌*ℤ◌, pos, ℕ, ℤ, Bool, true, false, Option, None, Some}
use Rattle.std.specs.Int.Signed.{le_z, quot_z}
use Rattle.inc_value.specs.Choice.{Among}
use Rattle.inc_value.specs.declared.value.Value.{Value}
use Rattle.inc_value.specs.declared.value.Value.TheVariants as value
use Rattle.inc_terms.specs.Evaluate.{latest}
use Rattle.inc_terms.specs.Graph.{Def, At, Steps, Now, Every}
use Rattle.inc_terms.specs.Term.{Step}

-- the value that a node shows at a time by the clock alone; a node that doesn't read the clock none
abbrev pub clock_value : ℤ → Def → Option Value
clock_value time (At t) = Some (value.Bool (le_z t time))
clock_value time (Steps v steps) = Some (latest time v steps)
clock_value time Now = Some (value.Int time)
clock_value time (Every base span) = Some (value.Int (quot_z (time -ℤ base) span))
clock_value time def = None

-- whether the node reads the clock
abbrev pub reads_clock : Def → Bool
reads_clock (At t) = true
reads_clock (Steps v steps) = true
reads_clock Now = true
reads_clock (Every base span) = true
reads_clock def = false

-- spans are counted from a base that isn't below 0 and was reached, and a span isn't empty
abbrev pub IsTimed : ℤ → Def → Type 0
IsTimed time (Every base span) = (pos 0 ≤ℤ base) × (base ≤ℤ time) × (pos 0 <ℤ span)
IsTimed time def = Unit {0}

-- the times at which the node may come to show another value: the one that it waits for, where a step begins, each one, or where a span ends
abbrev pub MayTurn : Def → ℤ → Type 0
MayTurn (At t) time = time ≡ t
MayTurn (Steps v steps) time = (s : Step) × Among s steps × (s.time ≡ time)
MayTurn Now time = Unit {0}
MayTurn (Every base span) time = (n : ℕ) × (time ≡ (base +ℤ (pos n *ℤ span)))
MayTurn def time = ⊥

-- Up to a time, if there is one, and for good if there is none, the node shows the value that it shows at present; at that time it may come to
-- show another. The greatest time is 2^63 - 1
pub record IsNextChange (time : ℤ) (def : Def) (until : Option ℤ) : Type 0 where
  pub later : (t : ℤ) → until ≡ Some t → time <ℤ t
  pub turns : (t : ℤ) → until ≡ Some t → MayTurn def t
  pub same : (after : ℤ) → time ≤ℤ after → after ≤ℤ pos 9223372036854775807 → ((t : ℤ) → until ≡ Some t → after <ℤ t)
      → clock_value after def ≡ clock_value time def
