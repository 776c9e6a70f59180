-- Counts of faults: a call answers an error exactly where its count rose.
use Rattle.std.specs.Prelude.{◌≡◌, ℕ, ◌≤◌, Result, OnOk, OnErr}
use Rattle.inc_value.specs.Counts.{raised}

-- the count rose; at its last value it counts as risen
abbrev pub Rose : ℕ → ℕ → Type 0
Rose before now = raised before ≤ now

-- the count never falls, rose where the call failed, and stayed where it did not
pub record HasCause {T E : Type 0} (before now : ℕ) (result : Result T E) : Type 0 where
  pub later : before ≤ now
  pub failed : OnErr result (Rose before now)
  pub unfailed : OnOk result (now ≡ before)

-- a count of faults rose where one came, and stayed where none did
pub record Tells (Came : Type 0) (before now : ℕ) : Type 0 where
  pub later : before ≤ now
  pub fault : Came → Rose before now
  pub unfailed : (Came → ⊥) → now ≡ before
