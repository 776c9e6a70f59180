-- Calls that are counted, and what one call of a sink over a counted writer asks of it.
use Rattle.std.specs.Prelude.{◌≡◌, ℕ, ◌<◌, ◌≤◌, List, [], length, Option, Result, OnOk, OnErr}
use Rattle.std.specs.Io.KnownBytes.{Appends}
use Rattle.inc_value.specs.Counts.{raised, raised_on_err}
use Rattle.script_io.specs.declared.source.Failed.{Failed}
use Rattle.std_streams.specs.declared.calls.Calls.{Calls}

-- before the first call
abbrev pub none_made : Calls
none_made = record { made = 0; failed = 0 }

-- a reader, and the reads that were made of it
pub record Reading (R : Type 0) : Type 0 where
  pub inner : R
  pub reads : Calls

-- a writer, and the writes and flushes that were made of it
pub record Writing (W : Type 0) : Type 0 where
  pub inner : W
  pub writes : Calls
  pub flushes : Calls

-- a sink into a writer, and how often it failed
pub record Sinking (W : Type 0) : Type 0 where
  pub writer : Writing W
  pub faults : ℕ

-- one call more was made, which counts as failed where it failed; the count of failures never falls
pub record IsCounted {T E : Type 0} (old new : Calls) (result : Result T E) : Type 0 where
  pub made : new.made ≡ raised old.made
  pub failed : new.failed ≡ raised_on_err result old.failed
  pub later : old.failed ≤ new.failed

-- one call more was made, which did not fail; and one, which failed
pub record IsMade (old new : Calls) : Type 0 where
  pub made : new.made ≡ raised old.made
  pub failed : new.failed ≡ old.failed

pub record IsFailed (old new : Calls) : Type 0 where
  pub made : new.made ≡ raised old.made
  pub failed : new.failed ≡ raised old.failed

-- why a call of a sink fails: its write failed; or that took nothing of a piece that isn't empty; or its flush failed. None was
-- tried again.
pub data Fails {W : Type 0} (contents : W → Option (List ℕ)) (piece : List ℕ) (old new : Writing W) : Type 0 where
  at_write : IsFailed old.writes new.writes → new.flushes ≡ old.flushes → Fails contents piece old new
  at_nothing : 0 < length piece → IsMade old.writes new.writes → new.flushes ≡ old.flushes
      → Appends (contents old.inner) (contents new.inner) [] → Fails contents piece old new
  at_flush : IsMade old.writes new.writes → IsFailed old.flushes new.flushes → Fails contents piece old new

-- what a call of a sink makes of its writer: one write and one flush, neither of which failed, or its fault is one of theirs
pub record WritesOnce {W : Type 0} (contents : W → Option (List ℕ)) (piece : List ℕ) (old new : Writing W) (result : Result ℕ Failed)
    : Type 0 where
  pub write : OnOk result (IsMade old.writes new.writes)
  pub flush : OnOk result (IsMade old.flushes new.flushes)
  pub fails : OnErr result (Fails contents piece old new)
