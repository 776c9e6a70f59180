-- Counts of calls and faults, which stay at their greatest once there.
use Rattle.std.specs.Prelude.{ℕ, ◌+◌, ◌-◌, ◌^◌, min, Result, Ok, Err}

-- a count after one more
abbrev pub raised : ℕ → ℕ
raised n = min (n + 1) (2 ^ 64 - 1)

-- a count of failures after the call that gave the result
abbrev pub raised_on_err : {T E : Type 0} → Result T E → ℕ → ℕ
raised_on_err (Ok v) n = n
raised_on_err (Err e) n = raised n
