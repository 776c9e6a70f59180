-- Sources and sinks in memory, and when their calls fail.
use Rattle.std.specs.Prelude.{ℕ, List}

-- what is left of a source, the most that a call gives, the numbers of the calls that fail, and the calls and the faults so far
pub record SourceState : Type 0 where
  pub left : List ℕ
  pub piece : ℕ
  pub fails : List ℕ
  pub calls : ℕ
  pub faults : ℕ

-- what was written, how many bytes fit in all, the numbers of the calls that fail, and the calls and the faults so far
pub record SinkState : Type 0 where
  pub written : List ℕ
  pub room : ℕ
  pub fails : List ℕ
  pub calls : ℕ
  pub faults : ℕ
