use Rattle.std.proofs.Common.{◌≤◌}
use Rattle.height_order.specs.Levels.{level}
use Rattle.height_order.proofs.Walking.{EachBelow}
use Rattle.height_order.proofs.levels.too_long.Given as goal

abbrev pub invariant-loop-i : goal.invariant-loop-i
invariant-loop-i l = EachBelow l.levels (λ p. level l.levels p ≤ 128) l.i
