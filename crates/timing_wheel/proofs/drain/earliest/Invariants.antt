use Rattle.std.proofs.Common.{◌≡◌, ◌++◌, map}
use Rattle.index_lists.specs.Walks.{rows_left}
use Rattle.timing_wheel.specs.Levels.{timers_in}
use Rattle.timing_wheel.proofs.Rows.{IsLeastSoFar}
use Rattle.timing_wheel.proofs.drain.earliest.Given as goal

abbrev pub invariant-loop-timer : goal.invariant-loop-timer
invariant-loop-timer l = record {
  least : IsLeastSoFar (map (λ x. x.now) l.yielded) l.least;
  seen : map (λ x. x.now) l.yielded ++ rows_left l.timer-iterator ≡ timers_in l.lists l.slot;
}
