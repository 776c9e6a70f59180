use Rattle.timing_wheel.specs.Levels.{NoneBelow}
use Rattle.timing_wheel.proofs.drain.first_filled.Given as goal

abbrev pub invariant-loop-slot : goal.invariant-loop-slot
invariant-loop-slot l = NoneBelow l.lists l.slot
