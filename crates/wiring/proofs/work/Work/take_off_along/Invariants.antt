use Rattle.wiring.specs.TakingOff.{TakesSome}
use Rattle.wiring.proofs.work.Work.take_off_along.Given as goal

abbrev pub invariant-loop-p : goal.invariant-loop-p
invariant-loop-p l = TakesSome l.arena l.fn.self l.self
