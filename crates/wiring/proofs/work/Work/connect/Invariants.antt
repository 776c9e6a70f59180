use Rattle.wiring.proofs.Retrying.{IsTrying}
use Rattle.wiring.proofs.work.Work.connect.Given as goal

abbrev pub invariant-loop-fault : goal.invariant-loop-fault
invariant-loop-fault l = IsTrying l.arena l.fn.self l.self l.p l.q

abbrev pub decreases-loop-fault : goal.decreases-loop-fault
decreases-loop-fault l = l.self.retries
