use Rattle.wiring.specs.Growing.{left_to_wire}
use Rattle.wiring.proofs.Growing.{link_points}
use Rattle.wiring.proofs.Leaving.{IsWiring}
use Rattle.wiring.proofs.work.Work.wire.Given as goal

abbrev pub invariant-loop-p : goal.invariant-loop-p
invariant-loop-p l = IsWiring l.arena l.fn.self l.self

abbrev pub decreases-loop-p : goal.decreases-loop-p
decreases-loop-p l = left_to_wire l.self (link_points l.fn.self)
