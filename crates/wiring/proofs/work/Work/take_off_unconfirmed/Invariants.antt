use Rattle.std.proofs.Common.{length}
use Rattle.wiring.proofs.TakingAll.{AreTaken}
use Rattle.wiring.proofs.work.Work.take_off_unconfirmed.Given as goal

abbrev pub invariant-loop-place : goal.invariant-loop-place
invariant-loop-place l = AreTaken l.arena l.fn.self l.self l.place 0

abbrev pub invariant-loop-index : goal.invariant-loop-index
invariant-loop-index l = AreTaken l.arena l.fn.self l.self (length l.fn.self.scoped.nodes) l.index
