use Rattle.std.proofs.Common.{length}
use Rattle.stabilizer.proofs.Killing.Died.{AreBeingListed}
use Rattle.stabilizer.proofs.parts.Parts.list_dying.Given as goal

abbrev pub invariant-loop-node : goal.invariant-loop-node
invariant-loop-node l = AreBeingListed l.fn.self l.self

abbrev pub decreases-loop-node : goal.decreases-loop-node
decreases-loop-node l = length l.self.dying.items
