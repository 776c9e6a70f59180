use Rattle.std.proofs.Common.{take}
use Rattle.stabilizer.proofs.Step.Making.{ArePut}
use Rattle.stabilizer.proofs.stabilizer.put_roots.Given as goal

abbrev pub invariant-loop-node : goal.invariant-loop-node
invariant-loop-node l = ArePut l.arena l.fn.work l.work (take l.node-index l.roots)
