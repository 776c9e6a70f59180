use Rattle.node_arena.specs.Arena.{live}
use Rattle.stabilizer.proofs.Building.Disowning.{AreDropping}
use Rattle.stabilizer.proofs.build.drop_since.Given as goal

abbrev pub invariant-loop-node : goal.invariant-loop-node
invariant-loop-node l = record {
  so : AreDropping l.fn.arena l.arena l.count l.next;
}

abbrev pub decreases-loop-node : goal.decreases-loop-node
decreases-loop-node l = live l.arena
