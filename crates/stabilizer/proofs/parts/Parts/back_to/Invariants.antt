use Rattle.std.proofs.Common.{◌≡◌}
use Rattle.node_arena.specs.Arena.{live}
use Rattle.stabilizer.specs.Between.{HasDropped}
use Rattle.stabilizer.proofs.Between.Dropping.{AreWalked}
use Rattle.stabilizer.proofs.parts.Parts.back_to.Given as goal

abbrev pub invariant-loop-id : goal.invariant-loop-id
invariant-loop-id l = record {
  so_far : HasDropped l.fn.self l.self l.count;
  ran : l.self.ran ≡ l.fn.self.ran;
  walked : AreWalked l.self.arena l.count l.next;
}

abbrev pub decreases-loop-id : goal.decreases-loop-id
decreases-loop-id l = live l.self.arena
