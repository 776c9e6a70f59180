use Rattle.std.proofs.Common.{◌≤◌, ◌-◌}
use Rattle.std.specs.Prelude.{vec_capacity}
use Rattle.node_arena.specs.Arena.{live}
use Rattle.stabilizer.specs.Building.{AdoptsBefore}
use Rattle.stabilizer.proofs.parts.Parts.adopt_since.Given as goal

abbrev pub invariant-loop-node : goal.invariant-loop-node
invariant-loop-node l = record {
  low : l.count ≤ l.next;
  high : l.next ≤ l.fn.self.arena.given;
  so : AdoptsBefore l.fn.self l.self l.bind l.count l.next;
  called : live l.fn.self.arena ≤ vec_capacity l.self.work.ran;
  listed : live l.fn.self.arena ≤ vec_capacity l.self.ran;
}

abbrev pub decreases-loop-node : goal.decreases-loop-node
decreases-loop-node l = l.fn.self.arena.given - l.next
