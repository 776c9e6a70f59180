use Rattle.std.proofs.Common.{◌≡◌, ◌+◌, ◌≤◌, [], length, vec_capacity}
use Rattle.necessity.specs.Turn.{to_needed}
use Rattle.necessity.specs.Counting.{behind, KeepsRootCounts, NoNewRows, IsUnderWay}
use Rattle.necessity.proofs.cascade.settle.Given as goal

abbrev pub invariant-loop-p : goal.invariant-loop-p
invariant-loop-p l = record {
  under_way : IsUnderWay (to_needed l.turn) l.links l.rows l.waiting.items [];
  room : length l.waiting.items + behind (to_needed l.turn) l.links l.rows l.waiting.items ≤ vec_capacity l.waiting;
  roots : KeepsRootCounts l.initial.rows l.rows;
  rows : NoNewRows l.initial.rows l.rows;
  capacity : vec_capacity l.waiting ≡ vec_capacity l.initial.waiting;
}

abbrev pub decreases-loop-p : goal.decreases-loop-p
decreases-loop-p l = length l.waiting.items + behind (to_needed l.turn) l.links l.rows l.waiting.items
