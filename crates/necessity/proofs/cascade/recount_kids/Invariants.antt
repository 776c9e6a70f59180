use Rattle.std.proofs.Common.{◌≡◌, ◌+◌, ◌≤◌, ◌++◌, ◌∷◌, [], length, vec_capacity}
use Rattle.link_table.specs.Walks.{kids_left}
use Rattle.necessity.specs.Turn.{to_needed}
use Rattle.necessity.specs.Counting.{behind, KeepsRootCounts, NoNewRows, IsUnderWay}
use Rattle.necessity.proofs.cascade.recount_kids.Given as goal

abbrev pub invariant-loop-k : goal.invariant-loop-k
invariant-loop-k l = record {
  under_way : IsUnderWay (to_needed l.turn) l.links l.rows l.waiting.items (kids_left l.k-iterator);
  room : length l.waiting.items + length (kids_left l.k-iterator) + behind (to_needed l.turn) l.links l.rows l.waiting.items
      ≤ length l.initial.waiting.items + behind (to_needed l.turn) l.links l.initial.rows (l.initial.waiting.items ++ l.fn.p ∷ []);
  roots : KeepsRootCounts l.initial.rows l.rows;
  rows : NoNewRows l.initial.rows l.rows;
  capacity : vec_capacity l.waiting ≡ vec_capacity l.initial.waiting;
}
