use Rattle.std.proofs.Common.{◌≡◌, ◌≤◌, ◌+◌, ◌++◌, drop, vec_len, vec_capacity}
use Rattle.observers.specs.Keeping.{notices_at, settled_at, distinct}
use Rattle.observers.proofs.settle.settle_due.Given as goal

abbrev pub invariant-loop-place : goal.invariant-loop-place
invariant-loop-place g l = record {
  settled : l.settled.items ++ settled_at (g.S.Sight.shows l.sight) l.made (distinct l.last (drop l.place-index l.due))
      ≡ l.initial.settled.items ++ settled_at (g.S.Sight.shows l.sight) l.made (distinct l.initial.last l.due);
  notices : l.notices.items ++ notices_at (g.S.Sight.shows l.sight) l.made (distinct l.last (drop l.place-index l.due))
      ≡ l.initial.notices.items ++ notices_at (g.S.Sight.shows l.sight) l.made (distinct l.initial.last l.due);
  settled_len : vec_len l.settled ≤ vec_len l.initial.settled + l.place-index;
  notices_len : vec_len l.notices ≤ vec_len l.initial.notices + l.place-index;
  settled_capacity : vec_capacity l.settled ≡ vec_capacity l.initial.settled;
  notices_capacity : vec_capacity l.notices ≡ vec_capacity l.initial.notices;
}
