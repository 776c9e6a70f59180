use Rattle.std.proofs.Common.{◌≡◌, [], IsTrue}
use Rattle.node_arena.specs.Meanings.{SameKnown}
use Rattle.node_arena.specs.Sound.{IsSoundArena}
use Rattle.closure_examples.proofs.reading.builds_each.Given as goal

-- the table's function stays known, and lists no nodes
abbrev pub invariant-loop-number : goal.invariant-loop-number
invariant-loop-number g l =
    let F = g.F.Functions in
    record {
      sound : F.is_sound l.functions;
      arena : IsSoundArena l.arena;
      keeps : SameKnown (F.known l.fn.functions) (F.known l.functions);
      known : IsTrue (F.known l.functions l.named.table);
      lists_none : (F.right l.functions l.named.table).ids ≡ [];
    }
