use Rattle.std.proofs.Common.{◌≡◌, length}
use Rattle.map_nodes.proofs.kept.are_kept.Given as goal

-- as many are left of both, and all are equal exactly where those left are
abbrev pub invariant-loop-kept : goal.invariant-loop-kept
invariant-loop-kept l =
    (length l.kept-iterator.a.rest.now ≡ length l.kept-iterator.b.rest.now)
    × (l.kept-iterator.a.rest.now ≡ l.kept-iterator.b.rest.now → l.kept ≡ l.values)
    × (l.kept ≡ l.values → l.kept-iterator.a.rest.now ≡ l.kept-iterator.b.rest.now)
