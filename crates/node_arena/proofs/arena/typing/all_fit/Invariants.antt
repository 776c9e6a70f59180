use Rattle.std.proofs.Common.{◌≡◌, length}
use Rattle.std.specs.List.{AllZip}
use Rattle.node_arena.specs.Typing.{Fits}
use Rattle.node_arena.proofs.arena.typing.all_fit.Given as goal

-- as many are left of both, and all fit exactly where those left do
abbrev pub invariant-loop-node : goal.invariant-loop-node
invariant-loop-node l =
    (length l.node-iterator.a.rest.now ≡ length l.node-iterator.b.rest.now)
    × (AllZip (Fits l.arena) l.node-iterator.a.rest.now l.node-iterator.b.rest.now → AllZip (Fits l.arena) l.nodes l.types)
    × (AllZip (Fits l.arena) l.nodes l.types → AllZip (Fits l.arena) l.node-iterator.a.rest.now l.node-iterator.b.rest.now)
