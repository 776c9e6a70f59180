use Rattle.std.proofs.Common.{sym}
use Rattle.std.proofs.lemmas.Slice.Zip.{AllZip-long}
use Rattle.node_arena.specs.Typing.{Fits}
use Rattle.node_arena.proofs.arena.typing.all_fit.Goals as goal

pub returns-then-nodes-types : goal.returns-then-nodes-types
returns-then-nodes-types c =
    (λ h. absurd cc, λ all. absurd (c.if-nodes-types.true (sym (AllZip-long (Fits c.args.arena.now) c.args.nodes.now c.args.types.now all))))
