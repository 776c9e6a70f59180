use Rattle.std.proofs.Common.{arith, refl}
use Rattle.node_arena.proofs.Growing.{grown_none, in_added}
use Rattle.closure_examples.specs.Sides.{table_uses}
use Rattle.closure_examples.proofs.Making.{one_added}
use Rattle.closure_examples.proofs.table.Table.zero.Goals as goal

pub returns : goal.returns
returns c =
    let s = c.args.self.now in
    let uses = table_uses s.neg s.add s.of_left in
    let b = c.args.builder.now in
    let new = c.constant.new.self in
    rw c.added.ensures (one_added uses 4 b b new 0 (grown_none uses b) _ _ _ _ refl 1 tt (omega arith) (omega arith)
    (λ id adds grows. in_added b new id _ _ adds)
    c.constant.result c.constant.ensures.answer c.constant.ensures.added c.constant.ensures.err)
