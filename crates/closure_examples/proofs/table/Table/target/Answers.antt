use Rattle.std.proofs.Common.{arith, refl}
use Rattle.node_arena.proofs.Growing.{grown_none, in_added}
use Rattle.closure_examples.specs.Sides.{table_uses}
use Rattle.closure_examples.proofs.Making.{one_added, h_read}
use Rattle.closure_examples.proofs.table.Table.target.Goals as goal

pub returns : goal.returns
returns c =
    let s = c.args.self.now in
    let uses = table_uses s.neg s.add s.of_left in
    let k = c.args.captures in
    let b = c.args.builder.now in
    let new = c.join.new.self in
    rw c.added.ensures (one_added uses 4 b b new 0 (grown_none uses b) _ _ _ _ refl 1 tt (omega arith) (omega arith)
    (λ id adds grows. (k.h, in_added b new id _ _ adds, h_read uses b new 1 grows k c.requires.ready))
    c.join.result c.join.ensures.answer c.join.ensures.added c.join.ensures.err)
