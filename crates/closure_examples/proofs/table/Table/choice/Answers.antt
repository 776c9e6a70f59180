use Rattle.std.proofs.Common.{arith, refl}
use Rattle.node_arena.proofs.Growing.{grown_none, grown_more, in_added, in_still, given_added}
use Rattle.closure_examples.specs.Sides.{table_uses}
use Rattle.closure_examples.proofs.Making.{one_added, x_read, c_read}
use Rattle.closure_examples.proofs.table.Table.choice.Goals as goal

pub returns : goal.returns
returns c =
    let s = c.args.self.now in
    let uses = table_uses s.neg s.add s.of_left in
    let k = c.args.captures in
    let b0 = c.args.builder.now in
    let b1 = c.constant.new.self in
    let b2 = c.if_.new.self in
    let zero = c.in-Ok.id in
    let a1 = c.in-Ok.ensures.added in
    let g1 = grown_more uses b0 b0 b1 0 (grown_none uses b0) zero _ _ a1 tt 1 (omega arith) in
    rw c.added.ensures (one_added uses 4 b0 b1 b2 1 g1 _ _ _ _ refl 1 (tt, tt, tt) (omega arith) (omega arith)
    (λ id adds grows. (
      k.c,
      k.x,
      zero,
      in_added b1 b2 id _ _ adds,
      c_read uses b0 b2 2 grows k c.requires.ready,
      x_read uses b0 b2 2 grows k c.requires.ready,
      in_still b1 b2 id _ _ adds zero _ (given_added b0 b1 zero _ _ a1) (in_added b0 b1 zero _ _ a1),
    ))
    c.if_.result c.if_.ensures.answer c.if_.ensures.added c.if_.ensures.err)
