use Rattle.std.proofs.Common.{arith, [], inl, inr, refl, ap}
use Rattle.inc_value.specs.Sig.{Signature}
use Rattle.inc_value.specs.declared.function.FnKind.TheVariants.{Rhs}
use Rattle.node_arena.proofs.Growing.{grown_none, in_added}
use Rattle.closure_examples.specs.Sides.{table_uses}
use Rattle.closure_examples.proofs.Making.{is_listed, one_added, x_read}
use Rattle.closure_examples.proofs.table.Table.nested.Goals as goal

pub returns : goal.returns
returns c =
    let s = c.args.self.now in
    let uses = table_uses s.neg s.add s.of_left in
    let k = c.args.captures in
    let b = c.args.builder.now in
    let new = c.bind.new.self in
    rw c.added.ensures (one_added uses 4 b b new 0 (grown_none uses b) _ _ _ _
    (ap (λ (t : Signature). t.gives) s.of_left_types) 3
    (is_listed uses Rhs s.of_left 2 (inr (inr (inl refl))) s.of_left_rhs, tt, tt)
    (record { function = s.of_left; most = 2 }, inr (inr (inl refl)), refl, omega arith) (omega arith)
    (λ id adds grows. (k.x, [], in_added b new id _ _ adds, x_read uses b new 3 grows k c.requires.ready, tt))
    c.bind.result c.bind.ensures.answer c.bind.ensures.added c.bind.ensures.err)
