use Rattle.std.proofs.Common.{arith, [], ◌∷◌, inl, inr, refl, ap}
use Rattle.inc_value.specs.Sig.{Signature}
use Rattle.inc_value.specs.declared.function.FnKind.TheVariants.{Map}
use Rattle.node_arena.proofs.Growing.{grown_none, in_added}
use Rattle.closure_examples.specs.Sides.{table_uses}
use Rattle.closure_examples.proofs.Making.{is_listed, one_added, x_read}
use Rattle.closure_examples.proofs.table.Table.double.Goals as goal

pub returns : goal.returns
returns c =
    let s = c.args.self.now in
    let uses = table_uses s.neg s.add s.of_left in
    let k = c.args.captures in
    let b = c.args.builder.now in
    let new = c.fold.new.self in
    rw c.added.ensures (one_added uses 4 b b new 0 (grown_none uses b) _ _ _ _
    (ap (λ (t : Signature). t.gives) s.add_types) 1
    (is_listed uses Map s.add 0 (inr (inl refl)) s.add_map, tt, (tt, (tt, tt)))
    (omega arith) (omega arith)
    (λ id adds grows. (let x = x_read uses b new 1 grows k c.requires.ready in
    (k.x ∷ k.x ∷ [], in_added b new id _ _ adds, (x, (x, tt)))))
    c.fold.result c.fold.ensures.answer c.fold.ensures.added c.fold.ensures.err)
