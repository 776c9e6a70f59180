use Rattle.std.proofs.Common.{arith, [], ◌∷◌, inl, refl, ap}
use Rattle.inc_value.specs.Sig.{Signature}
use Rattle.inc_value.specs.declared.function.FnKind.TheVariants.{Map}
use Rattle.node_arena.proofs.Growing.{grown_none, grown_more, value_any, in_added, in_still, given_added}
use Rattle.closure_examples.specs.Sides.{negation_uses}
use Rattle.closure_examples.proofs.Making.{is_listed, one_added}
use Rattle.closure_examples.proofs.negation.NegOfLeft.mapped.Goals as goal

pub returns : goal.returns
returns c =
    let s = c.args.self.now in
    let uses = negation_uses s.neg in
    let b0 = c.args.builder.now in
    let b1 = c.constant.new.self in
    let b2 = c.map.new.self in
    let constant = c.in-Ok.id in
    let a1 = c.in-Ok.ensures.added in
    let g1 = grown_more uses b0 b0 b1 0 (grown_none uses b0) constant _ _ a1 (value_any c.args.value) 1 (omega arith) in
    rw c.added.ensures (one_added uses 2 b0 b1 b2 1 g1 _ _ _ _ (ap (λ (t : Signature). t.gives) s.types) 1
    (is_listed uses Map s.neg 0 (inl refl) s.map, (tt, tt)) (omega arith) (omega arith)
    (λ id adds grows. (
      constant ∷ [],
      in_added b1 b2 id _ _ adds,
      (
        in_still b1 b2 id _ _ adds constant _ (given_added b0 b1 constant _ _ a1)
            (in_added b0 b1 constant _ _ a1),
        tt,
      ),
    ))
    c.map.result c.map.ensures.answer c.map.ensures.added c.map.ensures.err)
