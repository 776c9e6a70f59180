use Rattle.std.proofs.Common.{inl, refl, arith}
use Rattle.node_outcomes.proofs.Lacking.{list_lacks}
use Rattle.node_outcomes.proofs.call.map_in.Goals as goal

pub returns-then-is_err-clause-wants : goal.returns-then-is_err-clause-wants
returns-then-is_err-clause-wants g c =
    let cleared = c.clear.ensures.capacity in
    let failed = c.if-is_err.ensures.negation in
    inl (
      refl,
      list_lacks c.args.rows.now c.args.list.now.capacity c.args.f.now.sig.gives c.args.kids.now
          (λ two none. let ok = c.fill_shown.ensures.two two none in cc)
          (λ enough none. let ok = c.fill_shown.ensures.scalar (omega (arith, enough, cleared)) none in cc),
    )
