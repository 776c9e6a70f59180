use Rattle.std.proofs.Common.{sym, ap, subst, ◌∙◌}
use Rattle.std.specs.Prelude.{IsTrue}
use Rattle.graph_tests.proofs.Keeping.{functions_after}
use Rattle.graph_tests.proofs.Usable.{none_among}
use Rattle.graph_tests.proofs.boxed.make_bound.Goals as goal

pub bind-requires : goal.bind-requires
bind-requires g c =
    let first = functions_after c.var.result c.args.graph.now c.var.new.self _ c.var.ensures.added c.var.ensures.err in
    let second = functions_after c.var-2.result c.var.new.self c.var-2.new.self _ c.var-2.ensures.added c.var-2.ensures.err in
    let third = functions_after c.var-3.result c.var-2.new.self c.var-3.new.self _ c.var-3.ensures.added c.var-3.ensures.err in
    let fourth = functions_after c.var-4.result c.var-3.new.self c.var-4.new.self _ c.var-4.ensures.added c.var-4.ensures.err in
    let same = fourth ∙ (third ∙ (second ∙ first)) in
    record {
      known = subst (λ s. IsTrue (g.F.Functions.known s c.args.table)) (sym same) c.requires.known;
      fit = λ x among. absurd (none_among _ (ap (λ s. (g.F.Functions.right s c.args.table).ids) same ∙ c.requires.none_listed) x among);
    }
