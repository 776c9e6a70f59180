use Rattle.std.proofs.Common.{sym, ap, subst, ◌∙◌}
use Rattle.std.specs.Prelude.{IsTrue}
use Rattle.graph_tests.proofs.Keeping.{functions_after}
use Rattle.graph_tests.proofs.Usable.{none_among}
use Rattle.graph_tests.proofs.boxed.follows.Goals as goal

pub bind-requires : goal.bind-requires
bind-requires g c =
    let same = functions_after c.var.result c.args.graph.now c.var.new.self _ c.var.ensures.added c.var.ensures.err in
    record {
      known = subst (λ s. IsTrue (g.F.Functions.known s c.args.negation)) (sym same) c.requires.known;
      fit = λ x among. absurd (none_among _ (ap (λ s. (g.F.Functions.right s c.args.negation).ids) same ∙ c.requires.none_listed) x among);
    }
