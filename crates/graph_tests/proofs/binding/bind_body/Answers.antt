use Rattle.std.proofs.Common.{refl, ap}
use Rattle.script_functions.specs.Bodies.{side_of}
use Rattle.graph_tests.proofs.Keeping.{needed_over, needed_after, unscoped_over, unscoped_after}
use Rattle.graph_tests.proofs.Usable.{fit_after}
use Rattle.graph_tests.proofs.binding.bind_body.Goals as goal

pub bind-requires : goal.bind-requires
bind-requires c =
    let fit = rw (c.listed.ensures, c.draft.ensures.value) at c.if-not-are_fit.ensures in
    record {
      known = c.in-Ok.ensures.known;
      fit = fit_after _ _ (side_of c.args.body) _ (ap (λ s. s.nodes) c.kept.ensures.rest) c.in-Ok.ensures.side (fit.0 refl);
    }

pub returns-in-Ok-clause-needed : goal.returns-in-Ok-clause-needed
returns-in-Ok-clause-needed c = λ p need. needed_over c.args.graph.now c.kept.new.graph c.kept.ensures.rest p
    (needed_after c.bind.result c.kept.new.graph c.bind.new.self _ c.bind.ensures.added c.bind.ensures.err p need)

pub returns-in-Ok-clause-unscoped : goal.returns-in-Ok-clause-unscoped
returns-in-Ok-clause-unscoped c = λ count none. unscoped_after c.bind.result c.kept.new.graph c.bind.new.self _ count c.bind.ensures.added
    c.bind.ensures.err refl (unscoped_over c.args.graph.now c.kept.new.graph c.kept.ensures.rest count none)

pub returns-in-Err-clause-needed : goal.returns-in-Err-clause-needed
returns-in-Err-clause-needed c = λ p need. needed_over c.args.graph.now c.kept.new.graph c.kept.ensures.rest p need
