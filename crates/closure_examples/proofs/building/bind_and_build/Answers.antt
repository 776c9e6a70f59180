use Rattle.std.proofs.Common.{None, refl, subst}
use Rattle.inc_terms.specs.Graph.{Row, Bind}
use Rattle.node_arena.specs.Typing.{IsAddable}
use Rattle.closure_examples.proofs.Binding.{may_build}
use Rattle.closure_examples.proofs.building.bind_and_build.Goals as goal

pub build-requires-clause-ready : goal.build-requires-clause-ready
build-requires-clause-ready g c =
    let row : Row = record { def = Bind c.args.left c.args.f c.in-Ok.nodes; ty = c.gives.result; scope = None } in
    let first = rw (c.takes.ensures.value, c.ty.ensures) at c.if-not-takes_first.ensures in
    may_build c.args.arena.now c.add.new.self c.in-Ok-add.bind row
    c.in-Ok-add.ensures.id c.in-Ok-add.ensures.added c.add.ensures.keeps c.in-Ok-add.ensures.given refl c.requires.arena
    c.args.f c.args.left c.args.captures.now c.gives.result
    (subst (λ ns. IsAddable c.args.arena.now (Bind c.args.left c.args.f ns) c.gives.result) c.in-Ok.ensures.ok
    c.in-Ok-add.ensures.addable)
    (g.F.Functions.right c.args.functions.now c.args.f) c.requires.lists_none
    c.args.value.now c.requires.base (first refl)
