use Rattle.std.proofs.Common.{refl, subst, IfOk}
use Rattle.node_arena.specs.Building.{Grows}
use Rattle.node_arena.specs.RightSide.{IsRoot}
use Rattle.script_functions.specs.Keeping.{Maker, maker_of}
use Rattle.script_functions.proofs.Tables.{means_set, means_read, read_means}
use Rattle.script_functions.proofs.keeping.build_at.Goals as goal

pub build-requires : goal.build-requires
build-requires c =
    let body = c.index_mut.result.now in
    let there = means_read maker_of c.args.bodies.now.items c.args.number body c.requires.within c.index_mut.ensures.value in
    record { ready = c.requires.ready (maker_of body) there }

pub returns-clause-grows : goal.returns-clause-grows
returns-clause-grows c m there =
    let bodies = c.args.bodies.now.items in
    let is = read_means maker_of bodies c.args.number c.index_mut.result.now m c.requires.within c.index_mut.ensures.value in
    subst (λ (x : Maker). Grows x.side.uses c.args.builder.now c.build.new.builder x.side.size) (is there)
    c.build.ensures.grows

pub returns-clause-root : goal.returns-clause-root
returns-clause-root c m there =
    let bodies = c.args.bodies.now.items in
    let is = read_means maker_of bodies c.args.number c.index_mut.result.now m c.requires.within c.index_mut.ensures.value in
    let captures = c.args.captures.now in
    let left = c.args.left.now in
    subst (λ (x : Maker). IfOk c.build.result (λ n. IsRoot c.build.new.builder captures n (x.side.term left) x.sig.gives))
    (is there) c.build.ensures.root

pub returns-clause-same : goal.returns-clause-same
returns-clause-same c =
    means_set maker_of c.args.bodies.now.items c.args.number c.build.new.self c.index_mut.result.now c.requires.within
    c.index_mut.ensures.value (rw (c.build.ensures.same_sig, c.build.ensures.same_rhs) refl)
