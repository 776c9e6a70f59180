use Rattle.std.proofs.Common.{ap, arith}
use Rattle.formula_lang.specs.CommandView.{body_view}
use Rattle.formula_elab.proofs.FewBodies.{few_bodies}
use Rattle.formula_elab.specs.Types.{type_at}
use Rattle.formula_elab.specs.Opened.{node_at}
use Rattle.script_graph.proofs.Declared.{names_there, names_typed, names_within}
use Rattle.script_graph.proofs.Laying.{body_laid_out, laid_fits}
use Rattle.formula_elab.specs.Functions.{bodies_in}
use Rattle.session.proofs.Making.{functions_within, typed_as_targets}
use Rattle.session.proofs.script.declaring.make_declared.Goals as goal

pub elaborate-requires : goal.elaborate-requires
elaborate-requires g c =
    let room = c.requires.room in
    record {
      one_each = c.requires.one_each;
      names = names_within _ c.args.names.now c.args.nodes.now c.requires.one_each (body_view c.args.body.now) c.requires.fits.0 c.requires.fits.1;
      fits = (_, c.requires.fits.0, c.requires.fits.1);
      targets = typed_as_targets c.args.graph.now.nodes c.args.names.now c.args.nodes.now c.requires.has_nodes;
      few = omega (arith, room);
      few_binds = c.requires.binds;
    }

pub make_all-made-requires : goal.make_all-made-requires
make_all-made-requires g c =
    let e = c.in-Ok.ensures in
    let laid = laid_fits _ c.args.graph.now.nodes (node_at c.args.nodes.now) (type_at c.args.names.now) c.args.names.now
    (names_there c.args.graph.now.nodes c.keeps_sound.ensures.sound.nodes c.args.names.now c.args.nodes.now c.requires.one_each c.requires.has_nodes)
    (names_typed c.args.graph.now.nodes c.args.names.now c.args.nodes.now c.requires.has_nodes) c.requires.clock
    (body_view c.args.body.now) c.requires.fits.0 c.requires.fits.1 in
    let bodies = few_bodies (node_at c.args.nodes.now) (type_at c.args.names.now) (body_view c.args.body.now)
    (body_laid_out _ c.args.names.now (body_view c.args.body.now) c.requires.fits.0 c.requires.fits.1) in
    let binds = c.requires.binds in
    let kept = c.requires.bodies in
    record {
      unbroken = c.requires.unbroken;
      begins = e.made;
      waits = e.waits;
      order = e.order;
      fit = rw e.makes laid.0;
      bodies = rw e.makes (omega (arith, bodies, binds, kept));
      room = omega (arith, e.places, c.requires.room);
      ids = omega (arith, e.places, c.requires.room, c.requires.ids);
    }

pub returns-in-Ok-clause-functions : goal.returns-in-Ok-clause-functions
returns-in-Ok-clause-functions g c =
    let makes = c.in-Ok.plan.makes in
    let few = few_bodies (node_at c.args.nodes.now) (type_at c.args.names.now) (body_view c.args.body.now)
    (body_laid_out _ c.args.names.now (body_view c.args.body.now) c.requires.fits.0 c.requires.fits.1) in
    let same = ap bodies_in c.in-Ok.ensures.makes in
    let binds = c.requires.binds in
    functions_within _ _ _ _ _ _ (bodies_in makes) 64 (omega (arith, few, same, binds)) c.make_all-made.ensures.functions
