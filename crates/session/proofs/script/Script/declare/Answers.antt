-- With the nodes made for it a declaration is stood for; without memory they are taken back, and what is kept stands for what it stood for.
use Rattle.std.proofs.Common.{List, ap, ◌∙◌, arith, subst, sym}
use Rattle.formula_lang.specs.CommandView.{body_view}
use Rattle.graph.proofs.TakingBack.{below_still}
use Rattle.node_arena.specs.RightSideLaws.{ids_of}
use Rattle.script_functions.specs.Bodies.{Body}
use Rattle.script_functions.specs.Keeping.{KeepsBodies, makers, side_in}
use Rattle.script_functions.specs.KeepingLaws.{sides_hold}
use Rattle.graph.specs.Standing.{GraphView, IsNeeded, without_functions}
use Rattle.inc_value.specs.declared.node.Point.{Point}
use Rattle.formula_elab.specs.Laying.{laid_body}
use Rattle.formula_elab.specs.Opened.{node_at}
use Rattle.formula_elab.specs.Types.{type_at}
use Rattle.session.specs.Making.{AreMade}
use Rattle.script_graph.proofs.Bodies.{AreKnown}
use Rattle.script_graph.proofs.Declared.{back_extends, back_live, declared_sound, declared_stands, returned_sound, returned_stands}
use Rattle.script_graph.proofs.Extending.{unscoped_on}
use Rattle.session.proofs.Room.{lives_few}
use Rattle.session.proofs.script.Script.declare.Goals as goal

-- functions have no part in need
needed_without : {F : Type 0} (s : GraphView F) (p : Point) → IsNeeded s p → IsNeeded (without_functions s) p
needed_without s p need = record { root = need.root; is_root = need.is_root; leads = need.leads }

needed_with : {F : Type 0} (s : GraphView F) (p : Point) → IsNeeded (without_functions s) p → IsNeeded s p
needed_with s p need = record { root = need.root; is_root = need.is_root; leads = need.leads }

pub add_declared-declared-requires-clause-room : goal.add_declared-declared-requires-clause-room
add_declared-declared-requires-clause-room g c =
    let r = rw (← c.self.view_is) at c.requires in
    let lives = lives_few _ _ _ c.self.invariant.few c.keeps_sound.ensures.few in
    let room = r.room in
    omega (arith, lives, room)

pub take_back-requires-clause-unneeded : goal.take_back-requires-clause-unneeded
take_back-requires-clause-unneeded g c =
    let old = c.self.inside.graph in
    let new = c.add_declared-declared.new.graph in
    let older = below_still (without_functions old) (without_functions new) c.in-Err.ensures.kept.beside c.current_mark-mark.result.given
    (λ p need. c.current_mark-mark.ensures.needed p (needed_with old p need)) in
    λ p need. older p (needed_without new p need)

pub take_back-requires-clause-unscoped : goal.take_back-requires-clause-unscoped
take_back-requires-clause-unscoped g c = unscoped_on _ _ _ c.in-Err.ensures.kept c.current_mark-mark.ensures.unscoped

pub invariant_of-self : goal.invariant_of-self
invariant_of-self g c =
    let s = c.self.inside in
    let new = c.add_declared-declared.new.graph in
    let lib = s.graph.functions.library in
    let bodies = s.graph.functions.bodies.items in
    let r = rw (← c.self.view_is) at c.requires in
    let are : AreKnown (g.L.Library.known lib) bodies s.graph = record {
      holds = sides_hold _ _ c.keeps_sound.ensures.functions;
      ids = ids_of (side_in (makers bodies));
      fit = (c.keeps_sound.ensures.sound.whole (c.self.invariant.unbroken r.unbroken)).fit;
    } in
    let f = c.add_declared-declared.ensures.functions in
    let made = c.in-Ok.ensures.made in
    let plan = laid_body (node_at s.nodes.items) (type_at s.names) 0 (body_view c.args.body.now) in
    let so = subst (λ (l : g.row.L.Denot). AreMade (g.L.Library.known l) (g.L.Library.value l) new.functions.bodies.items s.graph new plan.makes made.0)
    f.library made.1 in
    rw (c.in-Ok.ensures.names, made.2) (declared_sound s.graph new s.names s.nodes.items s.observers.items s.room s.accepted s.broken bodies
    new.functions.bodies.items c.self.invariant c.keeps_sound.ensures.sound.nodes c.keeps_sound-in-Ok.ensures.sound.nodes (g.L.Library.known lib) are 64 f.bodies
    c.args.name.now c.args.ty (body_view c.args.body.now) r.fits made.0 c.args.room r.room (g.L.Library.named lib) (g.L.Library.value lib)
    so.so_far.making so.whole _ so.so_far.served)

pub invariant_of-self-in-Err : goal.invariant_of-self-in-Err
invariant_of-self-in-Err g c =
    let s = c.self.inside in
    let full = c.add_declared-declared.new.graph in
    let now = c.take_back.new.self in
    let lib = s.graph.functions.library in
    let bodies = s.graph.functions.bodies.items in
    let r = rw (← c.self.view_is) at c.requires in
    let are : AreKnown (g.L.Library.known lib) bodies s.graph = record {
      holds = sides_hold _ _ c.keeps_sound.ensures.functions;
      ids = ids_of (side_in (makers bodies));
      fit = (c.keeps_sound.ensures.sound.whole (c.self.invariant.unbroken r.unbroken)).fit;
    } in
    let kept = c.in-Err.ensures.kept in
    let count = c.current_mark-mark.result.given in
    let since = c.current_mark-mark.ensures.mark in
    let back = ap (λ fs. fs.bodies.items) c.take_back.ensures.beside.top.functions in
    let keeps = subst (λ (bs : List Body). KeepsBodies bodies bs 64) (sym back) c.add_declared-declared.ensures.functions.bodies in
    rw (c.in-Err.ensures.names_kept, c.in-Err.ensures.nodes_kept) (returned_sound s.graph now s.names s.nodes.items s.observers.items s.room
    s.accepted s.broken bodies now.functions.bodies.items c.self.invariant c.keeps_sound.ensures.sound.nodes c.keeps_sound-in-Err.ensures.sound.nodes
    (g.L.Library.known lib) are 64 keeps (back_extends s.graph full now count kept c.take_back.ensures since)
    (back_live s.graph full now count kept c.take_back.ensures since))

pub returns-in-Ok-clause-declared : goal.returns-in-Ok-clause-declared
returns-in-Ok-clause-declared g c =
    let s = c.self.inside in
    let new = c.add_declared-declared.new.graph in
    let lib = s.graph.functions.library in
    let bodies = s.graph.functions.bodies.items in
    let r = rw (← c.self.view_is) at c.requires in
    let are : AreKnown (g.L.Library.known lib) bodies s.graph = record {
      holds = sides_hold _ _ c.keeps_sound.ensures.functions;
      ids = ids_of (side_in (makers bodies));
      fit = (c.keeps_sound.ensures.sound.whole (c.self.invariant.unbroken r.unbroken)).fit;
    } in
    let f = c.add_declared-declared.ensures.functions in
    let made = c.in-Ok.ensures.made in
    let plan = laid_body (node_at s.nodes.items) (type_at s.names) 0 (body_view c.args.body.now) in
    let so = subst (λ (l : g.row.L.Denot). AreMade (g.L.Library.known l) (g.L.Library.value l) new.functions.bodies.items s.graph new plan.makes made.0)
    f.library made.1 in
    rw (← c.self.view_is, c.in-Ok.ensures.names, made.2) (λ m matches. declared_stands s.graph new s.names s.nodes.items s.observers.items s.room s.accepted
    s.broken bodies new.functions.bodies.items c.self.invariant c.keeps_sound.ensures.sound.nodes c.keeps_sound-in-Ok.ensures.sound.nodes
    (g.L.Library.known lib) are 64 f.bodies c.args.name.now c.args.ty (body_view c.args.body.now) r.fits made.0 c.args.room r.room
    (g.L.Library.named lib) (g.L.Library.value lib) so.so_far.making so.whole m (matches.broken ∙ r.unbroken) matches)

pub returns-in-Err-clause-kept : goal.returns-in-Err-clause-kept
returns-in-Err-clause-kept g c =
    let s = c.self.inside in
    let full = c.add_declared-declared.new.graph in
    let now = c.take_back.new.self in
    let lib = s.graph.functions.library in
    let bodies = s.graph.functions.bodies.items in
    let r = rw (← c.self.view_is) at c.requires in
    let are : AreKnown (g.L.Library.known lib) bodies s.graph = record {
      holds = sides_hold _ _ c.keeps_sound.ensures.functions;
      ids = ids_of (side_in (makers bodies));
      fit = (c.keeps_sound.ensures.sound.whole (c.self.invariant.unbroken r.unbroken)).fit;
    } in
    let kept = c.in-Err.ensures.kept in
    let count = c.current_mark-mark.result.given in
    let since = c.current_mark-mark.ensures.mark in
    let back = ap (λ fs. fs.bodies.items) c.take_back.ensures.beside.top.functions in
    let keeps = subst (λ (bs : List Body). KeepsBodies bodies bs 64) (sym back) c.add_declared-declared.ensures.functions.bodies in
    rw (← c.self.view_is, c.in-Err.ensures.names_kept, c.in-Err.ensures.nodes_kept) (returned_stands s.graph now s.names s.nodes.items
    s.observers.items s.room s.accepted s.broken bodies now.functions.bodies.items c.self.invariant c.keeps_sound.ensures.sound.nodes
    c.keeps_sound-in-Err.ensures.sound.nodes (g.L.Library.known lib) are 64 keeps (back_extends s.graph full now count kept c.take_back.ensures since)
    (back_live s.graph full now count kept c.take_back.ensures since) (g.L.Library.named lib) (g.L.Library.value lib))
