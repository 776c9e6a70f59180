-- Both nodes were given, and the one is an expert; then what is kept fits together, and stands for the moment after the command, or for the same.
use Rattle.std.proofs.Common.{◌≡◌, ◌∙◌, true, false, List, ap, arith, length, refl, sym}
use Rattle.node_arena.specs.Arena.{Arena}
use Rattle.observers.specs.declared.observer.Observer.{Observer as Looking}
use Rattle.script_graph.proofs.Linking.{is_linked, isnt_linked, same_nodes_sound, unlink_fits, unlinked_stands}
use Rattle.session.proofs.Linking.{stays_unlinked}
use Rattle.session.proofs.Observed.{target_node}
use Rattle.session.proofs.script.Script.unlink.Goals as goal

pub take_off-requires-clause-given : goal.take_off-requires-clause-given
take_off-requires-clause-given g c =
    let s = c.self.inside in
    let fits = rw (← c.self.view_is) at c.requires.fits in
    let node = target_node s.nodes.items c.args.expert c.at.result c.at.ensures in
    let other = target_node s.nodes.items c.args.target c.at-2.result c.at-2.ensures in
    rw (node, other) (unlink_fits s.graph s.names s.nodes.items c.keeps_sound.ensures.sound.nodes c.self.invariant.one_node_each c.self.invariant.has_nodes
    c.args.expert c.args.target fits).0

pub take_off-requires-clause-is_expert : goal.take_off-requires-clause-is_expert
take_off-requires-clause-is_expert g c =
    let s = c.self.inside in
    let fits = rw (← c.self.view_is) at c.requires.fits in
    let node = target_node s.nodes.items c.args.expert c.at.result c.at.ensures in
    let other = target_node s.nodes.items c.args.target c.at-2.result c.at-2.ensures in
    rw node (unlink_fits s.graph s.names s.nodes.items c.keeps_sound.ensures.sound.nodes c.self.invariant.one_node_each c.self.invariant.has_nodes
    c.args.expert c.args.target fits).1

pub invariant_of-self : goal.invariant_of-self
invariant_of-self g c =
    let s = c.self.inside in
    let stays = stays_unlinked s.graph c.take_off.new.self c.at.result c.at-2.result c.take_off.result c.take_off.ensures.unlinked c.take_off.ensures.same in
    rw (ap (λ fs. fs.bodies.items) stays.top.functions)
    (same_nodes_sound s.graph c.take_off.new.self s.names s.nodes.items s.observers.items s.room s.accepted s.broken s.graph.functions.bodies.items
    c.self.invariant stays.top stays.nodes stays.observers)

pub returns-clause-unlinked : goal.returns-clause-unlinked
returns-clause-unlinked g c =
    let s = c.self.inside in
    let fits = rw (← c.self.view_is) at c.requires.fits in
    let node = target_node s.nodes.items c.args.expert c.at.result c.at.ensures in
    let other = target_node s.nodes.items c.args.target c.at-2.result c.at-2.ensures in
    let stays = stays_unlinked s.graph c.take_off.new.self c.at.result c.at-2.result c.take_off.result c.take_off.ensures.unlinked c.take_off.ensures.same in
    rw (← c.self.view_is, ap (λ fs. fs.bodies.items) stays.top.functions)
    (λ done m matches.
    let unbroken = matches.broken ∙ (rw (← c.self.view_is) at c.requires.unbroken) in (
      unlinked_stands s.graph c.take_off.new.self s.names s.nodes.items s.observers.items s.room s.accepted s.broken s.graph.functions.bodies.items
          c.self.invariant c.keeps_sound.ensures.sound.nodes (g.L.Library.named s.graph.functions.library) (g.L.Library.value s.graph.functions.library) m unbroken matches
          c.args.expert c.args.target fits ((rw (node, other) at c.take_off.ensures.unlinked) done),
      is_linked s.graph c.take_off.new.self s.names s.nodes.items s.observers.items s.room s.accepted s.broken s.graph.functions.bodies.items
          c.self.invariant c.keeps_sound.ensures.sound.nodes (g.L.Library.named s.graph.functions.library) (g.L.Library.value s.graph.functions.library) m unbroken matches
          c.args.expert c.args.target fits ((rw (node, other) at c.take_off.ensures.there).0 done),
    ))

pub returns-clause-absent : goal.returns-clause-absent
returns-clause-absent g c =
    let s = c.self.inside in
    let fits = rw (← c.self.view_is) at c.requires.fits in
    let node = target_node s.nodes.items c.args.expert c.at.result c.at.ensures in
    let other = target_node s.nodes.items c.args.target c.at-2.result c.at-2.ensures in
    rw (← c.self.view_is) (λ undone. (
      rw (c.take_off.ensures.same undone) refl,
      λ m matches. isnt_linked s.graph c.take_off.new.self s.names s.nodes.items s.observers.items s.room s.accepted s.broken s.graph.functions.bodies.items
          c.self.invariant c.keeps_sound.ensures.sound.nodes (g.L.Library.named s.graph.functions.library) (g.L.Library.value s.graph.functions.library) m
          (matches.broken ∙ (rw (← c.self.view_is) at c.requires.unbroken)) matches c.args.expert c.args.target fits
          (λ among. let clash : false ≡ true = sym undone ∙ (rw (node, other) at c.take_off.ensures.there).1 among in cc),
    ))

pub returns-clause-beside : goal.returns-clause-beside
returns-clause-beside g c =
    let s = c.self.inside in
    let stays = stays_unlinked s.graph c.take_off.new.self c.at.result c.at-2.result c.take_off.result c.take_off.ensures.unlinked c.take_off.ensures.same in
    rw (← c.self.view_is) (record {
      library = ap (λ fs. fs.library) stays.top.functions;
      builds = ap (λ fs. fs.builds) stays.top.functions;
      accepted = refl;
      broken = refl;
      given = let same = ap (λ (a : Arena). a.given) stays.nodes in omega (arith, same);
      bodies = let same = ap (λ fs. length fs.bodies.items) stays.top.functions in omega (arith, same);
      watching = let same = ap (λ (os : List Looking). length os) stays.observers in omega (arith, same);
    })
