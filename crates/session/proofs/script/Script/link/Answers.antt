-- Both nodes were given, and the expert may list the one; then what is kept fits together, and stands for the moment after the command, or for the same.
use Rattle.std.proofs.Common.{◌∙◌, List, ap, arith, length, refl, subst, sym}
use Rattle.node_arena.specs.Arena.{Arena}
use Rattle.node_arena.specs.Sound.{IsSoundArena}
use Rattle.observers.specs.declared.observer.Observer.{Observer as Looking}
use Rattle.script_graph.proofs.Advancing.{stayed_stands}
use Rattle.script_graph.proofs.Linking.{full_is, link_fits, linked_stands, room_is, same_nodes_sound}
use Rattle.session.proofs.Failing.{err_from}
use Rattle.session.proofs.Linking.{if_done, if_undone, is_full, stays_linked}
use Rattle.session.proofs.Observed.{target_node}
use Rattle.session.proofs.script.Script.link.Goals as goal

pub relink-requires-clause-given : goal.relink-requires-clause-given
relink-requires-clause-given g c =
    let s = c.self.inside in
    let fits = rw (← c.self.view_is) at c.requires.fits in
    let node = target_node s.nodes.items c.args.expert c.at.result c.at.ensures in
    let other = target_node s.nodes.items c.args.target c.at-2.result c.at-2.ensures in
    rw (node, other) (link_fits s.graph s.names s.nodes.items c.keeps_sound.ensures.sound.nodes c.self.invariant.one_node_each c.self.invariant.has_nodes
    c.args.expert c.args.target fits).0

pub relink-requires-clause-listable : goal.relink-requires-clause-listable
relink-requires-clause-listable g c =
    let s = c.self.inside in
    let fits = rw (← c.self.view_is) at c.requires.fits in
    let node = target_node s.nodes.items c.args.expert c.at.result c.at.ensures in
    let other = target_node s.nodes.items c.args.target c.at-2.result c.at-2.ensures in
    rw (node, other) (link_fits s.graph s.names s.nodes.items c.keeps_sound.ensures.sound.nodes c.self.invariant.one_node_each c.self.invariant.has_nodes
    c.args.expert c.args.target fits).1

pub invariant_of-self : goal.invariant_of-self
invariant_of-self g c =
    let s = c.self.inside in
    let stays = stays_linked s.graph c.relink.new.self c.at.result c.at-2.result c.relink.result c.relink.ensures.linked c.relink.ensures.same c.relink.ensures.err in
    rw (ap (λ fs. fs.bodies.items) stays.top.functions)
    (same_nodes_sound s.graph c.relink.new.self s.names s.nodes.items s.observers.items s.room s.accepted s.broken s.graph.functions.bodies.items
    c.self.invariant stays.top stays.nodes stays.observers)

pub returns-clause-linked : goal.returns-clause-linked
returns-clause-linked g c =
    let s = c.self.inside in
    let fits = rw (← c.self.view_is) at c.requires.fits in
    let node = target_node s.nodes.items c.args.expert c.at.result c.at.ensures in
    let other = target_node s.nodes.items c.args.target c.at-2.result c.at-2.ensures in
    let stays = stays_linked s.graph c.relink.new.self c.at.result c.at-2.result c.relink.result c.relink.ensures.linked c.relink.ensures.same c.relink.ensures.err in
    rw (← c.self.view_is, ap (λ fs. fs.bodies.items) stays.top.functions)
    (if_done c.relink.result (rw (node, other) at c.relink.ensures.linked) (rw node at c.relink.ensures.room) (λ relists room m matches.
    let unbroken = matches.broken ∙ (rw (← c.self.view_is) at c.requires.unbroken) in (
      linked_stands s.graph c.relink.new.self s.names s.nodes.items s.observers.items s.room s.accepted s.broken s.graph.functions.bodies.items
          c.self.invariant c.keeps_sound.ensures.sound.nodes (g.L.Library.named s.graph.functions.library) (g.L.Library.value s.graph.functions.library) m unbroken matches
          c.args.expert c.args.target fits relists.0,
      room_is s.graph c.relink.new.self s.names s.nodes.items s.observers.items s.room s.accepted s.broken s.graph.functions.bodies.items
          c.self.invariant c.keeps_sound.ensures.sound.nodes (g.L.Library.named s.graph.functions.library) (g.L.Library.value s.graph.functions.library) m unbroken matches
          c.args.expert fits.element fits.is_expert c.args.target (λ full. omega (arith, room, full)),
    )))

pub returns-clause-full : goal.returns-clause-full
returns-clause-full g c =
    let s = c.self.inside in
    let fits = rw (← c.self.view_is) at c.requires.fits in
    let node = target_node s.nodes.items c.args.expert c.at.result c.at.ensures in
    rw (← c.self.view_is) (if_undone c.relink.result c.relink.ensures.same (rw node at c.relink.ensures.room) (λ same no_room. (
      rw same refl,
      λ m matches. full_is s.graph c.relink.new.self s.names s.nodes.items s.observers.items s.room s.accepted s.broken s.graph.functions.bodies.items
          c.self.invariant c.keeps_sound.ensures.sound.nodes (g.L.Library.named s.graph.functions.library) (g.L.Library.value s.graph.functions.library) m
          (matches.broken ∙ (rw (← c.self.view_is) at c.requires.unbroken)) matches c.args.expert fits.element fits.is_expert c.args.target
          (is_full _ 4096 no_room),
    )))

pub returns-clause-stopped : goal.returns-clause-stopped
returns-clause-stopped g c =
    let s = c.self.inside in
    let stays = stays_linked s.graph c.relink.new.self c.at.result c.at-2.result c.relink.result c.relink.ensures.linked c.relink.ensures.same c.relink.ensures.err in
    rw (← c.self.view_is, ap (λ fs. fs.bodies.items) stays.top.functions)
    (err_from c.relink.result c.relink.ensures.err (λ keeps m.
    stayed_stands s.graph c.relink.new.self s.names s.nodes.items s.observers.items s.room s.accepted s.broken s.graph.functions.bodies.items
    c.self.invariant c.keeps_sound.ensures.sound.nodes (subst IsSoundArena (sym stays.nodes) c.keeps_sound.ensures.sound.nodes) keeps
    (g.L.Library.named s.graph.functions.library) (g.L.Library.value s.graph.functions.library) m))

pub returns-clause-beside : goal.returns-clause-beside
returns-clause-beside g c =
    let s = c.self.inside in
    let stays = stays_linked s.graph c.relink.new.self c.at.result c.at-2.result c.relink.result c.relink.ensures.linked c.relink.ensures.same c.relink.ensures.err in
    rw (← c.self.view_is) (record {
      library = ap (λ fs. fs.library) stays.top.functions;
      builds = ap (λ fs. fs.builds) stays.top.functions;
      accepted = refl;
      broken = refl;
      given = let same = ap (λ (a : Arena). a.given) stays.nodes in omega (arith, same);
      bodies = let same = ap (λ fs. length fs.bodies.items) stays.top.functions in omega (arith, same);
      watching = let same = ap (λ (os : List Looking). length os) stays.observers in omega (arith, same);
    })
