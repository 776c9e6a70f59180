-- The node was given, and is an expert; then what is kept fits together, and stands for the moment after the command.
use Rattle.std.proofs.Common.{◌∙◌, List, ap, arith, length, refl}
use Rattle.node_arena.specs.Arena.{Arena}
use Rattle.observers.specs.declared.observer.Observer.{Observer as Looking}
use Rattle.script_graph.proofs.Linking.{same_nodes_sound, stale_fits, stale_stands}
use Rattle.session.proofs.Linking.{stays_stale}
use Rattle.session.proofs.Observed.{target_node}
use Rattle.session.proofs.script.Script.make_stale.Goals as goal

pub renew-requires-clause-given : goal.renew-requires-clause-given
renew-requires-clause-given g c =
    let s = c.self.inside in
    let fits = rw (← c.self.view_is) at c.requires.fits in
    let node = target_node s.nodes.items c.args.expert c.at.result c.at.ensures in
    rw node (stale_fits s.graph s.names s.nodes.items c.keeps_sound.ensures.sound.nodes c.self.invariant.one_node_each c.self.invariant.has_nodes
    c.args.expert fits.0 fits.1).0

pub renew-requires-clause-is_expert : goal.renew-requires-clause-is_expert
renew-requires-clause-is_expert g c =
    let s = c.self.inside in
    let fits = rw (← c.self.view_is) at c.requires.fits in
    let node = target_node s.nodes.items c.args.expert c.at.result c.at.ensures in
    rw node (stale_fits s.graph s.names s.nodes.items c.keeps_sound.ensures.sound.nodes c.self.invariant.one_node_each c.self.invariant.has_nodes
    c.args.expert fits.0 fits.1).1

pub invariant_of-self : goal.invariant_of-self
invariant_of-self g c =
    let s = c.self.inside in
    let stays = stays_stale s.graph c.renew.new.self c.at.result c.at.result c.renew.ensures in
    rw (ap (λ fs. fs.bodies.items) stays.top.functions)
    (same_nodes_sound s.graph c.renew.new.self s.names s.nodes.items s.observers.items s.room s.accepted s.broken s.graph.functions.bodies.items
    c.self.invariant stays.top stays.nodes stays.observers)

pub returns-clause-stale : goal.returns-clause-stale
returns-clause-stale g c =
    let s = c.self.inside in
    let fits = rw (← c.self.view_is) at c.requires.fits in
    let node = target_node s.nodes.items c.args.expert c.at.result c.at.ensures in
    let stays = stays_stale s.graph c.renew.new.self c.at.result c.at.result c.renew.ensures in
    rw (← c.self.view_is, ap (λ fs. fs.bodies.items) stays.top.functions)
    (λ m matches. stale_stands s.graph c.renew.new.self s.names s.nodes.items s.observers.items s.room s.accepted s.broken s.graph.functions.bodies.items
    c.self.invariant c.keeps_sound.ensures.sound.nodes (g.L.Library.named s.graph.functions.library) (g.L.Library.value s.graph.functions.library) m
    (matches.broken ∙ (rw (← c.self.view_is) at c.requires.unbroken)) matches
    c.args.expert fits.0 fits.1 (rw node at c.renew.ensures))

pub returns-clause-beside : goal.returns-clause-beside
returns-clause-beside g c =
    let s = c.self.inside in
    let stays = stays_stale s.graph c.renew.new.self c.at.result c.at.result c.renew.ensures in
    rw (← c.self.view_is) (record {
      library = ap (λ fs. fs.library) stays.top.functions;
      builds = ap (λ fs. fs.builds) stays.top.functions;
      accepted = refl;
      broken = refl;
      given = let same = ap (λ (a : Arena). a.given) stays.nodes in omega (arith, same);
      bodies = let same = ap (λ fs. length fs.bodies.items) stays.top.functions in omega (arith, same);
      watching = let same = ap (λ (os : List Looking). length os) stays.observers in omega (arith, same);
    })
