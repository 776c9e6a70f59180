use Rattle.std.proofs.Common.{refl, ap, ◌∙◌}
use Rattle.graph.specs.Standing.{graph, root_in}
use Rattle.script_graph.specs.Kept.{node_in}
use Rattle.session.proofs.Grabbing.{built_of_root, is_root, unbuilt_of_none, with_root, without_root}
use Rattle.session.proofs.Observed.{target_node}
use Rattle.session.proofs.script.Script.right_side.Goals as goal

pub returns-clause-some : goal.returns-clause-some
returns-clause-some g c =
    let r = rw (← c.self.view_is) at c.requires in
    let s = c.self.inside in
    let node = target_node _ c.args.bind c.at.result c.at.ensures in
    rw (← c.self.view_is) (is_root c.in-Ok.root ((graph s.graph).built (node_in s.nodes.items c.args.bind))
    (c.in-Ok.ensures.root ∙ ap (λ n. root_in ((graph s.graph).built n)) node))

pub returns-clause-built : goal.returns-clause-built
returns-clause-built g c =
    let r = rw (← c.self.view_is) at c.requires in
    let s = c.self.inside in
    let node = target_node _ c.args.bind c.at.result c.at.ensures in
    rw (← c.self.view_is) (with_root c.in-Ok.root ((graph s.graph).built (node_in s.nodes.items c.args.bind))
    (c.in-Ok.ensures.root ∙ ap (λ n. root_in ((graph s.graph).built n)) node)
    (λ root is F m matches. built_of_root _ c.self.invariant _ _ c.args.bind r.fits.2 _ s.graph refl r.unbroken c.keeps_sound.ensures.sound F m matches root is))

pub returns-clause-none : goal.returns-clause-none
returns-clause-none g c =
    let r = rw (← c.self.view_is) at c.requires in
    let s = c.self.inside in
    let node = target_node _ c.args.bind c.at.result c.at.ensures in
    rw (← c.self.view_is) (without_root c.in-Ok.root ((graph s.graph).built (node_in s.nodes.items c.args.bind))
    (c.in-Ok.ensures.root ∙ ap (λ n. root_in ((graph s.graph).built n)) node)
    (λ none F m matches. unbuilt_of_none _ c.self.invariant _ _ c.args.bind r.fits.2 _ s.graph refl r.unbroken c.keeps_sound.ensures.sound F m matches none))
