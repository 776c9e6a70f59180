use Rattle.std.proofs.Common.{refl, ◌∙◌}
use Rattle.session.proofs.Grabbing.{grabbed_sound, grabbed_stands, root_fits}
use Rattle.session.proofs.OwnNodes.{have_targets}
use Rattle.session.proofs.script.Script.grab.Goals as goal

pub grabbed_as-kind-requires-clause-targets : goal.grabbed_as-kind-requires-clause-targets
grabbed_as-kind-requires-clause-targets g c = have_targets _ c.self.invariant

pub invariant_of-self-in-Ok : goal.invariant_of-self-in-Ok
invariant_of-self-in-Ok g c =
    let r = rw (← c.self.view_is) at c.requires in
    let k = c.self.inside in
    let fits = root_fits _ c.self.invariant c.args.name.now c.args.ty r.right_side.0 r.right_side.1 _ k.graph refl c.keeps_sound.ensures.sound c.args.root r.right_side.2 in
    rw (c.in-Ok.ensures.ok, c.push.ensures.items, c.in_ok-reserve.ensures.items)
    (grabbed_sound _ c.args.ty c.args.root c.args.name.now _ _ c.grabbed_as-kind.ensures c.self.invariant c.keeps_sound.ensures.sound.nodes fits)

pub returns-in-Ok-clause-grabbed : goal.returns-in-Ok-clause-grabbed
returns-in-Ok-clause-grabbed g c =
    let r = rw (← c.self.view_is) at c.requires in
    let l = c.self.inside.graph.functions.library in
    let sound = c.keeps_sound.ensures.sound in
    rw (← c.self.view_is, c.in-Ok.ensures.ok, c.push.ensures.items, c.in_ok-reserve.ensures.items)
    (λ bind fits right m stands. grabbed_stands _ c.args.ty c.args.root c.args.name.now _ _ c.grabbed_as-kind.ensures (g.L.Library.named l) (g.L.Library.value l)
    c.self.invariant sound.nodes sound.built bind fits right m stands (stands.matches.broken ∙ r.unbroken))
