use Rattle.std.proofs.Common.{ap}
use Rattle.graph.specs.Standing.{GraphView}
use Rattle.script_graph.specs.Kept.{without_functions}
use Rattle.session.proofs.Observed.{as_before, as_before_sound, given_node, last_among, later_absent, observed_sound, observed_stands, observes_so, target_node}
use Rattle.session.proofs.script.Script.observe.Goals as goal

pub observe_node-requires-clause-given : goal.observe_node-requires-clause-given
observe_node-requires-clause-given g c =
    let fits = rw (← c.self.view_is) at c.requires.fits in
    given_node _ c.self.invariant c.keeps_sound.ensures.sound.nodes c.args.target fits.earlier c.at-node.result c.at-node.ensures

pub observe_node-requires-clause-absent : goal.observe_node-requires-clause-absent
observe_node-requires-clause-absent g c = later_absent _ c.self.invariant

pub invariant_of-self : goal.invariant_of-self
invariant_of-self g c =
    let fits = rw (← c.self.view_is) at c.requires.fits in
    let made = c.in-Ok-observe_node.ensures.ok in
    let node = target_node _ c.args.target c.at-node.result c.at-node.ensures in
    let bodies = ap (λ (h : GraphView _). h.functions.bodies.items) made.1.rest in
    rw bodies (observed_sound _ c.args.name.now c.args.target made.0 _ c.self.invariant (observes_so _ _ made.0 _ _ made.1 node) c.observe.new.self
    c.observe_node.new.observers.items c.in-Ok.ensures.ok made.2)

pub end-requires : goal.end-requires
end-requires g c = rw c.in-Ok.ensures.ok (last_among c.self.inside.names.observers c.args.name.now)

pub invariant_of-self-in-Err-observe_node : goal.invariant_of-self-in-Err-observe_node
invariant_of-self-in-Err-observe_node g c =
    let fits = rw (← c.self.view_is) at c.requires.fits in
    let bodies = ap (λ (h : GraphView _). h.functions.bodies.items) c.in-Err-observe_node.ensures.graph_kept in
    rw bodies (as_before_sound _ c.self.invariant c.args.name.now c.observe.new.self c.end.new.self c.observe_node.new.observers.items _ fits.fresh
    c.in-Ok.ensures.ok c.end.ensures c.in-Err-observe_node.ensures.observers_kept (ap without_functions c.in-Err-observe_node.ensures.graph_kept))

pub returns-in-Ok-observe_node-clause-observed : goal.returns-in-Ok-observe_node-clause-observed
returns-in-Ok-observe_node-clause-observed g c =
    let fits = rw (← c.self.view_is) at c.requires.fits in
    let unbroken = rw (← c.self.view_is) at c.requires.unbroken in
    let made = c.in-Ok-observe_node.ensures.ok in
    let node = target_node _ c.args.target c.at-node.result c.at-node.ensures in
    let bodies = ap (λ (h : GraphView _). h.functions.bodies.items) made.1.rest in
    rw (← c.self.view_is, bodies) (observed_stands _ c.args.name.now c.args.target made.0 _ c.self.invariant (observes_so _ _ made.0 _ _ made.1 node)
    c.observe.new.self c.observe_node.new.observers.items c.in-Ok.ensures.ok made.2 unbroken fits c.keeps_sound.ensures.sound.earlier)

pub returns-in-Err-observe_node-clause-kept : goal.returns-in-Err-observe_node-clause-kept
returns-in-Err-observe_node-clause-kept g c =
    let fits = rw (← c.self.view_is) at c.requires.fits in
    let bodies = ap (λ (h : GraphView _). h.functions.bodies.items) c.in-Err-observe_node.ensures.graph_kept in
    rw (← c.self.view_is, bodies) (as_before _ c.self.invariant c.args.name.now c.observe.new.self c.end.new.self c.observe_node.new.observers.items _
    fits.fresh c.in-Ok.ensures.ok c.end.ensures c.in-Err-observe_node.ensures.observers_kept (ap without_functions c.in-Err-observe_node.ensures.graph_kept))
