-- The node of what is assigned is a variable that takes the value; then what is kept fits together and stands for the moment after the assignment.
use Rattle.std.proofs.Common.{subst, ap, sym, ◌∙◌}
use Rattle.formula_lang.specs.CommandView.{constant_view}
use Rattle.inc_value.specs.declared.node.NodeId.{NodeId}
use Rattle.graph.specs.Effects.{Sets}
use Rattle.node_arena.specs.Arena.{IsVariable}
use Rattle.script_graph.proofs.Declared.{set_sound, set_stands}
use Rattle.session.proofs.Observed.{target_node}
use Rattle.session.proofs.Assigned.{node_takes, refers_within, value_is}
use Rattle.session.proofs.script.Script.set.Goals as goal

pub value_of-requires : goal.value_of-requires
value_of-requires g c =
    let fits = rw (← c.self.view_is) at c.requires.fits in
    record { names = rw c.as_slice.ensures (refers_within _ c.self.invariant c.args.target _ fits) }

pub assign-requires-clause-variable : goal.assign-requires-clause-variable
assign-requires-clause-variable g c =
    let fits = rw (← c.self.view_is) at c.requires.fits in
    let value = rw c.as_slice.ensures at c.in-Ok.ensures.value in
    (node_takes _ c.self.invariant c.args.target _ fits c.keeps_sound.ensures.sound.nodes _ value c.at.result c.at.ensures).variable

pub assign-requires-clause-given : goal.assign-requires-clause-given
assign-requires-clause-given g c =
    let fits = rw (← c.self.view_is) at c.requires.fits in
    let value = rw c.as_slice.ensures at c.in-Ok.ensures.value in
    (node_takes _ c.self.invariant c.args.target _ fits c.keeps_sound.ensures.sound.nodes _ value c.at.result c.at.ensures).given

pub assign-requires-clause-within : goal.assign-requires-clause-within
assign-requires-clause-within g c =
    let fits = rw (← c.self.view_is) at c.requires.fits in
    let value = rw c.as_slice.ensures at c.in-Ok.ensures.value in
    (node_takes _ c.self.invariant c.args.target _ fits c.keeps_sound.ensures.sound.nodes _ value c.at.result c.at.ensures).within

pub assign-requires-clause-fits : goal.assign-requires-clause-fits
assign-requires-clause-fits g c =
    let fits = rw (← c.self.view_is) at c.requires.fits in
    let value = rw c.as_slice.ensures at c.in-Ok.ensures.value in
    (node_takes _ c.self.invariant c.args.target _ fits c.keeps_sound.ensures.sound.nodes _ value c.at.result c.at.ensures).fits

pub invariant_of-self : goal.invariant_of-self
invariant_of-self g c =
    let s = c.self.inside in
    let fits = rw (← c.self.view_is) at c.requires.fits in
    let node = target_node _ c.args.target c.at.result c.at.ensures in
    let sets = subst (λ (n : NodeId). Sets s.graph c.assign.new.self n c.in-Ok.value) node c.assign.ensures in
    let value = rw c.as_slice.ensures at c.in-Ok.ensures.value in
    let takes = node_takes _ c.self.invariant c.args.target _ fits c.keeps_sound.ensures.sound.nodes _ value c.at.result c.at.ensures in
    rw (ap (λ fs. fs.bodies.items) c.assign.ensures.beside.top.functions)
    (set_sound s.graph c.assign.new.self s.names s.nodes.items s.observers.items s.room s.accepted s.broken s.graph.functions.bodies.items
    s.graph.functions.bodies.items c.self.invariant c.keeps_sound.ensures.sound.nodes c.keeps_sound-in-Ok.ensures.sound.nodes c.args.target c.in-Ok.value sets
    (subst (λ (n : NodeId). IsVariable s.graph.nodes n) node takes.variable))

pub returns-in-Ok-clause-set : goal.returns-in-Ok-clause-set
returns-in-Ok-clause-set g c =
    let s = c.self.inside in
    let fits = rw (← c.self.view_is) at c.requires.fits in
    let value = rw c.as_slice.ensures at c.in-Ok.ensures.value in
    let node = target_node _ c.args.target c.at.result c.at.ensures in
    let sets = subst (λ (n : NodeId). Sets s.graph c.assign.new.self n c.in-Ok.value) node c.assign.ensures in
    rw (← c.self.view_is, ap (λ fs. fs.bodies.items) c.assign.ensures.beside.top.functions)
    (λ m. set_stands s.graph c.assign.new.self s.names s.nodes.items s.observers.items s.room s.accepted s.broken s.graph.functions.bodies.items
    s.graph.functions.bodies.items c.self.invariant c.keeps_sound.ensures.sound.nodes c.keeps_sound-in-Ok.ensures.sound.nodes c.args.target c.in-Ok.value sets
    (constant_view c.args.value.now) fits
    (g.L.Library.named s.graph.functions.library) (g.L.Library.value s.graph.functions.library) m
    (value_is _ c.self.invariant c.args.target _ fits ∙ sym value))
