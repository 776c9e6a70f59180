-- The time that fits is no earlier than the graph's; then what is kept fits together at it, and stands for the moment after the clock was moved on.
use Rattle.std.proofs.Common.{◌≡◌, ◌∙◌, ◌<◌, ℤ, pos, ap, subst, arith, to_z, of_z, w64}
use Rattle.std.specs.Prelude.{nat_abs}
use Rattle.std.proofs.lemmas.Int.{ints}
use Rattle.graph.specs.Clock.{MovesTo}
use Rattle.script_graph.proofs.Advancing.{advanced_sound, advanced_stands, stayed_sound, stayed_stands}
use Rattle.session.proofs.script.Script.advance.Goals as goal

pub move_time-requires-clause-later : goal.move_time-requires-clause-later
move_time-requires-clause-later g c =
    let fits = rw (← c.self.view_is) at c.requires.fits in
    let at = c.time-to.ensures ∙ ap pos c.new.ensures in
    let clock = c.self.invariant.clock in
    let low = fits.0 in
    omega (arith, ints, clock, low, at)

pub set_now-requires : goal.set_now-requires
set_now-requires g c = let at = c.time-to.ensures ∙ ap pos c.new.ensures in omega (arith, ints, at)

pub invariant_of-self : goal.invariant_of-self
invariant_of-self g c =
    let s = c.self.inside in
    let fits = rw (← c.self.view_is) at c.requires.fits in
    let low : c.args.time < 9223372036854775808 = fits.1 in
    let at : c.time-to.result ≡ pos c.args.time = c.time-to.ensures ∙ ap pos c.new.ensures in
    let same : to_z w64 (of_z w64 c.time-to.result) ≡ pos c.args.time = omega (arith, ints, at, low) in
    let moves = subst (λ (t : ℤ). MovesTo s.graph c.move_time.new.graph t) same c.in-Ok.ensures.moved in
    let names = c.set_now.ensures ∙ ap (λ (t : ℤ). record s.names { now = nat_abs t }) same in
    rw (ap (λ fs. fs.bodies.items) moves.beside.top.functions)
    (advanced_sound s.graph c.move_time.new.graph s.names s.nodes.items s.observers.items s.room s.accepted s.broken s.graph.functions.bodies.items
    c.self.invariant c.keeps_sound.ensures.sound.nodes c.keeps_sound-in-Ok.ensures.sound.nodes c.args.time moves c.set_now.new.self names)

pub invariant_of-self-in-Err : goal.invariant_of-self-in-Err
invariant_of-self-in-Err g c =
    let s = c.self.inside in
    let keeps = c.in-Err.ensures.kept in
    rw (ap (λ fs. fs.bodies.items) keeps.beside.top.functions)
    (stayed_sound s.graph c.move_time.new.graph s.names s.nodes.items s.observers.items s.room s.accepted s.broken s.graph.functions.bodies.items
    c.self.invariant c.keeps_sound.ensures.sound.nodes c.keeps_sound-in-Err.ensures.sound.nodes keeps)

pub returns-in-Ok-clause-moved : goal.returns-in-Ok-clause-moved
returns-in-Ok-clause-moved g c =
    let s = c.self.inside in
    let fits = rw (← c.self.view_is) at c.requires.fits in
    let low : c.args.time < 9223372036854775808 = fits.1 in
    let at : c.time-to.result ≡ pos c.args.time = c.time-to.ensures ∙ ap pos c.new.ensures in
    let same : to_z w64 (of_z w64 c.time-to.result) ≡ pos c.args.time = omega (arith, ints, at, low) in
    let moves = subst (λ (t : ℤ). MovesTo s.graph c.move_time.new.graph t) same c.in-Ok.ensures.moved in
    let names = c.set_now.ensures ∙ ap (λ (t : ℤ). record s.names { now = nat_abs t }) same in
    rw (← c.self.view_is, ap (λ fs. fs.bodies.items) moves.beside.top.functions)
    (advanced_stands s.graph c.move_time.new.graph s.names s.nodes.items s.observers.items s.room s.accepted s.broken s.graph.functions.bodies.items
    c.self.invariant c.keeps_sound.ensures.sound.nodes c.keeps_sound-in-Ok.ensures.sound.nodes c.args.time moves c.set_now.new.self names
    (g.L.Library.named s.graph.functions.library) (g.L.Library.value s.graph.functions.library))

pub returns-in-Err-clause-kept : goal.returns-in-Err-clause-kept
returns-in-Err-clause-kept g c =
    let s = c.self.inside in
    let keeps = c.in-Err.ensures.kept in
    rw (← c.self.view_is, ap (λ fs. fs.bodies.items) keeps.beside.top.functions)
    (stayed_stands s.graph c.move_time.new.graph s.names s.nodes.items s.observers.items s.room s.accepted s.broken s.graph.functions.bodies.items
    c.self.invariant c.keeps_sound.ensures.sound.nodes c.keeps_sound-in-Err.ensures.sound.nodes keeps
    (g.L.Library.named s.graph.functions.library) (g.L.Library.value s.graph.functions.library))
