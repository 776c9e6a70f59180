use Rattle.std.proofs.Common.{ap, arith}
use Rattle.std.specs.Prelude.{is_some}
use Rattle.graph.proofs.Observing.{front_is_among}
use Rattle.graph.proofs.Seeing.{needed_in}
use Rattle.graph.proofs.graph.Graph.mark.Goals as goal

pub returns-clause-observed : goal.returns-clause-observed
returns-clause-observed g c n among =
    let whole = rw (← c.self.view_is) at c.in_ok-check.ensures.unbroken in
    let can = c.self.invariant.0.unbroken whole in
    rw (c.given.ensures, c.arena.ensures) (can.given n (rw (← c.self.view_is) at among))

pub returns-clause-rooted : goal.returns-clause-rooted
returns-clause-rooted g c n among =
    let whole = rw (← c.self.view_is) at c.in_ok-check.ensures.unbroken in
    let can = c.self.invariant.0.unbroken whole in
    let front = front_is_among c.self.inside.observers.made c.self.inside.rooted n (rw (← c.self.view_is) at among) in
    rw (c.given.ensures, c.arena.ensures) (can.given n front)

pub returns-clause-needed : goal.returns-clause-needed
returns-clause-needed g c p need =
    let whole = rw (← c.self.view_is) at c.in_ok-check.ensures.unbroken in
    let kept = (c.self.invariant.0.unbroken whole).ready.kept.work in
    rw (c.given.ensures, c.arena.ensures) (kept.given p (kept.step.there p (needed_in c.self.inside.functions c.self.inside.parts
    c.self.inside.observers c.self.inside.rooted c.self.inside.since c.self.inside.refused p (rw (← c.self.view_is) at need))))

pub returns-clause-unscoped : goal.returns-clause-unscoped
returns-clause-unscoped g c n r row since =
    let given = c.self.invariant.0.kept.work.sound.given n (ap is_some (rw (← c.self.view_is) at row)) in
    let late = rw (c.given.ensures, c.arena.ensures) at since in
    absurd (omega (arith, given, late))
