use Rattle.std.proofs.Common.{◌∙◌, sym, ap, subst, refl, arith, inl}
use Rattle.timing_wheel.specs.Timers.{by_deadline, first_due}
use Rattle.timing_wheel.specs.Levels.{NoneBelow}
use Rattle.timing_wheel.proofs.Turning.{next_start, queue_empty}
use Rattle.timing_wheel.proofs.levels.Levels.next_due.Goals as goal

pub returns-then-slot-width : goal.returns-then-slot-width
returns-then-slot-width c =
    let v = c.self.inside.lists in
    let below = subst (λ n. NoneBelow v n) (c.if-slot-width.true ∙ c.width.ensures) c.first_filled-slot.ensures.below in
    sym (ap (λ xs. first_due (by_deadline xs)) (queue_empty v below)) ∙ ap (λ w. first_due w.timers) c.self.view_is

pub returns : goal.returns
returns c =
    let v = c.self.inside.lists in
    let f = c.earliest.ensures.found in
    let i = c.self.invariant.0 in
    sym (next_start c.self.inside.time c.earliest.result c.first_filled-slot.result c.earliest.result f.0 f.1 v i c.first_filled-slot.ensures.below f.2 f.3
    c.earliest.ensures.least (let a = i.after c.first_filled-slot.result f.0 f.1 f.2 in let e = f.3 in omega (arith, a, e)) (omega arith) (inl refl) refl)
    ∙ ap (λ w. first_due w.timers) c.self.view_is
