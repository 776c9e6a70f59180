use Rattle.std.proofs.Common.{◌∙◌, arith}
use Rattle.timing_wheel.proofs.drain.drain.Goals as goal

pub loop-lower-preserved : goal.loop-lower-preserved
loop-lower-preserved c =
    let e = c.in-Some.ensures in
    let i = c.loop-lower.invariant in
    record {
      drained = e.drained;
      room = e.room;
      later = λ t lt. e.later t lt ∙ i.later t lt;
      fired = e.fired ∙ i.fired;
      below = e.below c.min-least.result (omega (arith, c.min-least.ensures))
          (λ at lt. i.below at (omega (arith, c.min-least.ensures, lt)));
      within = omega (arith, c.min-least.ensures, i.within);
      spare = (let s = e.spare in omega (arith, s, i.spare));
      places = λ le. e.places (i.places le);
      width = e.width ∙ i.width;
    }
