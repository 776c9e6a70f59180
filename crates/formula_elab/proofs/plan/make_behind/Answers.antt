use Rattle.formula_elab.proofs.Next.{none_next, next_earlier, next_stands}
use Rattle.formula_elab.proofs.plan.make_behind.Goals as goal

pub filled-requires : goal.filled-requires
filled-requires c =
    let at = c.in-Some.ensures.lookup in
    record { earlier = next_earlier c.args.makes.now c.args.made.now c.in-Some.planned.now at.3.0 at.1 c.requires.order c.requires.typed c.requires.kinds }

pub returns-in_ok-filled-in-Some : goal.returns-in_ok-filled-in-Some
returns-in_ok-filled-in-Some c =
    let at = c.in-Some.ensures.lookup in
    let planned = c.in-Some.planned.now in
    (planned, next_stands c.args.makes.now c.args.made.now planned at.3.0 at.1, c.in_ok-filled-in-Some.ensures)

pub returns-in-None : goal.returns-in-None
returns-in-None c = none_next c.args.makes.now c.args.made.now c.in-None.ensures.lookup.3
