use Rattle.std.proofs.Common.{◌∙◌, subst}
use Rattle.timing_wheel.specs.Levels.{NoneBelow, IsFirstLater}
use Rattle.timing_wheel.proofs.Staying.{moves_one}
use Rattle.timing_wheel.proofs.Turning.{empty_inplace, moves_on}
use Rattle.timing_wheel.proofs.drain.is_still.Goals as goal

pub returns-then-slot-width-clause-stays : goal.returns-then-slot-width-clause-stays
returns-then-slot-width-clause-stays c = λ yes_is now inplace from.
    empty_inplace c.args.tick c.args.lists.now
    (subst (λ n. NoneBelow c.args.lists.now n) (c.if-slot-width.true ∙ c.width.ensures) c.first_filled-slot.ensures.below)

pub returns-clause-stays : goal.returns-clause-stays
returns-clause-stays c = λ yes_is now inplace from.
    moves_on now c.args.tick c.first_filled-slot.result c.args.lists.now inplace c.first_filled-slot.ensures.below
    (subst (IsFirstLater c.args.lists.now c.first_filled-slot.result c.args.tick) yes_is c.is_later.ensures) from

pub returns-clause-moves : goal.returns-clause-moves
returns-clause-moves c = λ no_is now inplace.
    moves_one now c.args.tick c.first_filled-slot.result c.args.lists.now inplace
    (subst (IsFirstLater c.args.lists.now c.first_filled-slot.result c.args.tick) no_is c.is_later.ensures)
