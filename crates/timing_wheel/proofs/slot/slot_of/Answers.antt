use Rattle.timing_wheel.proofs.Slots.{seeking_start, seeking_step, seeking_end}
use Rattle.timing_wheel.proofs.slot.slot_of.Goals as goal

pub loop-early-init : goal.loop-early-init
loop-early-init c = seeking_start c.args.now c.args.deadline c.requires c.ranges.deadline.fits

pub loop-early-preserved : goal.loop-early-preserved
loop-early-preserved c =
    seeking_step c.args.now c.args.deadline c.loop-early.early c.loop-early.late c.loop-early.base c.loop-early.invariant c.loop-early-test.true

pub returns-clause-slot : goal.returns-clause-slot
returns-clause-slot c =
    seeking_end c.args.now c.args.deadline c.loop-early.early c.loop-early.late c.loop-early.base c.loop-early.invariant c.loop-early-test.false
