use Rattle.timing_wheel.proofs.Slots.{Seeking}
use Rattle.timing_wheel.proofs.slot.slot_of.Given as goal

abbrev pub invariant-loop-early : goal.invariant-loop-early
invariant-loop-early l = Seeking l.now l.deadline l.early l.late l.base

abbrev pub decreases-loop-early : goal.decreases-loop-early
decreases-loop-early l = l.late
