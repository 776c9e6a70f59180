use Rattle.std.proofs.Common.{◌∙◌, sym}
use Rattle.timing_wheel.proofs.Rows.{filled_from, not_filled, none_below_more, some_of, none_of}
use Rattle.timing_wheel.proofs.drain.first_filled.Goals as goal

pub returns-then-is_some-clause-filled : goal.returns-then-is_some-clause-filled
returns-then-is_some-clause-filled c = λ lt.
    let s = some_of c.first.result (sym c.is_some.ensures ∙ c.if-is_some.true) in
    filled_from c.args.lists.now c.loop-slot.slot s.0 (sym c.first.ensures ∙ s.1)

pub loop-slot-preserved : goal.loop-slot-preserved
loop-slot-preserved c =
    none_below_more c.args.lists.now c.loop-slot.slot c.loop-slot.invariant
    (not_filled c.args.lists.now c.loop-slot.slot (sym c.first.ensures ∙ none_of c.first.result (sym c.is_some.ensures ∙ c.if-is_some.false)))
