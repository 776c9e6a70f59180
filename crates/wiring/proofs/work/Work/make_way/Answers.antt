use Rattle.std.proofs.Common.{arith}
use Rattle.wiring.proofs.TakingAll.{some_more, more_then}
use Rattle.wiring.proofs.work.Work.make_way.Goals as goal

pub returns-then-self-gt1-clause-taken : goal.returns-then-self-gt1-clause-taken
returns-then-self-gt1-clause-taken c =
    let more = c.if-self-gt1.true in
    some_more c.args.arena.now c.args.self.now c.take_off_along-took.new.self _ c.take_off_along-took.ensures (omega (arith, more)) (omega (arith, more))

pub returns-else-took-clause-taken : goal.returns-else-took-clause-taken
returns-else-took-clause-taken c =
    let u = c.take_off_unconfirmed.ensures in
    more_then c.args.arena.now c.args.self.now c.take_off_along-took.new.self c.take_off_unconfirmed.new.self c.take_off_along-took.ensures u.taken u.loses
