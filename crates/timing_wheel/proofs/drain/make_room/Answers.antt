use Rattle.std.proofs.Common.{◌-◌, length}
use Rattle.timing_wheel.proofs.Keeping.{wide_keeps, same_keeps}
use Rattle.timing_wheel.proofs.drain.make_room.Goals as goal

pub returns-clause-timers : goal.returns-clause-timers
returns-clause-timers c =
    same_keeps c.args.lists.now c.widen.new.self c.reserve.new.self
    (wide_keeps c.args.lists.now c.widen.new.self (2048 - length c.args.lists.now.lists) c.in_ok-widen.ensures.lists) c.reserve.ensures.lists
