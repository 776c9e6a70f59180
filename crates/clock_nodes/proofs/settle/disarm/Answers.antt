use Rattle.clock_nodes.proofs.Alarms.{but_none}
use Rattle.clock_nodes.proofs.settle.disarm.Goals as goal

pub returns-else-is_pending-clause-off : goal.returns-else-is_pending-clause-off
returns-else-is_pending-clause-off c =
    but_none c.args.key c.args.wheel.now.alarms (λ pending. let e = c.is_pending.ensures.1 pending in let f = c.if-is_pending.false in cc)
