use Rattle.wiring.proofs.Deciding.{not_both}
use Rattle.wiring.proofs.Enqueuing.{tells, tells_none}
use Rattle.wiring.proofs.work.Work.settle.Goals as goal

pub returns-then-not-stopped-clause-told : goal.returns-then-not-stopped-clause-told
returns-then-not-stopped-clause-told c =
    let s = c.set_outcome-stopped in
    tells c.args.self.now s.new.rows c.enqueue_readers.new.self c.args.p c.args.outcome c.enqueue_readers.ensures.enqueued
    c.enqueue_readers.ensures.rest (λ stops. not_both s.result c.if-not-stopped.true (s.ensures.stopped.1 stops))

pub returns-else-not-stopped-clause-told : goal.returns-else-not-stopped-clause-told
returns-else-not-stopped-clause-told c =
    let s = c.set_outcome-stopped in tells_none c.args.self.now s.new.rows c.args.p c.args.outcome (s.ensures.stopped.0 c.if-not-stopped.false)
