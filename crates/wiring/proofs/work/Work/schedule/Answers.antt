use Rattle.wiring.proofs.Deciding.{not_both}
use Rattle.wiring.proofs.Detaching.{entered}
use Rattle.wiring.proofs.Enqueuing.{unneeded_stays}
use Rattle.wiring.proofs.work.Work.schedule.Goals as goal

pub returns-then-is_needed-clause-scheduled : goal.returns-then-is_needed-clause-scheduled
returns-then-is_needed-clause-scheduled c =
    entered c.args.self.now.graph c.insert.new.self c.args.p c.requires.step (c.is_needed.ensures.0 c.if-is_needed.true) c.insert.ensures.inserted
    c.insert.ensures.rest

pub returns-else-is_needed-clause-scheduled : goal.returns-else-is_needed-clause-scheduled
returns-else-is_needed-clause-scheduled c =
    unneeded_stays c.args.self.now.graph c.args.p (λ need. not_both c.is_needed.result c.if-is_needed.false (c.is_needed.ensures.1 need))
