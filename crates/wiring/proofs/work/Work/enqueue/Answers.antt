use Rattle.std.proofs.Common.{sym, ◌∙◌}
use Rattle.wiring.proofs.Enqueuing.{inserted, settled_already}
use Rattle.wiring.proofs.work.Work.enqueue.Goals as goal

pub returns-then-not-was_settled-clause-enqueued : goal.returns-then-not-was_settled-clause-enqueued
returns-then-not-was_settled-clause-enqueued c =
    let old = c.args.self.now in
    inserted old (record old { graph = c.insert.new.self }) c.args.p c.insert.ensures.rest c.insert.ensures.inserted
    c.requires.step c.requires.needed (sym c.was_settled.ensures ∙ c.if-not-was_settled.true)

pub returns-else-not-was_settled-clause-enqueued : goal.returns-else-not-was_settled-clause-enqueued
returns-else-not-was_settled-clause-enqueued c =
    settled_already c.args.self.now c.args.p c.requires.step (sym c.was_settled.ensures ∙ c.if-not-was_settled.false)
