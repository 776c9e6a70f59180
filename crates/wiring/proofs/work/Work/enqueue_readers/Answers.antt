use Rattle.wiring.proofs.Enqueuing.{readers_enqueued}
use Rattle.wiring.proofs.work.Work.enqueue_readers.Goals as goal

pub returns-clause-enqueued : goal.returns-clause-enqueued
returns-clause-enqueued c =
    let old = c.args.self.now in
    readers_enqueued old (record old { graph = c.insert_readers.new.self }) c.args.p c.insert_readers.ensures.rest c.requires.step
    c.insert_readers.ensures.inserted
