use Rattle.wiring.proofs.Forgetting.{survivors_told}
use Rattle.wiring.proofs.work.Work.tell_survivors.Goals as goal

pub returns-clause-told : goal.returns-clause-told
returns-clause-told c =
    let old = c.args.self.now in
    survivors_told old (record old { graph = c.insert_readers.new.self }) c.args.p c.insert_readers.ensures.rest c.requires.step
    c.insert_readers.ensures.inserted
