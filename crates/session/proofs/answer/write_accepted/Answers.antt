use Rattle.session.proofs.Failing.{err_from}
use Rattle.session.proofs.Telling.{accepted_in_part, notices_written}
use Rattle.session.proofs.answer.write_accepted.Goals as goal

pub returns-in-Ok-clause-ok : goal.returns-in-Ok-clause-ok
returns-in-Ok-clause-ok g c =
    let written = rw (c.in-Ok.is, c.accepted.ensures) at c.write_stable.ensures.ok in
    notices_written c.write_notices.result c.args.script.now.kept c.notices.result.now c.args.script.now.kept.graph.notices c.args.out.now.items _
    c.write_stable.new.out.items _ c.notices.ensures written c.write_notices.ensures.ok

pub returns-in-Ok-clause-err : goal.returns-in-Ok-clause-err
returns-in-Ok-clause-err g c =
    let written = rw c.in-Ok.is at c.write_stable.ensures.ok in
    err_from c.write_notices.result c.write_notices.ensures.err (accepted_in_part c.args.out.now.items _ c.write_stable.new.out.items _ written)
