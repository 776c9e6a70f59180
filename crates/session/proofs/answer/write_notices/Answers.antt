use Rattle.std.proofs.Common.{arith, length, refl}
use Rattle.std.proofs.lemmas.Option.{slice_get_read}
use Rattle.session.proofs.Telling.{all_written, more_written}
use Rattle.session.proofs.answer.write_notices.Goals as goal

pub loop-notice-preserved : goal.loop-notice-preserved
loop-notice-preserved g c =
    let e = c.in_ok-write_notice.ensures.ok in
    let notices = c.args.notices.now in
    let there = slice_get_read notices (length notices) c.loop-notice.notice-index c.notice-item.result refl c.loop-notice-test.true c.notice-item.is in
    more_written c.args.script.now.kept notices c.args.out.now.items c.loop-notice.notice-index c.notice-item.result c.loop-notice.out.items
    c.write_notice.new.out.items e.0 there c.loop-notice.invariant e.1 e.2

pub returns-clause-ok : goal.returns-clause-ok
returns-clause-ok g c =
    all_written c.args.script.now.kept c.args.notices.now c.args.out.now.items c.loop-notice.notice-index c.loop-notice.out.items
    (omega (arith, c.loop-notice-test.false)) c.loop-notice.invariant
