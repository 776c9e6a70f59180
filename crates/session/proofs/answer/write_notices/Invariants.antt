use Rattle.session.proofs.Telling.{AreWritten}
use Rattle.session.proofs.answer.write_notices.Given as goal

abbrev pub invariant-loop-notice : goal.invariant-loop-notice
invariant-loop-notice g l = AreWritten l.script.kept l.notices l.fn.out.items l.notice-index l.out.items
