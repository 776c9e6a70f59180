use Rattle.std.proofs.Common.{◌≡◌, refl, sym}
use Rattle.script_io.specs.declared.ending.Ending.TheVariants as ending
use Rattle.script_run.proofs.Course.{Ran-at_end, Ran-limit, Ran-read_fault}
use Rattle.script_run.proofs.Steps.{end_read, ends_read, ends_whole, faulted, limit_read, limit_unread, limit_whole, line_read, long_read, no_fault, read_whole, takes_line, takes_none}
use Rattle.script_run.proofs.running.take_line.Goals as goal

pub returns-in-Line : goal.returns-in-Line
returns-in-Line g c =
    let next = c.in-Line.ensures in
    let t = next.takes.1 in
    takes_line _ _ _ _ _ _ _ _ (λ line. line ≡ c.line.result.now) c.next.new.self.line _ (sym c.line.ensures) c.requires
    (record { bytes = t.bytes; count = t.count; within = next.within; few = next.few; clear = t.meaning.clear; ends = t.meaning.ends })
    (next.grows refl) next.ended (next.unfailed line_read) _ c.answer_line.ensures

pub returns-in-TooLong : goal.returns-in-TooLong
returns-in-TooLong g c =
    let next = c.in-TooLong.ensures in
    let t = next.takes.1 in
    let long = t.meaning in
    takes_line _ _ _ _ _ _ _ _ _ long.long _ long.exceeds c.requires
    (record { bytes = t.bytes; count = t.count; within = next.within; few = next.few; clear = long.clear; ends = long.ends })
    (next.grows_too_long refl) next.ended (next.unfailed long_read) _ (c.refuse_long.ensures g.R.Report.behind g.met.R.Report.quiet)

pub returns-in-End : goal.returns-in-End
returns-in-End g c =
    let next = c.in-End.ensures in
    let t = next.takes.1 in
    takes_none _ _ _ _ _ _ _ _ _ refl next.within (ends_whole c.args.refused _ c.at_end.ensures)
    (no_fault _ _ (next.unfailed end_read) (ends_read c.args.refused _ c.at_end.ensures))
    (λ before p. Ran-at_end _ _ _ before _ _ _ _ _ c.at_end.ensures p t.bytes t.meaning)

pub returns-in-Limit : goal.returns-in-Limit
returns-in-Limit g c =
    let next = c.in-Limit.ensures in
    let t = next.takes.1 in
    takes_none _ _ _ _ _ _ _ _ ending.Limit refl next.within limit_whole (no_fault _ _ (next.unfailed limit_read) limit_unread)
    (λ before p. Ran-limit _ _ _ before _ _ _ _ p t.bytes t.count next.within next.few t.meaning)

pub returns-in-ReadFault : goal.returns-in-ReadFault
returns-in-ReadFault g c =
    let next = c.in-ReadFault.ensures in
    let t = next.takes.1 in
    takes_none _ _ _ _ _ _ _ _ ending.ReadFault refl next.within read_whole (faulted _ _ next.later (next.fault refl) refl)
    (λ before p. Ran-read_fault _ _ _ before _ _ _ _ p t.bytes t.count next.within next.few t.meaning)
