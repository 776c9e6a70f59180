use Rattle.std.proofs.Common.{Bool, Ok, refl, ap, arith}
use Rattle.session.specs.declared.answer.Did.TheVariants as did
use Rattle.script_run.specs.Steps.{all_written, cut_off, not_taken}
use Rattle.script_run.proofs.Course.{or_true, refusal_told, stops_at_once}
use Rattle.script_run.proofs.Steps.{faulted, keeps_same, memory_unread, memory_unwritten, no_fault, on_unread, on_unwritten, write_unread}
use Rattle.script_run.proofs.running.refuse_long.Goals as goal

pub returns-in-Ok-deliver : goal.returns-in-Ok-deliver
returns-in-Ok-deliver g c = λ behind quiet. record {
  ends = all_written (did.Refused 2) _ _ (record {
    takes = λ m line long st. rw c.requires.empty at c.in-Ok.ensures.taken m line long st;
    told = refusal_told behind quiet 2 _ _ _ _ _;
  }) (ap (λ (b : Bool). Ok b) (or_true c.args.refused)) c.in-Ok-deliver.ensures.ok;
  lines = c.too_long.ensures.lines;
  builds_grow = omega (arith, c.too_long.ensures.builds);
  quiet = λ line long none. c.too_long.ensures.builds;
  empty = c.in-Ok-deliver.ensures.cleared;
  library = keeps_same _ _ _ _ _ c.too_long.ensures.library;
  sink = no_fault _ _ c.in-Ok-deliver.ensures.cause.unfailed (on_unwritten _);
  unread = on_unread _;
}

pub returns-in-Err-deliver : goal.returns-in-Err-deliver
returns-in-Err-deliver g c = λ behind quiet.
    let cut = c.in-Err-deliver.ensures.prefix in
    record {
      ends = cut_off (did.Refused 2) _ _ cut.0 (record {
        takes = λ m line long st. rw c.requires.empty at c.in-Ok.ensures.taken m line long st;
        told = refusal_told behind quiet 2 _ _ _ _ _;
      }) refl cut.1 cut.2;
      lines = c.too_long.ensures.lines;
      builds_grow = omega (arith, c.too_long.ensures.builds);
      quiet = λ line long none. c.too_long.ensures.builds;
      empty = tt;
      library = keeps_same _ _ _ _ _ c.too_long.ensures.library;
      sink = faulted _ _ c.deliver.ensures.cause.later c.in-Err-deliver.ensures.cause.failed refl;
      unread = write_unread;
    }

pub returns-in-Err : goal.returns-in-Err
returns-in-Err g c = λ behind quiet. record {
  ends = not_taken (λ m line long st. stops_at_once _ m line _ _ _ _ c.too_long.ensures.kept (ap g.L.Library.calls c.too_long.ensures.library) st) refl refl;
  lines = c.too_long.ensures.lines;
  builds_grow = omega (arith, c.too_long.ensures.builds);
  quiet = λ line long none. c.too_long.ensures.builds;
  empty = tt;
  library = keeps_same _ _ _ _ _ c.too_long.ensures.library;
  sink = no_fault _ _ refl memory_unwritten;
  unread = memory_unread;
}
