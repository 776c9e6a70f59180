use Rattle.std.proofs.Common.{refl}
use Rattle.script_run.specs.Steps.{all_written, cut_off, not_taken, not_told}
use Rattle.script_run.proofs.Steps.{faulted, memory_unread, memory_unwritten, no_fault, on_unread, on_unwritten, write_unread}
use Rattle.script_run.proofs.running.answer_line.Goals as goal

pub returns-in-Err : goal.returns-in-Err
returns-in-Err g c = record {
  ends = not_taken (λ m line is st. rw is (c.in-Err.ensures.stopped m st)) refl refl;
  lines = c.line.ensures.lines;
  builds_grow = c.line.ensures.builds_grow;
  quiet = λ line is none. c.line.ensures.builds (λ asks. none (rw is asks));
  empty = tt;
  library = record { functions = c.line.ensures.functions; known_still = c.line.ensures.known; calls_grow = c.line.ensures.calls_grow };
  sink = no_fault _ _ refl memory_unwritten;
  unread = memory_unread;
}

pub returns-in-Err-append : goal.returns-in-Err-append
returns-in-Err-append g c = record {
  ends = not_told c.in-Ok.did c.line.new.out.items (λ m line is st. rw is (rw c.requires.empty at c.in-Ok.ensures.taken m st))
      (λ replies says round. c.in-Err-append.ensures.wanted _ _ replies c.note.ensures round) refl refl;
  lines = c.line.ensures.lines;
  builds_grow = c.line.ensures.builds_grow;
  quiet = λ line is none. c.line.ensures.builds (λ asks. none (rw is asks));
  empty = tt;
  library = record { functions = c.line.ensures.functions; known_still = c.line.ensures.known; calls_grow = c.line.ensures.calls_grow };
  sink = no_fault _ _ refl memory_unwritten;
  unread = memory_unread;
}

pub returns-in-Ok-deliver : goal.returns-in-Ok-deliver
returns-in-Ok-deliver g c = record {
  ends = all_written c.in-Ok.did _ _ (record {
    takes = λ m line is st. rw is (rw c.requires.empty at c.in-Ok.ensures.taken m st);
    told = λ replies says round. c.in-Ok-append.ensures.told _ _ replies c.note.ensures round;
  }) (rw c.is_refused.ensures refl) c.in-Ok-deliver.ensures.ok;
  lines = c.line.ensures.lines;
  builds_grow = c.line.ensures.builds_grow;
  quiet = λ line is none. c.line.ensures.builds (λ asks. none (rw is asks));
  empty = c.in-Ok-deliver.ensures.cleared;
  library = record { functions = c.line.ensures.functions; known_still = c.line.ensures.known; calls_grow = c.line.ensures.calls_grow };
  sink = no_fault _ _ c.in-Ok-deliver.ensures.cause.unfailed (on_unwritten _);
  unread = on_unread _;
}

pub returns-in-Err-deliver : goal.returns-in-Err-deliver
returns-in-Err-deliver g c =
    let cut = c.in-Err-deliver.ensures.prefix in
    record {
      ends = cut_off c.in-Ok.did _ _ cut.0 (record {
        takes = λ m line is st. rw is (rw c.requires.empty at c.in-Ok.ensures.taken m st);
        told = λ replies says round. c.in-Ok-append.ensures.told _ _ replies c.note.ensures round;
      }) refl cut.1 cut.2;
      lines = c.line.ensures.lines;
      builds_grow = c.line.ensures.builds_grow;
      quiet = λ line is none. c.line.ensures.builds (λ asks. none (rw is asks));
      empty = tt;
      library = record { functions = c.line.ensures.functions; known_still = c.line.ensures.known; calls_grow = c.line.ensures.calls_grow };
      sink = faulted _ _ c.deliver.ensures.cause.later c.in-Err-deliver.ensures.cause.failed refl;
      unread = write_unread;
    }
