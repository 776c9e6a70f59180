use Rattle.std.proofs.Common.{refl}
use Rattle.script_run.proofs.Course.{Ran-nothing}
use Rattle.script_run.proofs.Steps.{keeps_same, memory_no_read, memory_no_write, no_fault, runs_lines}
use Rattle.script_run.proofs.running.run_lines.Goals as goal

pub returns-in-Err : goal.returns-in-Err
returns-in-Err g c = record {
  ran = Ran-nothing _ _ _ _ _ refl;
  library = keeps_same _ _ _ _ _ refl;
  source = no_fault _ _ refl memory_no_read;
  sink = no_fault _ _ refl memory_no_write;
}

pub returns : goal.returns
returns g c =
    let s = c.new-session.ensures in
    runs_lines _ _ _ _ _ _ _ _ _ _ s.library c.into_library.ensures s.builds s.first c.in-Ok.ensures.ok c.take_lines-ending.ensures
