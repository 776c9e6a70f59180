use Rattle.incr_bench.proofs.report.tell_times.Goals as goal

pub returns : goal.returns
returns c =
    rw (← c.in_ok-tell_time.ensures, ← c.in_ok-tell_time-2.ensures, ← c.in_ok-tell_time-3.ensures) c.tell_time-4.ensures
