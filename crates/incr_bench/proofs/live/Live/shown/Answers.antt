use Rattle.std.proofs.Common.{Err, ap, refl}
use Rattle.incr_bench.proofs.Shown.{shows, shows_none}
use Rattle.incr_bench.proofs.live.Live.shown.Goals as goal

pub returns-in-Ok-clause-number : goal.returns-in-Ok-clause-number
returns-in-Ok-clause-number g c =
    let shown = c.in-Ok.ensures.shown in
    rw (shows c.args.self.now.graph (record { 0 = 0 }) shown.0 c.in-Ok.outcome.now
    (λ cause broken. let e = (c.in-Ok.ensures.broken cause).1 broken in cc)
    (λ unbroken out. let e = c.in-Ok.ensures.not_stabilized.1 (unbroken, rw shown.1 refl, out) in cc) shown.1 shown.2)
    c.number_of.ensures.number

pub returns-in-Ok-clause-none : goal.returns-in-Ok-clause-none
returns-in-Ok-clause-none g c =
    let shown = c.in-Ok.ensures.shown in
    rw (shows c.args.self.now.graph (record { 0 = 0 }) shown.0 c.in-Ok.outcome.now
    (λ cause broken. let e = (c.in-Ok.ensures.broken cause).1 broken in cc)
    (λ unbroken out. let e = c.in-Ok.ensures.not_stabilized.1 (unbroken, rw shown.1 refl, out) in cc) shown.1 shown.2)
    c.number_of.ensures.none

pub returns-in-Err-clause-none : goal.returns-in-Err-clause-none
returns-in-Err-clause-none g c = λ is. shows_none c.args.self.now.graph (record { 0 = 0 }) c.in-Err.fault c.in-Err.ensures.telling
    (λ cause is. (c.in-Err.ensures.broken cause).0 (ap Err is)) (λ is. (c.in-Err.ensures.unknown.0 (ap Err is)).1)
    (λ is. (c.in-Err.ensures.not_stabilized.0 (ap Err is)).2)
