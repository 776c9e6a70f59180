use Rattle.std.proofs.Common.{Err, ap, sym}
use Rattle.graph_kit.proofs.Shown.{outcome_shown, outcome_none}
use Rattle.graph_kit.proofs.reading.outcome.Goals as goal

pub returns-in-Ok-clause-shown : goal.returns-in-Ok-clause-shown
returns-in-Ok-clause-shown g c =
    sym (outcome_shown c.args.graph.now c.args.observer c.in-Ok.outcome.now
    (λ cause broken. let e = (c.in-Ok.ensures.broken cause).1 broken in cc) c.in-Ok.ensures.value)

pub returns-in-Err-clause-shown : goal.returns-in-Err-clause-shown
returns-in-Err-clause-shown g c =
    sym (outcome_none c.args.graph.now c.args.observer c.in-Err.fault c.in-Err.ensures.telling
    (λ cause is. (c.in-Err.ensures.broken cause).0 (ap Err is)) (λ is. (c.in-Err.ensures.unknown.0 (ap Err is)).1)
    (λ is. (c.in-Err.ensures.not_shown.0 (ap Err is)).2))
