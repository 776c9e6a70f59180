use Rattle.inc_terms.proofs.Same.{outcome_decides}
use Rattle.inc_terms.specs.Same.{same_outcome}
use Rattle.observers.proofs.Lists.{same_truth}
use Rattle.observers.proofs.observer.is_same.Goals as goal

pub returns : goal.returns
returns c =
    let decides = outcome_decides c.args.a.now c.args.b.now in
    same_truth c.same.result (same_outcome c.args.a.now c.args.b.now) c.same.ensures.0 c.same.ensures.1 decides.0 decides.1
