use Rattle.std.proofs.Common.{◌≤◌, length, subst}
use Rattle.script_functions.specs.Bodies as spec
use Rattle.script_functions.specs.Bodies.{IsWhole}
use Rattle.script_functions.proofs.Lawful.{body_lawful}
use Rattle.script_functions.proofs.body.BodyRhsFn.sig.Goals as goal

pub returns-clause-lawful : goal.returns-clause-lawful
returns-clause-lawful c =
    body_lawful c.args.self.now (subst (λ (b : spec.Body). 1 ≤ length b.draft.sig.takes) c.self.view_is c.sig.ensures.some)
    (subst IsWhole c.self.view_is c.self.invariant)
