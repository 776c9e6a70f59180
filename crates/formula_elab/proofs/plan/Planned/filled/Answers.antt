use Rattle.std.proofs.Common.{subst}
use Rattle.formula_elab.specs.Opened.{NeedsEarlier, Planned}
use Rattle.formula_elab.proofs.MadeAs.{lines_made}
use Rattle.formula_elab.proofs.plan.Planned.filled.Goals as goal

pub filled-requires-clause-made : goal.filled-requires-clause-made
filled-requires-clause-made c =
    let h = c.requires.earlier in
    let needs = subst (λ (x : Planned). NeedsEarlier h.0 x) c.in-Body.is h.1 in
    lines_made h.0 c.args.made.now h.3 h.4 c.in-Body.body.page.lines needs
