use Rattle.formula_elab.proofs.Adding.{AreBeingAdded}
use Rattle.formula_elab.proofs.body.add_lines.Given as goal

abbrev pub invariant-loop-line : goal.invariant-loop-line
invariant-loop-line l = AreBeingAdded l.made l.lines l.line-index l.fn.draft l.draft
