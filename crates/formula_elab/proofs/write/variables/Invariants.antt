use Rattle.std.proofs.Common.{◌≡◌}
use Rattle.formula_elab.specs.Writing.{variables}
use Rattle.formula_elab.proofs.write.variables.Given as goal

abbrev pub invariant-loop-binds_between : goal.invariant-loop-binds_between
invariant-loop-binds_between l = l.parts.items ≡ variables l.binds_between
