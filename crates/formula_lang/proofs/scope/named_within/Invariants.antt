use Rattle.std.proofs.Common.{◌≡◌, ◌∷◌, take}
use Rattle.formula_lang.proofs.scope.named_within.Given as goal

abbrev pub invariant-loop-outer : goal.invariant-loop-outer
invariant-loop-outer l = l.inner.items ≡ l.name ∷ take l.outer-index l.variables
