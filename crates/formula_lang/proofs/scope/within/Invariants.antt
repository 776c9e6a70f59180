use Rattle.std.proofs.Common.{◌≡◌, ◌∷◌, map, take}
use Rattle.formula_lang.specs.Typing.{bound_view}
use Rattle.formula_lang.proofs.scope.within.Given as goal

abbrev pub invariant-loop-outer : goal.invariant-loop-outer
invariant-loop-outer l =
    map bound_view l.inner.items ≡ record { name = l.name; ty = l.fn.ty } ∷ map bound_view (take l.outer-index l.variables)
