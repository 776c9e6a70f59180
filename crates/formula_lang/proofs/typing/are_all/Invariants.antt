use Rattle.std.proofs.Common.{◌≡◌, not, drop}
use Rattle.std.specs.List.{list_any}
use Rattle.inc_value.specs.Ty.{same_ty}
use Rattle.formula_lang.proofs.typing.are_all.Given as goal

abbrev pub invariant-loop-other : goal.invariant-loop-other
invariant-loop-other l = list_any (λ u. not (same_ty l.ty u)) (drop l.other-index l.tys) ≡ list_any (λ u. not (same_ty l.ty u)) l.tys
