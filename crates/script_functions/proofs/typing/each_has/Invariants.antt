use Rattle.std.proofs.Common.{◌≡◌, Some, drop}
use Rattle.inc_value.specs.Choice.{Every}
use Rattle.script_functions.specs.Bodies.{type_at}
use Rattle.script_functions.proofs.typing.each_has.Given as goal

-- all are of the type exactly where those left are
abbrev pub invariant-loop-part : goal.invariant-loop-part
invariant-loop-part l =
    (Every (λ p. type_at l.draft p ≡ Some l.ty) (drop l.part-index l.parts) → Every (λ p. type_at l.draft p ≡ Some l.ty) l.parts)
    × (Every (λ p. type_at l.draft p ≡ Some l.ty) l.parts → Every (λ p. type_at l.draft p ≡ Some l.ty) (drop l.part-index l.parts))
