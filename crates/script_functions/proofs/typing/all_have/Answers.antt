use Rattle.std.proofs.Common.{◌≡◌, Some, sym}
use Rattle.std.proofs.lemmas.Slice.Zip.{AllZip-long}
use Rattle.script_functions.specs.Bodies.{type_at}
use Rattle.script_functions.proofs.typing.all_have.Goals as goal

pub returns-then-parts-types : goal.returns-then-parts-types
returns-then-parts-types c = (
  λ h. absurd cc,
  λ all. (let long = AllZip-long (λ p t. type_at c.args.draft.now p ≡ Some t) c.args.parts.now c.args.types.now all in
      absurd (c.if-parts-types.true (sym long))),
)
