use Rattle.std.proofs.Common.{◌≡◌, ◌∙◌, ap, subst, sym}
use Rattle.std.proofs.lemmas.Int.{to_z-of_z}
use Rattle.std.specs.Fmt.{signed_decimal}
use Rattle.std.specs.Int.{w64, cast_signed, cast_unsigned}
use Rattle.inc_value.specs.Text.{IsText}
use Rattle.std_library.specs.FunctionLaws.{decimal_is_text}
use Rattle.std_library.proofs.operations.shown.Goals as goal

-- the digits are those of a text
pub text-requires : goal.text-requires
text-requires c =
    let number : cast_signed w64 (cast_unsigned w64 c.args.number) ≡ c.args.number = to_z-of_z w64 c.args.number c.ranges.number in
    let is : c.as_bytes.result.now ≡ signed_decimal c.args.number =
    c.as_bytes.ensures.value ∙ c.in_ok-digits.ensures.ok ∙ ap signed_decimal number in
    subst IsText (sym is) (decimal_is_text c.args.number c.ranges.number)
