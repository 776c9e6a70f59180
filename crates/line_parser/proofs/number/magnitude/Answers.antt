use Rattle.std.proofs.Common.{arith}
use Rattle.line_parser.proofs.Numbers.{number_from-front}
use Rattle.line_parser.proofs.number.magnitude.Goals as goal

pub returns-in_err-checked_mul : goal.returns-in_err-checked_mul
returns-in_err-checked_mul c =
    let front = number_from-front c.args.digits.now c.loop-digit.number c.loop-digit.digit-index c.loop-digit-test.true in
    rw c.from_residual.ensures (λ h. c.in_err-checked_mul.ensures (omega (arith, front, h, c.loop-digit.invariant.so_far)))

pub returns-in_err-number : goal.returns-in_err-number
returns-in_err-number c =
    let front = number_from-front c.args.digits.now c.loop-digit.number c.loop-digit.digit-index c.loop-digit-test.true in
    rw c.from_residual-in_err-number.ensures (λ h. c.in_err-number.ensures
    (omega (arith, front, h, c.loop-digit.invariant.so_far, c.in_ok-checked_mul.ensures, c.from-value.ensures, c.saturating_sub.ensures)))
