use Rattle.std.proofs.Common.{arith, ◌≡◌, ◌∙◌, ap, subst, ℕ, pos, ◌-◌, ◌<◌, ◌%◌, ◌+ℤ◌, ◌-ℤ◌, FitsSigned, to_z, of_z, w64}
use Rattle.std.specs.Prelude.{unsigned_abs}
use Rattle.std.proofs.lemmas.Int.{ints}
use Rattle.std.proofs.Math.Nat.{mod-lt}
use Rattle.inc_terms.proofs.Quiet.{quiet_to_span, past, some_of, none_of}
use Rattle.inc_terms.proofs.clock.next_span.Goals as goal

pub returns : goal.returns
returns c =
    let e : ℕ = unsigned_abs (to_z w64 (of_z w64 (to_z w64 (of_z w64 c.args.time) -ℤ to_z w64 (of_z w64 c.args.base)))) in
    let t = c.requires.timed in
    let low = t.0 in
    let reached = t.1 in
    let long = t.2 in
    let h = c.checked_add_unsigned.ensures in
    let rest : e % c.args.span < c.args.span = mod-lt e (omega (arith, ints, long)) in
    let there : c.args.time -ℤ c.args.base ≡ pos e = omega (arith, ints, low, reached, c.ranges.time, c.ranges.base) in
    let same : to_z w64 (of_z w64 c.args.time) ≡ c.args.time = omega (arith, ints, c.ranges.time) in
    quiet_to_span c.args.base c.args.time c.args.span e c.checked_add_unsigned.result reached (omega (arith, ints, long))
    (omega (arith, ints, low, reached, c.ranges.time, c.ranges.base))
    there
    (λ u is. some_of c.checked_add_unsigned.result _ _ u h is ∙ ap (λ z. z +ℤ pos (c.args.span - e % c.args.span)) same)
    (λ is. past (c.args.time +ℤ pos (c.args.span - e % c.args.span)) (omega (arith, ints, low, reached, rest))
    (λ fits. none_of c.checked_add_unsigned.result _ _ h is (subst (λ z. FitsSigned w64 (z +ℤ pos (c.args.span - e % c.args.span))) (let e' = same in cc) fits)))
    rest
