use Rattle.std.proofs.Common.{arith, rules, ◌≡◌, ◌∙◌, ap, sym, subst, pos, ◌+ℤ◌, ◌<ℤ◌, FitsSigned, to_z, of_z, w64}
use Rattle.std.proofs.lemmas.Int.{ints}
use Rattle.inc_terms.specs.Clock.{IsNextChange}
use Rattle.inc_terms.specs.Graph.{Steps}
use Rattle.inc_terms.proofs.Quiet.{quiet_to_time, quiet_at_now, past, some_of, none_of}
use Rattle.inc_terms.proofs.def.Def.next_change.Goals as goal

pub returns-then-time-from : goal.returns-then-time-from
returns-then-time-from c =
    let fits : FitsSigned w64 c.in-At.from = search rules in
    let same : to_z w64 (of_z w64 c.args.time) ≡ c.args.time = omega (arith, ints, c.ranges.time) in
    let time_same : to_z w64 (of_z w64 c.in-At.from) ≡ c.in-At.from = omega (arith, ints, fits) in
    let later : c.args.time <ℤ c.in-At.from = (let yes = c.if-time-from.true in let yes' = rw (same, time_same) at yes in grind (arith, ints)) in
    rw (c.in-At.is, time_same) (quiet_to_time c.in-At.from c.args.time later)

pub returns-in-Steps : goal.returns-in-Steps
returns-in-Steps c =
    let same : to_z w64 (of_z w64 c.args.time) ≡ c.args.time = omega (arith, ints, c.ranges.time) in
    let quiet = c.next_step.ensures c.in-Steps.field-0 in
    rw c.in-Steps.is (subst (λ z. IsNextChange z (Steps c.in-Steps.field-0 c.in-Steps.steps) c.next_step.result) same
    (subst (λ l. IsNextChange (to_z w64 (of_z w64 c.args.time)) (Steps c.in-Steps.field-0 l) c.next_step.result) c.as_slice.ensures quiet))

pub returns-in-Now : goal.returns-in-Now
returns-in-Now c =
    let same : to_z w64 (of_z w64 c.args.time) ≡ c.args.time = omega (arith, ints, c.ranges.time) in
    let h = c.checked_add.ensures in
    rw c.in-Now.is (quiet_at_now c.args.time c.checked_add.result
    (λ u is. some_of c.checked_add.result _ _ u h is ∙ ap (λ z. z +ℤ pos 1) same)
    (λ is. past (c.args.time +ℤ pos 1) (let low = c.requires.time in omega (arith, ints, low))
    (λ fits. none_of c.checked_add.result _ _ h is (subst (λ z. FitsSigned w64 (z +ℤ pos 1)) (sym same) fits))))
