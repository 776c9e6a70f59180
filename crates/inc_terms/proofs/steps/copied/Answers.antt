use Rattle.std.proofs.Common.{rules, arith, ◌≡◌, FitsSigned, to_z, of_z, w64}
use Rattle.std.proofs.lemmas.Int.{ints}
use Rattle.inc_terms.proofs.Copying.{one_copied}
use Rattle.inc_terms.proofs.steps.copied.Goals as goal

pub loop-step-preserved : goal.loop-step-preserved
loop-step-preserved c =
    let s = c.step-item.result in
    let fits : FitsSigned w64 s.time = search rules in
    let same : to_z w64 (of_z w64 s.time) ≡ s.time = omega (arith, ints, fits) in
    one_copied c.args.steps.now c.loop-step.step-index s c.loop-step.list.items c.push.new.self.items (to_z w64 (of_z w64 s.time)) c.in_ok-value.value
    c.loop-step-test.true c.step-item.is c.in_ok-push.ensures.items same c.in_ok-value.ensures.ok c.loop-step.invariant
