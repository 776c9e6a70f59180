use Rattle.std.proofs.Common.{arith, rules, ◌≡◌, ap, subst, ◌+◌, ◌≤ℤ◌, ◌<ℤ◌, ◌∷◌, [], map, drop, FitsSigned, to_z, of_z, w64}
use Rattle.std.proofs.lemmas.Int.{ints}
use Rattle.std.proofs.lemmas.List.{drop_all}
use Rattle.inc_terms.specs.Steps.{step_of}
use Rattle.inc_terms.proofs.Quiet.{HaveCome, none_came, one_came, quiet_to_step, quiet_for_good, here, stands}
use Rattle.inc_terms.proofs.clock.next_step.Goals as goal

pub loop-step-init : goal.loop-step-init
loop-step-init c = none_came (to_z w64 (of_z w64 c.args.time)) (map step_of c.args.steps.now)

pub returns-then-step-time : goal.returns-then-step-time
returns-then-step-time c = λ v.
    let steps = c.args.steps.now in
    let i = c.loop-step.step-index in
    let s = c.step-item.result in
    let fits : FitsSigned w64 s.time = search rules in
    let same : to_z w64 (of_z w64 c.args.time) ≡ c.args.time = omega (arith, ints, c.ranges.time) in
    let step_same : to_z w64 (of_z w64 s.time) ≡ s.time = omega (arith, ints, fits) in
    let later : c.args.time <ℤ s.time = (let yes = c.if-step-time.true in let yes' = rw (same, step_same) at yes in grind (arith, ints)) in
    let came : HaveCome c.args.time (map step_of steps) (step_of s ∷ map step_of (drop (i + 1) steps))
    = subst (HaveCome c.args.time (map step_of steps)) (here steps i s c.loop-step-test.true c.step-item.is)
    (subst (λ z. HaveCome z (map step_of steps) (map step_of (drop i steps))) same c.loop-step.invariant) in
    let there = stands steps i s c.loop-step-test.true c.step-item.is in
    rw step_same (quiet_to_step c.args.time (map step_of steps) (step_of s) (map step_of (drop (i + 1) steps)) later there came v)

pub loop-step-preserved : goal.loop-step-preserved
loop-step-preserved c =
    let steps = c.args.steps.now in
    let i = c.loop-step.step-index in
    let s = c.step-item.result in
    let time = to_z w64 (of_z w64 c.args.time) in
    let fits : FitsSigned w64 s.time = search rules in
    let step_same : to_z w64 (of_z w64 s.time) ≡ s.time = omega (arith, ints, fits) in
    let come : s.time ≤ℤ time = (let no' = c.if-step-time.false in let no'' = rw step_same at no' in grind (arith, ints)) in
    one_came time (map step_of steps) (step_of s) (map step_of (drop (i + 1) steps)) come
    (subst (HaveCome time (map step_of steps)) (here steps i s c.loop-step-test.true c.step-item.is) c.loop-step.invariant)

pub returns : goal.returns
returns c = λ v.
    let steps = c.args.steps.now in
    let same : to_z w64 (of_z w64 c.args.time) ≡ c.args.time = omega (arith, ints, c.ranges.time) in
    let none : map step_of (drop c.loop-step.step-index steps) ≡ [] = ap (map step_of) (drop_all c.loop-step.step-index steps c.loop-step-test.false) in
    quiet_for_good c.args.time (map step_of steps)
    (subst (HaveCome c.args.time (map step_of steps)) none
    (subst (λ z. HaveCome z (map step_of steps) (map step_of (drop c.loop-step.step-index steps))) same c.loop-step.invariant)) v
