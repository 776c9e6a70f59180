use Rattle.formula_lang.proofs.TypedSteps.{all_done, step_done, step_missing}
use Rattle.formula_lang.proofs.typing.steps_of_type.Goals as goal

pub loop-step-preserved : goal.loop-step-preserved
loop-step-preserved c =
    let l = c.loop-step in
    let o = c.in-Ok-Some in
    let found = rw o.field-0-is at o.ensures in
    rw c.in_ok-push-in-Ok-Some.ensures.items
    (step_done c.args.names.now c.args.ty c.args.steps.now l.step-index l.constants.items c.step-item.result
    (record { time = c.nanoseconds_of-time.result; value = o.value }) c.loop-step-test.true c.step-item.is found c.nanoseconds_of-time.ensures l.invariant)

pub returns-in-Ok-None : goal.returns-in-Ok-None
returns-in-Ok-None c =
    let l = c.loop-step in
    let o = c.in-Ok-None in
    step_missing c.args.names.now c.args.ty c.args.steps.now l.step-index l.constants.items c.step-item.result c.loop-step-test.true c.step-item.is
    (rw o.field-0-is at o.ensures) l.invariant

pub returns : goal.returns
returns c =
    let l = c.loop-step in
    all_done c.args.names.now c.args.ty c.args.steps.now l.step-index l.constants.items c.loop-step-test.false l.invariant
