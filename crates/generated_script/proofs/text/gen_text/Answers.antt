use Rattle.std.proofs.Common.{◌∙◌, arith}
use Rattle.generated_script.proofs.Steps.{text-end, text-more, text-start}
use Rattle.generated_script.proofs.text.gen_text.Goals as goal

pub loop-step-init : goal.loop-step-init
loop-step-init c =
    rw (c.in_ok-text.ensures.items, c.new-draws.ensures) (text-start c.args.steps c.args.seed)

pub loop-step-preserved : goal.loop-step-preserved
loop-step-preserved c =
    rw (c.in_ok-add_step.ensures.lines, c.in_ok-add_step.ensures.draws)
    (text-more _ _ c.args.steps c.loop-step.step _ (omega arith) c.loop-step.invariant)

pub returns : goal.returns
returns c =
    c.in_ok-extend_from_slice.ensures.items
    ∙ text-end _ _ c.args.steps c.loop-step.step _ (omega arith) c.loop-step.invariant
