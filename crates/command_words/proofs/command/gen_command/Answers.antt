use Rattle.std.proofs.Common.{◌||◌, ◌∙◌, ap₂}
use Rattle.std.proofs.lemmas.Result.{IfOk-weaker}
use Rattle.clap.specs.Words.{with_rule}
use Rattle.command_words.proofs.command.gen_command.Goals as goal

pub returns-clause-app : goal.returns-clause-app
returns-clause-app c =
    IfOk-weaker c.arg-2.result _ _ (λ r added. added.shape c.number-seed.ensures.local
    ∙ ap₂ with_rule (c.in_ok-arg.ensures.shape c.number-steps.ensures.local ∙ ap₂ with_rule c.new.ensures.app c.number-steps.ensures.rule) c.number-seed.ensures.rule)
    c.arg-2.ensures

pub returns-clause-local : goal.returns-clause-local
returns-clause-local c =
    IfOk-weaker c.arg-2.result _ _ (λ r added. added.globals
    ∙ ap₂ ◌||◌ (c.in_ok-arg.ensures.globals ∙ ap₂ ◌||◌ c.new.ensures.local c.number-steps.ensures.local) c.number-seed.ensures.local)
    c.arg-2.ensures
