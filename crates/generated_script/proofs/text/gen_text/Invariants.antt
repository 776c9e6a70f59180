use Rattle.std.proofs.Common.{◌≡◌, ◌+◌, ◌-◌, ◌++◌}
use Rattle.generated_script.specs.Generated.{generated_text, lines_from, text_of}
use Rattle.generated_script.proofs.text.gen_text.Given as goal

abbrev pub invariant-loop-step : goal.invariant-loop-step
invariant-loop-step l = l.text.items ++ text_of (lines_from (l.steps - l.step) (l.step + 1) l.draws.state) ≡ generated_text l.steps l.seed
