-- What the code's steps are.
use Rattle.inc_terms.specs.Term.{Step}
use Rattle.inc_terms.specs.declared.steps.Step as declared

-- the step that the code's one stands for
abbrev pub step_of : declared.Step → Step
step_of s = record { time = s.time; value = s.value }
