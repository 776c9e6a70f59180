use Rattle.std.proofs.Common.{◌∙◌, ap, length}
use Rattle.timing_wheel.proofs.Counting.{length_all}
use Rattle.timing_wheel.proofs.levels.Levels.len.Goals as goal

pub returns : goal.returns
returns c = c.len.ensures ∙ length_all c.self.inside.lists.lists ∙ ap (λ w. length w.timers) c.self.view_is
