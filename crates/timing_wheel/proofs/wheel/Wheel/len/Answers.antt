use Rattle.std.proofs.Common.{◌∙◌, sym, ap, length}
use Rattle.std.proofs.lemmas.List.{length-map}
use Rattle.timing_wheel.specs.Alarms.{alarm_of}
use Rattle.timing_wheel.proofs.wheel.Wheel.len.Goals as goal

pub returns : goal.returns
returns c = c.len.ensures ∙ sym (length-map c.self.inside.levels.timers alarm_of) ∙ ap (λ w. length w.alarms) c.self.view_is
