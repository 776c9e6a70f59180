use Rattle.std.proofs.Common.{◌∙◌, sym, ap, subst}
use Rattle.timing_wheel.specs.Alarms.{alarms_of, but, IsPending}
use Rattle.timing_wheel.proofs.Alarms.{seen_but, seen_pending}
use Rattle.timing_wheel.proofs.wheel.Wheel.remove.Goals as goal

pub remove-requires : goal.remove-requires
remove-requires c =
    record { pending = seen_pending c.self.inside.levels.timers c.args.key (subst (λ w. IsPending w.alarms c.args.key) (sym c.self.view_is) c.requires.pending) }

pub returns-clause-off : goal.returns-clause-off
returns-clause-off c =
    ap alarms_of c.remove.ensures.off ∙ sym (seen_but c.self.inside.levels.timers c.args.key) ∙ ap (λ w. but c.args.key w.alarms) c.self.view_is
