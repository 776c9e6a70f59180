use Rattle.std.proofs.Common.{sym, subst}
use Rattle.timing_wheel.specs.Alarms.{IsPending}
use Rattle.timing_wheel.proofs.Alarms.{seen_pending, pending_seen}
use Rattle.timing_wheel.proofs.wheel.Wheel.is_pending.Goals as goal

pub returns : goal.returns
returns c =
    let e = c.is_pending.ensures in
    let ts = c.self.inside.levels.timers in (
      λ yes. subst (λ w. IsPending w.alarms c.args.key) c.self.view_is (pending_seen ts c.args.key (e.0 yes)),
      λ pending. e.1 (seen_pending ts c.args.key (subst (λ w. IsPending w.alarms c.args.key) (sym c.self.view_is) pending)),
    )
