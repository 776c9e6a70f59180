use Rattle.std.proofs.Common.{◌≡◌, ◌∙◌, ◌++◌, ◌∷◌, [], ap, subst, w64}
use Rattle.std.proofs.lemmas.Result.{on_ok_weaker}
use Rattle.std.proofs.lemmas.Int.{to_z-of_z}
use Rattle.timing_wheel.specs.declared.levels.Timer.{Timer}
use Rattle.timing_wheel.specs.Alarms.{time_at, alarm_of, alarms_of, by_deadline, IsPending}
use Rattle.timing_wheel.proofs.Alarms.{seen_added, pending_seen}
use Rattle.timing_wheel.proofs.wheel.Wheel.add.Goals as goal

pub add-requires-clause-fresh : goal.add-requires-clause-fresh
add-requires-clause-fresh c = λ pending.
    c.requires.fresh (subst (λ w. IsPending w.alarms c.args.key) c.self.view_is (pending_seen c.self.inside.levels.timers c.args.key pending))

pub returns-clause-added : goal.returns-clause-added
returns-clause-added c =
    let ts = c.self.inside.levels.timers in
    let t : Timer = record { deadline = c.tick_of.result; key = c.args.key } in
    let tick : time_at c.tick_of.result ≡ c.args.deadline = c.tick_of.ensures ∙ to_z-of_z w64 c.args.deadline c.ranges.deadline in
    let alarm : alarm_of t ≡ record { deadline = c.args.deadline; key = c.args.key } = ap (λ d. record { deadline = d; key = c.args.key }) tick in
    on_ok_weaker c.add.result
    (λ e. ap alarms_of e ∙ seen_added ts t ∙ ap (λ a. by_deadline (alarms_of ts ++ a ∷ [])) alarm
    ∙ ap (λ w. by_deadline (w.alarms ++ record { deadline = c.args.deadline; key = c.args.key } ∷ [])) c.self.view_is)
    c.add.ensures.added
