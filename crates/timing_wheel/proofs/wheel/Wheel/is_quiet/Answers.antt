use Rattle.std.proofs.Common.{◌≡◌, ◌∙◌, sym, ap, subst, w64}
use Rattle.std.proofs.lemmas.Int.{to_z-of_z}
use Rattle.timing_wheel.specs.Alarms.{time_at, alarms_of, due_by, AllStay, OneLeaves}
use Rattle.timing_wheel.proofs.Alarms.{seen_due}
use Rattle.timing_wheel.proofs.Staying.{seen, stay_seen, leaves_seen}
use Rattle.timing_wheel.proofs.wheel.Wheel.is_quiet.Goals as goal

pub returns-clause-quiet : goal.returns-clause-quiet
returns-clause-quiet c = λ yes_is.
    let ts = c.self.inside.levels.timers in
    let tick : time_at c.tick_of.result ≡ c.args.to = c.tick_of.ensures ∙ to_z-of_z w64 c.args.to c.ranges.to in
    ap (λ w. due_by c.args.to w.alarms) (sym c.self.view_is) ∙ ap (λ t. due_by t (alarms_of ts)) (sym tick)
    ∙ seen_due ts c.tick_of.result ∙ ap alarms_of (c.is_quiet.ensures.quiet yes_is)

pub returns-clause-stays : goal.returns-clause-stays
returns-clause-stays c = λ yes_is.
    let p = c.self.inside.levels in
    let tick : time_at c.tick_of.result ≡ c.args.to = c.tick_of.ensures ∙ to_z-of_z w64 c.args.to c.ranges.to in
    subst (λ w. AllStay w c.args.to) c.self.view_is
    (subst (AllStay (seen p)) tick (stay_seen p c.tick_of.result (c.is_quiet.ensures.stays yes_is)))

pub returns-clause-leaves : goal.returns-clause-leaves
returns-clause-leaves c = λ no_is.
    let p = c.self.inside.levels in
    let tick : time_at c.tick_of.result ≡ c.args.to = c.tick_of.ensures ∙ to_z-of_z w64 c.args.to c.ranges.to in
    subst (λ w. OneLeaves w c.args.to) c.self.view_is
    (subst (OneLeaves (seen p)) tick (leaves_seen p c.tick_of.result (c.is_quiet.ensures.leaves no_is)))
