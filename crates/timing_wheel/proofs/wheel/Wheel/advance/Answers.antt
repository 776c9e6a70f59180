use Rattle.std.proofs.Common.{◌≡◌, ◌∙◌, ◌++◌, sym, ap, subst, w64}
use Rattle.std.proofs.lemmas.Result.{on_ok_weaker}
use Rattle.std.proofs.lemmas.Int.{to_z-of_z}
use Rattle.timing_wheel.specs.Alarms.{time_at, alarms_of, due_by, due_after, keys_of, OneLeaves}
use Rattle.timing_wheel.specs.Timers.{due_by as timers_due_by}
use Rattle.timing_wheel.proofs.Alarms.{seen_due, seen_rest, seen_keys}
use Rattle.timing_wheel.proofs.Staying.{seen, leaves_seen}
use Rattle.timing_wheel.proofs.wheel.Wheel.advance.Goals as goal

pub returns-clause-due : goal.returns-clause-due
returns-clause-due c =
    let ts = c.self.inside.levels.timers in
    let tick : time_at c.tick_of.result ≡ c.args.to = c.tick_of.ensures ∙ to_z-of_z w64 c.args.to c.ranges.to in
    on_ok_weaker c.advance.result
    (λ e. e ∙ ap (λ l. c.args.due.now.items ++ l) (sym (seen_keys (timers_due_by c.tick_of.result ts)) ∙ ap keys_of (sym (seen_due ts c.tick_of.result))
    ∙ ap (λ t. keys_of (due_by t (alarms_of ts))) tick ∙ ap (λ w. keys_of (due_by c.args.to w.alarms)) c.self.view_is))
    c.advance.ensures.due

pub returns-clause-rest : goal.returns-clause-rest
returns-clause-rest c =
    let ts = c.self.inside.levels.timers in
    let tick : time_at c.tick_of.result ≡ c.args.to = c.tick_of.ensures ∙ to_z-of_z w64 c.args.to c.ranges.to in
    on_ok_weaker c.advance.result
    (λ e. ap alarms_of e ∙ sym (seen_rest ts c.tick_of.result) ∙ ap (λ t. due_after t (alarms_of ts)) tick
    ∙ ap (λ w. due_after c.args.to w.alarms) c.self.view_is)
    c.advance.ensures.rest

pub returns-clause-memory : goal.returns-clause-memory
returns-clause-memory c = λ failed.
    let p = c.self.inside.levels in
    let tick : time_at c.tick_of.result ≡ c.args.to = c.tick_of.ensures ∙ to_z-of_z w64 c.args.to c.ranges.to in
    subst (λ w. OneLeaves w c.args.to) c.self.view_is
    (subst (OneLeaves (seen p)) tick (leaves_seen p c.tick_of.result (c.advance.ensures.memory failed)))
