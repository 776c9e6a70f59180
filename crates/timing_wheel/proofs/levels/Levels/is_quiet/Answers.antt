use Rattle.std.proofs.Common.{◌≡◌, ◌≤◌, [], sym, subst}
use Rattle.timing_wheel.specs.Timers.{due_by, AllStay, OneLeaves}
use Rattle.timing_wheel.proofs.Staying.{all_stay, one_leaves}
use Rattle.timing_wheel.proofs.Turning.{queue_later}
use Rattle.timing_wheel.proofs.levels.Levels.is_quiet.Goals as goal

pub returns-clause-quiet : goal.returns-clause-quiet
returns-clause-quiet c = λ yes_is.
    let v = c.self.inside.lists in
    let forward = subst (λ w. w.time ≤ c.args.to) (sym c.self.view_is) c.requires.forward in
    let inplace = c.is_still.ensures.stays yes_is c.self.inside.time c.self.invariant.0 forward in
    subst (λ w. due_by c.args.to w.timers ≡ []) c.self.view_is (queue_later c.args.to v inplace).0

pub returns-clause-stays : goal.returns-clause-stays
returns-clause-stays c = λ yes_is.
    let v = c.self.inside.lists in
    let now = c.self.inside.time in
    let forward = subst (λ w. w.time ≤ c.args.to) (sym c.self.view_is) c.requires.forward in
    subst (λ w. AllStay w c.args.to) c.self.view_is
    (all_stay now c.args.to v.spare v c.self.invariant.0 (c.is_still.ensures.stays yes_is now c.self.invariant.0 forward))

pub returns-clause-leaves : goal.returns-clause-leaves
returns-clause-leaves c = λ no_is.
    let v = c.self.inside.lists in
    let now = c.self.inside.time in
    subst (λ w. OneLeaves w c.args.to) c.self.view_is
    (one_leaves now c.args.to v.spare v c.self.invariant.0 (c.is_still.ensures.moves no_is now c.self.invariant.0))
