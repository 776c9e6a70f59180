use Rattle.std.proofs.Common.{◌≡◌, ◌∙◌, Some, IsSome, sym, ap, subst, refl, arith, length}
use Rattle.timing_wheel.specs.Places.{place_of}
use Rattle.std.proofs.lemmas.List.{length-map}
use Rattle.index_lists.specs.Lists.{without}
use Rattle.timing_wheel.specs.Timers.{IsPending, but}
use Rattle.timing_wheel.specs.Levels.{timers_of}
use Rattle.timing_wheel.proofs.Keeping.{has_width, queue_pending, pending_has, off_inplace, off_keyed, off_below, off_queue}
use Rattle.timing_wheel.proofs.levels.Levels.remove.Goals as goal

pub give_up-place-requires : goal.give_up-place-requires
give_up-place-requires c =
    let pending = subst (λ w. IsPending w.timers c.args.key) (sym c.self.view_is) c.requires.pending in
    let h = pending_has c.self.inside.lists.lists c.args.key (queue_pending (timers_of c.self.inside.lists.lists) c.args.key pending) in
    let k = c.self.invariant.1.kept h.0 h.1 h.2 h.3 in
    record { there = subst IsSome (sym (ap (place_of c.self.inside.places) (sym h.4) ∙ k)) refl }

pub remove-timer-requires : goal.remove-timer-requires
remove-timer-requires c =
    let k = c.self.invariant.1.found c.args.key c.give_up-place.result c.give_up-place.ensures.value in
    record { list = k.at; row = k.timer; has = k.has }

pub invariant_of-self : goal.invariant_of-self
invariant_of-self c =
    let v = c.self.inside.lists in
    let w = c.remove-timer.new.self in
    let is : place_of c.self.inside.places c.args.key ≡ Some c.give_up-place.result = c.give_up-place.ensures.value in (
      off_inplace c.self.inside.time c.give_up-place.result c.args.key c.remove-timer.result (place_of c.self.inside.places) (place_of c.give_up-place.new.places)
          v w c.self.invariant.0 c.self.invariant.1 is c.remove-timer.ensures.lists c.remove-timer.ensures.row c.give_up-place.ensures.finds,
      off_keyed c.self.inside.time c.give_up-place.result c.args.key c.remove-timer.result (place_of c.self.inside.places) (place_of c.give_up-place.new.places)
          v w c.self.invariant.0 c.self.invariant.1 is c.remove-timer.ensures.lists c.remove-timer.ensures.row c.give_up-place.ensures.finds,
      off_below c.self.inside.time c.give_up-place.result c.args.key c.remove-timer.result (place_of c.self.inside.places) (place_of c.give_up-place.new.places)
          v w c.self.invariant.0 c.self.invariant.1 is c.remove-timer.ensures.lists c.remove-timer.ensures.row c.give_up-place.ensures.finds
          c.self.inside.least c.self.invariant.2,
      (let e = ap length c.remove-timer.ensures.lists in let l = length-map v.lists (without c.give_up-place.result) in omega (arith, e, l, c.self.invariant.3)),
      (λ lt. let k = c.self.invariant.1.found c.args.key c.give_up-place.result is in
          let m = c.self.invariant.4 (has_width v k.at c.give_up-place.result k.timer k.has) in
          let e = ap length c.remove-timer.ensures.lists in let l = length-map v.lists (without c.give_up-place.result) in omega (arith, e, l, m)),
      omega (arith, c.remove-timer.ensures.spare, c.give_up-place.ensures.spare, c.self.invariant.5),
    )

pub returns-clause-off : goal.returns-clause-off
returns-clause-off c =
    let v = c.self.inside.lists in
    let w = c.remove-timer.new.self in
    let is : place_of c.self.inside.places c.args.key ≡ Some c.give_up-place.result = c.give_up-place.ensures.value in
    off_queue c.self.inside.time c.give_up-place.result c.args.key c.remove-timer.result (place_of c.self.inside.places) (place_of c.give_up-place.new.places)
    v w c.self.invariant.0 c.self.invariant.1 is c.remove-timer.ensures.lists c.remove-timer.ensures.row c.give_up-place.ensures.finds
    ∙ ap (λ x. but c.args.key x.timers) c.self.view_is
