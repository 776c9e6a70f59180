use Rattle.std.proofs.Common.{◌≡◌, ◌<◌, ◌∙◌, ◌++◌, ◌∷◌, [], IsSome, ap, arith, refl, subst, sym}
use Rattle.timing_wheel.specs.Places.{place_of}
use Rattle.timing_wheel.specs.Slots.{slot}
use Rattle.timing_wheel.specs.Levels.{fired}
use Rattle.timing_wheel.proofs.Settling.{popped_from, put_from, pop_has, pop_shorter, fired_drained, fired_later, fired_keys, fired_below, is_lower, moved_drained, moved_later, moved_keys, moved_shorter, moved_below}
use Rattle.timing_wheel.proofs.drain.settle_first.Goals as goal

pub returns-then-timer-tick-clause-drained : goal.returns-then-timer-tick-clause-drained
returns-then-timer-tick-clause-drained c =
    let p = popped_from c.args.lists.now c.pop_front.new.self c.args.at c.in_ok-_place._place c.in_ok-_place.timer
    c.requires.drained.within c.in_ok-_place.ensures.popped c.in_ok-_place.ensures.vacant in
    fired_drained c.args.tick c.args.at c.in_ok-_place._place c.in_ok-_place.timer (place_of c.args.places.now) (place_of c.give_up-place.new.places) c.args.lists.now c.pop_front.new.self p
    c.requires.drained c.if-timer-tick.true c.give_up-place.ensures.finds

pub returns-then-timer-tick-clause-later : goal.returns-then-timer-tick-clause-later
returns-then-timer-tick-clause-later c =
    let p = popped_from c.args.lists.now c.pop_front.new.self c.args.at c.in_ok-_place._place c.in_ok-_place.timer
    c.requires.drained.within c.in_ok-_place.ensures.popped c.in_ok-_place.ensures.vacant in
    fired_later c.args.tick c.args.at c.in_ok-_place._place c.in_ok-_place.timer (place_of c.args.places.now) (place_of c.give_up-place.new.places) c.args.lists.now c.pop_front.new.self p
    c.requires.drained c.if-timer-tick.true c.give_up-place.ensures.finds

pub returns-then-timer-tick-clause-fired : goal.returns-then-timer-tick-clause-fired
returns-then-timer-tick-clause-fired c =
    let p = popped_from c.args.lists.now c.pop_front.new.self c.args.at c.in_ok-_place._place c.in_ok-_place.timer
    c.requires.drained.within c.in_ok-_place.ensures.popped c.in_ok-_place.ensures.vacant in
    let items : c.push-told.new.self.items ≡ c.args.due.now.items ++ c.in_ok-_place.timer.key ∷ [] = rw c.unwrap.ensures at c.push-told.ensures.items in
    ap (λ l. l ++ fired c.args.tick c.args.at c.pop_front.new.self) items
    ∙ fired_keys c.args.tick c.args.at c.in_ok-_place._place c.in_ok-_place.timer (place_of c.args.places.now) (place_of c.give_up-place.new.places) c.args.lists.now c.pop_front.new.self p
    c.requires.drained c.if-timer-tick.true c.give_up-place.ensures.finds c.args.due.now.items

pub returns-then-timer-tick-clause-fewer : goal.returns-then-timer-tick-clause-fewer
returns-then-timer-tick-clause-fewer c =
    let p = popped_from c.args.lists.now c.pop_front.new.self c.args.at c.in_ok-_place._place c.in_ok-_place.timer
    c.requires.drained.within c.in_ok-_place.ensures.popped c.in_ok-_place.ensures.vacant in
    pop_shorter c.args.lists.now c.pop_front.new.self c.args.at c.in_ok-_place._place c.in_ok-_place.timer p

pub returns-then-timer-tick-clause-below : goal.returns-then-timer-tick-clause-below
returns-then-timer-tick-clause-below c =
    let p = popped_from c.args.lists.now c.pop_front.new.self c.args.at c.in_ok-_place._place c.in_ok-_place.timer
    c.requires.drained.within c.in_ok-_place.ensures.popped c.in_ok-_place.ensures.vacant in
    fired_below c.args.tick c.args.at c.in_ok-_place._place c.in_ok-_place.timer (place_of c.args.places.now) (place_of c.give_up-place.new.places) c.args.lists.now c.pop_front.new.self p
    c.requires.drained c.if-timer-tick.true c.give_up-place.ensures.finds

pub slot_of-lower-requires : goal.slot_of-lower-requires
slot_of-lower-requires c =
    let p = popped_from c.args.lists.now c.pop_front.new.self c.args.at c.in_ok-_place._place c.in_ok-_place.timer
    c.requires.drained.within c.in_ok-_place.ensures.popped c.in_ok-_place.ensures.vacant in
    (let l = (c.requires.drained.left c.in_ok-_place._place c.in_ok-_place.timer
    (pop_has c.args.lists.now c.pop_front.new.self c.args.at c.in_ok-_place._place c.in_ok-_place.timer p)).0 in omega (arith, l, c.if-timer-tick.false))

pub push_back-same-requires-clause-list : goal.push_back-same-requires-clause-list
push_back-same-requires-clause-list c =
    let p = popped_from c.args.lists.now c.pop_front.new.self c.args.at c.in_ok-_place._place c.in_ok-_place.timer
    c.requires.drained.within c.in_ok-_place.ensures.popped c.in_ok-_place.ensures.vacant in
    (let h = c.requires.drained.left c.in_ok-_place._place c.in_ok-_place.timer
    (pop_has c.args.lists.now c.pop_front.new.self c.args.at c.in_ok-_place._place c.in_ok-_place.timer p) in let l = h.0 in
    let low = h.1 (omega (arith, l, c.if-timer-tick.false)) in let k = p.width in omega (arith, k, low, c.requires.drained.within, c.slot_of-lower.ensures.slot))

pub returns-clause-drained : goal.returns-clause-drained
returns-clause-drained c =
    let p = popped_from c.args.lists.now c.pop_front.new.self c.args.at c.in_ok-_place._place c.in_ok-_place.timer
    c.requires.drained.within c.in_ok-_place.ensures.popped c.in_ok-_place.ensures.vacant in
    let low : slot c.args.tick c.in_ok-_place.timer.deadline < c.args.at = (let h = c.requires.drained.left c.in_ok-_place._place c.in_ok-_place.timer
    (pop_has c.args.lists.now c.pop_front.new.self c.args.at c.in_ok-_place._place c.in_ok-_place.timer p) in let l = h.0 in h.1 (omega (arith, l, c.if-timer-tick.false))) in
    let same : c.push_back-same.result ≡ c.in_ok-_place._place = c.push_back-same.ensures.place ∙ c.in_ok-_place.ensures.next in
    let u = put_from c.pop_front.new.self c.push_back-same.new.self (slot c.args.tick c.in_ok-_place.timer.deadline) c.in_ok-_place._place c.in_ok-_place.timer
    (let k = p.width in omega (arith, k, low, c.requires.drained.within))
    (rw (← c.slot_of-lower.ensures.slot, ← same) c.push_back-same.ensures.lists) in
    moved_drained c.args.tick c.args.at c.in_ok-_place._place c.in_ok-_place.timer (place_of c.args.places.now) c.args.lists.now c.pop_front.new.self c.push_back-same.new.self p u
    c.requires.drained c.if-timer-tick.false

pub returns-clause-later : goal.returns-clause-later
returns-clause-later c =
    let p = popped_from c.args.lists.now c.pop_front.new.self c.args.at c.in_ok-_place._place c.in_ok-_place.timer
    c.requires.drained.within c.in_ok-_place.ensures.popped c.in_ok-_place.ensures.vacant in
    let low : slot c.args.tick c.in_ok-_place.timer.deadline < c.args.at = (let h = c.requires.drained.left c.in_ok-_place._place c.in_ok-_place.timer
    (pop_has c.args.lists.now c.pop_front.new.self c.args.at c.in_ok-_place._place c.in_ok-_place.timer p) in let l = h.0 in h.1 (omega (arith, l, c.if-timer-tick.false))) in
    let same : c.push_back-same.result ≡ c.in_ok-_place._place = c.push_back-same.ensures.place ∙ c.in_ok-_place.ensures.next in
    let u = put_from c.pop_front.new.self c.push_back-same.new.self (slot c.args.tick c.in_ok-_place.timer.deadline) c.in_ok-_place._place c.in_ok-_place.timer
    (let k = p.width in omega (arith, k, low, c.requires.drained.within))
    (rw (← c.slot_of-lower.ensures.slot, ← same) c.push_back-same.ensures.lists) in
    moved_later c.args.tick c.args.at c.in_ok-_place._place c.in_ok-_place.timer (place_of c.args.places.now) c.args.lists.now c.pop_front.new.self c.push_back-same.new.self p u
    c.requires.drained c.if-timer-tick.false

pub returns-clause-fired : goal.returns-clause-fired
returns-clause-fired c =
    let p = popped_from c.args.lists.now c.pop_front.new.self c.args.at c.in_ok-_place._place c.in_ok-_place.timer
    c.requires.drained.within c.in_ok-_place.ensures.popped c.in_ok-_place.ensures.vacant in
    let low : slot c.args.tick c.in_ok-_place.timer.deadline < c.args.at = (let h = c.requires.drained.left c.in_ok-_place._place c.in_ok-_place.timer
    (pop_has c.args.lists.now c.pop_front.new.self c.args.at c.in_ok-_place._place c.in_ok-_place.timer p) in let l = h.0 in h.1 (omega (arith, l, c.if-timer-tick.false))) in
    let same : c.push_back-same.result ≡ c.in_ok-_place._place = c.push_back-same.ensures.place ∙ c.in_ok-_place.ensures.next in
    let u = put_from c.pop_front.new.self c.push_back-same.new.self (slot c.args.tick c.in_ok-_place.timer.deadline) c.in_ok-_place._place c.in_ok-_place.timer
    (let k = p.width in omega (arith, k, low, c.requires.drained.within))
    (rw (← c.slot_of-lower.ensures.slot, ← same) c.push_back-same.ensures.lists) in
    ap (λ l. c.args.due.now.items ++ l) (moved_keys c.args.tick c.args.at c.in_ok-_place._place c.in_ok-_place.timer (place_of c.args.places.now) c.args.lists.now c.pop_front.new.self c.push_back-same.new.self p u
    c.requires.drained c.if-timer-tick.false)

pub returns-clause-fewer : goal.returns-clause-fewer
returns-clause-fewer c =
    let p = popped_from c.args.lists.now c.pop_front.new.self c.args.at c.in_ok-_place._place c.in_ok-_place.timer
    c.requires.drained.within c.in_ok-_place.ensures.popped c.in_ok-_place.ensures.vacant in
    let low : slot c.args.tick c.in_ok-_place.timer.deadline < c.args.at = (let h = c.requires.drained.left c.in_ok-_place._place c.in_ok-_place.timer
    (pop_has c.args.lists.now c.pop_front.new.self c.args.at c.in_ok-_place._place c.in_ok-_place.timer p) in let l = h.0 in h.1 (omega (arith, l, c.if-timer-tick.false))) in
    let same : c.push_back-same.result ≡ c.in_ok-_place._place = c.push_back-same.ensures.place ∙ c.in_ok-_place.ensures.next in
    let u = put_from c.pop_front.new.self c.push_back-same.new.self (slot c.args.tick c.in_ok-_place.timer.deadline) c.in_ok-_place._place c.in_ok-_place.timer
    (let k = p.width in omega (arith, k, low, c.requires.drained.within))
    (rw (← c.slot_of-lower.ensures.slot, ← same) c.push_back-same.ensures.lists) in
    moved_shorter c.args.tick c.args.at c.in_ok-_place._place c.in_ok-_place.timer (place_of c.args.places.now) c.args.lists.now c.pop_front.new.self c.push_back-same.new.self p u
    c.requires.drained c.if-timer-tick.false

pub returns-clause-lower : goal.returns-clause-lower
returns-clause-lower c =
    let p = popped_from c.args.lists.now c.pop_front.new.self c.args.at c.in_ok-_place._place c.in_ok-_place.timer
    c.requires.drained.within c.in_ok-_place.ensures.popped c.in_ok-_place.ensures.vacant in
    let low : slot c.args.tick c.in_ok-_place.timer.deadline < c.args.at = (let h = c.requires.drained.left c.in_ok-_place._place c.in_ok-_place.timer
    (pop_has c.args.lists.now c.pop_front.new.self c.args.at c.in_ok-_place._place c.in_ok-_place.timer p) in let l = h.0 in h.1 (omega (arith, l, c.if-timer-tick.false))) in
    let same : c.push_back-same.result ≡ c.in_ok-_place._place = c.push_back-same.ensures.place ∙ c.in_ok-_place.ensures.next in
    let u = put_from c.pop_front.new.self c.push_back-same.new.self (slot c.args.tick c.in_ok-_place.timer.deadline) c.in_ok-_place._place c.in_ok-_place.timer
    (let k = p.width in omega (arith, k, low, c.requires.drained.within))
    (rw (← c.slot_of-lower.ensures.slot, ← same) c.push_back-same.ensures.lists) in
    (let l = is_lower c.args.tick c.args.at c.in_ok-_place._place c.in_ok-_place.timer (place_of c.args.places.now) c.args.lists.now c.pop_front.new.self c.push_back-same.new.self p u
    c.requires.drained c.if-timer-tick.false in omega (arith, l, c.slot_of-lower.ensures.slot))

pub returns-clause-below : goal.returns-clause-below
returns-clause-below c =
    let p = popped_from c.args.lists.now c.pop_front.new.self c.args.at c.in_ok-_place._place c.in_ok-_place.timer
    c.requires.drained.within c.in_ok-_place.ensures.popped c.in_ok-_place.ensures.vacant in
    let low : slot c.args.tick c.in_ok-_place.timer.deadline < c.args.at = (let h = c.requires.drained.left c.in_ok-_place._place c.in_ok-_place.timer
    (pop_has c.args.lists.now c.pop_front.new.self c.args.at c.in_ok-_place._place c.in_ok-_place.timer p) in let l = h.0 in h.1 (omega (arith, l, c.if-timer-tick.false))) in
    let same : c.push_back-same.result ≡ c.in_ok-_place._place = c.push_back-same.ensures.place ∙ c.in_ok-_place.ensures.next in
    let u = put_from c.pop_front.new.self c.push_back-same.new.self (slot c.args.tick c.in_ok-_place.timer.deadline) c.in_ok-_place._place c.in_ok-_place.timer
    (let k = p.width in omega (arith, k, low, c.requires.drained.within))
    (rw (← c.slot_of-lower.ensures.slot, ← same) c.push_back-same.ensures.lists) in
    rw c.slot_of-lower.ensures.slot (moved_below c.args.tick c.args.at c.in_ok-_place._place c.in_ok-_place.timer (place_of c.args.places.now) c.args.lists.now c.pop_front.new.self c.push_back-same.new.self p u
    c.requires.drained c.if-timer-tick.false)

pub give_up-place-requires : goal.give_up-place-requires
give_up-place-requires c =
    let p = popped_from c.args.lists.now c.pop_front.new.self c.args.at c.in_ok-_place._place c.in_ok-_place.timer
    c.requires.drained.within c.in_ok-_place.ensures.popped c.in_ok-_place.ensures.vacant in
    record {
      there = subst IsSome (sym (c.requires.drained.keyed.kept c.args.at c.in_ok-_place._place c.in_ok-_place.timer
          (pop_has c.args.lists.now c.pop_front.new.self c.args.at c.in_ok-_place._place c.in_ok-_place.timer p))) refl;
    }
