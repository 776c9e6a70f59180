use Rattle.std.proofs.Common.{◌≡◌, ◌≢◌, ◌∙◌, ◌⊎◌, ◌++◌, ◌≤◌, sym, ap, subst, arith}
use Rattle.timing_wheel.specs.Places.{place_of}
use Rattle.timing_wheel.specs.Slots.{slot}
use Rattle.timing_wheel.specs.Timers.{by_deadline, due_by, due_after, keys_of, OneLeaves}
use Rattle.timing_wheel.specs.Levels.{timers_of, NoneBelow, InPlace, IsFirstLater}
use Rattle.timing_wheel.proofs.Queue.{after_after, by_deadline_order}
use Rattle.timing_wheel.proofs.Turning.{drain_start, later_start, fired_start, queue_start, drain_inplace, drain_queue, moves_on, moved_from, moves_forward, told, empty_inplace, queue_later}
use Rattle.timing_wheel.proofs.Staying.{one_leaves}
use Rattle.std.proofs.Common.{append-nil}
use Rattle.timing_wheel.proofs.levels.Levels.advance.Goals.{then-slot-width-via-then-slot-width, then-slot-width-via-else-slot-width+then-is_later}
use Rattle.timing_wheel.proofs.levels.Levels.advance.Goals as goal

pub drain-self-inside-requires-clause-drained : goal.drain-self-inside-requires-clause-drained
drain-self-inside-requires-clause-drained c =
    let i = c.loop-self.invariant in
    let v = c.loop-self.self-inside.lists in
    let now = c.loop-self.self-inside.time in
    let at = c.first_filled-slot.result in
    let f = c.earliest.ensures.found in
    let m = c.earliest.result in
    let tick_is = c.min-tick.ensures in
    let first = subst (IsFirstLater v at c.args.to) c.if-is_later.false c.is_later.ensures in
    let after = i.inplace.after at f.0 f.1 f.2 in
    let ahead = moves_forward now c.args.to at m f.0 f.1 v i.inplace first f.2 f.3 i.forward in
    let from : now ≤ c.min-tick.result = omega (arith, ahead, tick_is) in
    let upto : c.min-tick.result ≤ m = omega (arith, tick_is) in
    let moved : (c.min-tick.result ≡ m) ⊎ (slot c.min-tick.result m ≢ at) = rw tick_is (moved_from now c.args.to at m f.0 f.1 v i.inplace first f.2 f.3
    c.earliest.ensures.least i.forward) in
    drain_start now c.min-tick.result at m f.0 f.1 v i.inplace c.first_filled-slot.ensures.below f.2 f.3 c.earliest.ensures.least from upto moved (place_of c.loop-self.self-inside.places) i.keyed
    (omega (arith, c.first_filled-slot.ensures.within, c.if-slot-width.false, c.width.ensures))

pub loop-self-preserved : goal.loop-self-preserved
loop-self-preserved c =
    let i = c.loop-self.invariant in
    let v = c.loop-self.self-inside.lists in
    let now = c.loop-self.self-inside.time in
    let at = c.first_filled-slot.result in
    let f = c.earliest.ensures.found in
    let m = c.earliest.result in
    let tick_is = c.min-tick.ensures in
    let first = subst (IsFirstLater v at c.args.to) c.if-is_later.false c.is_later.ensures in
    let after = i.inplace.after at f.0 f.1 f.2 in
    let ahead = moves_forward now c.args.to at m f.0 f.1 v i.inplace first f.2 f.3 i.forward in
    let from : now ≤ c.min-tick.result = omega (arith, ahead, tick_is) in
    let upto : c.min-tick.result ≤ m = omega (arith, tick_is) in
    let moved : (c.min-tick.result ≡ m) ⊎ (slot c.min-tick.result m ≢ at) = rw tick_is (moved_from now c.args.to at m f.0 f.1 v i.inplace first f.2 f.3
    c.earliest.ensures.least i.forward) in
    let d = c.drain-self-inside.ensures in
    let w = c.drain-self-inside.new.lists in
    let q = by_deadline (timers_of v.lists) in
    let find = place_of c.drain-self-inside.new.places in
    let next = drain_queue c.min-tick.result at find w d.drained d.none v d.later (later_start now c.min-tick.result at m f.0 f.1 v i.inplace c.first_filled-slot.ensures.below f.2 f.3 c.earliest.ensures.least from upto moved) in
    let le : c.min-tick.result ≤ c.args.to = omega (arith, tick_is) in
    record {
      inplace = drain_inplace c.min-tick.result at find w d.drained d.none;
      keyed = d.drained.keyed;
      below = d.below;
      within = omega (arith, d.within, d.drained.within);
      forward = le;
      due = ap (λ l. c.drain-self-inside.new.due.items ++ keys_of (due_by c.args.to l)) next
          ∙ told c.min-tick.result c.args.to q c.loop-self.due.items c.drain-self-inside.new.due.items le (by_deadline_order (timers_of v.lists))
          (queue_start now c.min-tick.result at m f.0 f.1 v i.inplace c.first_filled-slot.ensures.below f.2 f.3 c.earliest.ensures.least from upto moved)
          (d.fired ∙ ap (λ l. c.loop-self.due.items ++ l) (fired_start now c.min-tick.result at m f.0 f.1 v i.inplace c.first_filled-slot.ensures.below f.2 f.3 c.earliest.ensures.least from upto moved))
          ∙ i.due;
      rest = ap (due_after c.args.to) next ∙ after_after c.min-tick.result c.args.to q le ∙ i.rest;
      made = λ lt. (let m = i.made (omega (arith, c.first_filled-slot.ensures.within, c.if-slot-width.false, c.width.ensures)) in let n = d.width in omega (arith, m, n));
      spare = (let s = d.spare in omega (arith, s, i.spare));
      places = d.places i.places;
      room = d.room;
    }

pub loop-self-smaller : goal.loop-self-smaller
loop-self-smaller c =
    let i = c.loop-self.invariant in
    let v = c.loop-self.self-inside.lists in
    let now = c.loop-self.self-inside.time in
    let at = c.first_filled-slot.result in
    let f = c.earliest.ensures.found in
    let m = c.earliest.result in
    let tick_is = c.min-tick.ensures in
    let first = subst (IsFirstLater v at c.args.to) c.if-is_later.false c.is_later.ensures in
    let after = i.inplace.after at f.0 f.1 f.2 in
    let ahead = moves_forward now c.args.to at m f.0 f.1 v i.inplace first f.2 f.3 i.forward in
    let from : now ≤ c.min-tick.result = omega (arith, ahead, tick_is) in
    let upto : c.min-tick.result ≤ m = omega (arith, tick_is) in
    let moved : (c.min-tick.result ≡ m) ⊎ (slot c.min-tick.result m ≢ at) = rw tick_is (moved_from now c.args.to at m f.0 f.1 v i.inplace first f.2 f.3
    c.earliest.ensures.least i.forward) in
    omega (arith, ahead, tick_is, i.forward)

pub invariant_of-self-2 : goal.invariant_of-self-2
invariant_of-self-2 c =
    let i = c.loop-self.invariant in
    let v = c.loop-self.self-inside.lists in
    let now = c.loop-self.self-inside.time in
    let at = c.first_filled-slot.result in
    let inplace : InPlace c.args.to v =
    elim c.then-slot-width.branch [
      | then-slot-width-via-then-slot-width w ↦
          empty_inplace c.args.to v (subst (λ n. NoneBelow v n) (w.if-slot-width.true ∙ c.width.ensures) c.first_filled-slot.ensures.below)
      | then-slot-width-via-else-slot-width+then-is_later w ↦
          moves_on now c.args.to at v i.inplace c.first_filled-slot.ensures.below (subst (IsFirstLater v at c.args.to) w.if-is_later.true w.is_later.ensures) i.forward
    ] in
    (inplace, i.keyed, c.first_filled-slot.ensures.below, c.first_filled-slot.ensures.within, i.made, i.places)

pub returns-clause-due : goal.returns-clause-due
returns-clause-due c =
    let i = c.loop-self.invariant in
    let v = c.loop-self.self-inside.lists in
    let now = c.loop-self.self-inside.time in
    let at = c.first_filled-slot.result in
    let inplace : InPlace c.args.to v =
    elim c.then-slot-width.branch [
      | then-slot-width-via-then-slot-width w ↦
          empty_inplace c.args.to v (subst (λ n. NoneBelow v n) (w.if-slot-width.true ∙ c.width.ensures) c.first_filled-slot.ensures.below)
      | then-slot-width-via-else-slot-width+then-is_later w ↦
          moves_on now c.args.to at v i.inplace c.first_filled-slot.ensures.below (subst (IsFirstLater v at c.args.to) w.if-is_later.true w.is_later.ensures) i.forward
    ] in
    sym (append-nil c.loop-self.due.items)
    ∙ ap (λ l. c.loop-self.due.items ++ keys_of l) (sym (queue_later c.args.to v inplace).0) ∙ i.due

pub returns-clause-rest : goal.returns-clause-rest
returns-clause-rest c =
    let i = c.loop-self.invariant in
    let v = c.loop-self.self-inside.lists in
    let now = c.loop-self.self-inside.time in
    let at = c.first_filled-slot.result in
    let inplace : InPlace c.args.to v =
    elim c.then-slot-width.branch [
      | then-slot-width-via-then-slot-width w ↦
          empty_inplace c.args.to v (subst (λ n. NoneBelow v n) (w.if-slot-width.true ∙ c.width.ensures) c.first_filled-slot.ensures.below)
      | then-slot-width-via-else-slot-width+then-is_later w ↦
          moves_on now c.args.to at v i.inplace c.first_filled-slot.ensures.below (subst (IsFirstLater v at c.args.to) w.if-is_later.true w.is_later.ensures) i.forward
    ] in
    sym (queue_later c.args.to v inplace).1 ∙ i.rest

pub invariant_of-self : goal.invariant_of-self
invariant_of-self c =
    let forward = subst (λ w. w.time ≤ c.args.to) (sym c.self.view_is) c.requires.forward in (
      c.is_still.ensures.stays c.if-is_still.true c.self.inside.time c.self.invariant.0 forward,
      c.self.invariant.1,
      c.first_filled-first.ensures.below,
      c.first_filled-first.ensures.within,
      c.self.invariant.4,
      c.self.invariant.5,
    )

pub returns-then-is_still-clause-due : goal.returns-then-is_still-clause-due
returns-then-is_still-clause-due c =
    let forward = subst (λ w. w.time ≤ c.args.to) (sym c.self.view_is) c.requires.forward in
    let inplace = c.is_still.ensures.stays c.if-is_still.true c.self.inside.time c.self.invariant.0 forward in
    sym (append-nil c.args.due.now.items)
    ∙ ap (λ l. c.args.due.now.items ++ keys_of l) (sym (queue_later c.args.to c.self.inside.lists inplace).0)
    ∙ ap (λ w. c.args.due.now.items ++ keys_of (due_by c.args.to w.timers)) c.self.view_is

pub returns-then-is_still-clause-rest : goal.returns-then-is_still-clause-rest
returns-then-is_still-clause-rest c =
    let forward = subst (λ w. w.time ≤ c.args.to) (sym c.self.view_is) c.requires.forward in
    let inplace = c.is_still.ensures.stays c.if-is_still.true c.self.inside.time c.self.invariant.0 forward in
    sym (queue_later c.args.to c.self.inside.lists inplace).1 ∙ ap (λ w. due_after c.args.to w.timers) c.self.view_is

pub returns-in_err-reserve-clause-memory : goal.returns-in_err-reserve-clause-memory
returns-in_err-reserve-clause-memory c = λ _.
    let v = c.self.inside.lists in
    let now = c.self.inside.time in
    subst (λ w. OneLeaves w c.args.to) c.self.view_is
    (one_leaves now c.args.to v.spare v c.self.invariant.0 (c.is_still.ensures.moves c.if-is_still.false now c.self.invariant.0))
