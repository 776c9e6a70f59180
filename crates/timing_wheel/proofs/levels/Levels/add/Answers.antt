use Rattle.std.proofs.Common.{◌≡◌, ◌∙◌, ◌++◌, ◌∷◌, [], ◌<◌, sym, ap, subst, refl, inl, inr, arith, length, slice_set}
use Rattle.timing_wheel.specs.Places.{place_of}
use Rattle.index_lists.specs.Lists.{list_at}
use Rattle.timing_wheel.specs.declared.levels.Timer.{Timer}
use Rattle.timing_wheel.specs.Slots.{slot}
use Rattle.timing_wheel.specs.Timers.{by_deadline, IsPending}
use Rattle.timing_wheel.specs.Levels.{timers_of}
use Rattle.timing_wheel.proofs.Slots.{within}
use Rattle.timing_wheel.proofs.Settling.{put_from}
use Rattle.timing_wheel.proofs.Keeping.{none_kept, same_inplace, same_keyed, same_below, added_inplace, added_keyed, added_below, added_queue}
use Rattle.timing_wheel.proofs.levels.Levels.add.Goals as goal

pub invariant_of-self : goal.invariant_of-self
invariant_of-self c =
    let v = c.self.inside.lists in (
      c.self.invariant.0,
      same_keyed v v (λ o. refl) (place_of c.self.inside.places) (place_of c.make_place.new.places) (λ q. c.make_place.ensures.finds q) c.self.invariant.1,
      c.self.invariant.2,
      c.self.invariant.3,
      c.self.invariant.4,
      omega (arith, c.make_place.ensures.spare, c.self.invariant.5),
    )

pub invariant_of-self-in_err-make_room : goal.invariant_of-self-in_err-make_room
invariant_of-self-in_err-make_room c =
    let v = c.self.inside.lists in
    let r = c.make_room.new.lists in
    let k = c.make_room.ensures.timers in (
      same_inplace v r k.lists c.self.inside.time c.self.invariant.0,
      same_keyed v r k.lists (place_of c.self.inside.places) (place_of c.make_place.new.places) (λ q. c.make_place.ensures.finds q) c.self.invariant.1,
      same_below v r k.lists c.self.inside.least c.self.invariant.2,
      (let n = k.width in omega (arith, n, c.self.invariant.3)),
      c.make_room.ensures.made c.self.invariant.4,
      omega (arith, c.in_err-make_room.ensures.err_spare, c.make_place.ensures.spare, c.self.invariant.5),
    )

pub invariant_of-self-2 : goal.invariant_of-self-2
invariant_of-self-2 c =
    let v = c.self.inside.lists in
    let r = c.make_room.new.lists in
    let k = c.make_room.ensures.timers in
    let w = c.push_back-place.new.self in
    let a : Timer = record { deadline = c.args.deadline; key = c.args.key } in
    let i = same_inplace v r k.lists c.self.inside.time c.self.invariant.0 in
    let keyed = same_keyed v r k.lists (place_of c.self.inside.places) (place_of c.make_place.new.places) (λ q. c.make_place.ensures.finds q) c.self.invariant.1 in
    let wide : slot c.self.inside.time c.args.deadline < length r.lists =
    (let s = within c.self.inside.time c.args.deadline in omega (arith, s, c.in_ok-make_room.ensures.width)) in
    let u = put_from r w (slot c.self.inside.time c.args.deadline) c.push_back-place.result a wide
    (subst (λ n. w.lists ≡ slice_set r.lists n (list_at r n ++ (c.push_back-place.result, a) ∷ [])) c.slot_of-slot.ensures.slot c.push_back-place.ensures.lists) in
    let after = subst (λ x. x.time < c.args.deadline) (sym c.self.view_is) c.requires.after in
    let fresh = λ (p : IsPending (by_deadline (timers_of r.lists)) c.args.key). c.requires.fresh (subst (λ x. IsPending x.timers c.args.key) c.self.view_is
    (subst (λ ts. IsPending (by_deadline ts) c.args.key) k.timers p)) in
    let finds = c.keep.ensures.finds in (
      added_inplace c.self.inside.time c.push_back-place.result a (place_of c.make_place.new.places) (place_of c.keep.new.places) r w u i keyed after c.ranges.deadline.fits fresh finds,
      added_keyed c.self.inside.time c.push_back-place.result a (place_of c.make_place.new.places) (place_of c.keep.new.places) r w u i keyed after c.ranges.deadline.fits fresh finds,
      added_below c.self.inside.time c.push_back-place.result a (place_of c.make_place.new.places) (place_of c.keep.new.places) r w u i keyed after c.ranges.deadline.fits fresh finds c.min-self-inside.result (omega (arith, c.min-self-inside.ensures, c.slot_of-slot.ensures.slot))
          (λ o lt. same_below v r k.lists c.self.inside.least c.self.invariant.2 o (omega (arith, c.min-self-inside.ensures, lt))),
      (let n = u.width in let s = within c.self.inside.time c.args.deadline in
          omega (arith, n, wide, c.min-self-inside.ensures, c.slot_of-slot.ensures.slot)),
      (let n = u.width in λ lt. omega (arith, n, c.in_ok-make_room.ensures.width)),
      elim c.make_room.ensures.exact [
        | inl same ↦ omega (arith, same, c.push_back-place.ensures.spare, c.keep.ensures.spare, c.make_place.ensures.spare, c.self.invariant.5)
        | inr one ↦ omega (arith, one, c.push_back-place.ensures.spare, c.keep.ensures.spare, c.in_ok-make_place.ensures.room)
      ],
    )

pub returns-clause-added : goal.returns-clause-added
returns-clause-added c =
    let v = c.self.inside.lists in
    let r = c.make_room.new.lists in
    let k = c.make_room.ensures.timers in
    let w = c.push_back-place.new.self in
    let a : Timer = record { deadline = c.args.deadline; key = c.args.key } in
    let i = same_inplace v r k.lists c.self.inside.time c.self.invariant.0 in
    let keyed = same_keyed v r k.lists (place_of c.self.inside.places) (place_of c.make_place.new.places) (λ q. c.make_place.ensures.finds q) c.self.invariant.1 in
    let wide : slot c.self.inside.time c.args.deadline < length r.lists =
    (let s = within c.self.inside.time c.args.deadline in omega (arith, s, c.in_ok-make_room.ensures.width)) in
    let u = put_from r w (slot c.self.inside.time c.args.deadline) c.push_back-place.result a wide
    (subst (λ n. w.lists ≡ slice_set r.lists n (list_at r n ++ (c.push_back-place.result, a) ∷ [])) c.slot_of-slot.ensures.slot c.push_back-place.ensures.lists) in
    let after = subst (λ x. x.time < c.args.deadline) (sym c.self.view_is) c.requires.after in
    let fresh = λ (p : IsPending (by_deadline (timers_of r.lists)) c.args.key). c.requires.fresh (subst (λ x. IsPending x.timers c.args.key) c.self.view_is
    (subst (λ ts. IsPending (by_deadline ts) c.args.key) k.timers p)) in
    let finds = c.keep.ensures.finds in
    added_queue c.self.inside.time c.push_back-place.result a (place_of c.make_place.new.places) (place_of c.keep.new.places) r w u i keyed after c.ranges.deadline.fits fresh finds
    ∙ ap (λ ts. by_deadline (by_deadline ts ++ a ∷ [])) k.timers
    ∙ ap (λ x. by_deadline (x.timers ++ a ∷ [])) c.self.view_is

pub keep-requires-clause-absent : goal.keep-requires-clause-absent
keep-requires-clause-absent c =
    let v = c.self.inside.lists in
    let r = c.make_room.new.lists in
    let k = c.make_room.ensures.timers in
    let keyed = same_keyed v r k.lists (place_of c.self.inside.places) (place_of c.make_place.new.places) (λ q. c.make_place.ensures.finds q) c.self.invariant.1 in
    none_kept (place_of c.make_place.new.places) r c.args.key keyed (λ p. c.requires.fresh (subst (λ x. IsPending x.timers c.args.key) c.self.view_is
    (subst (λ ts. IsPending (by_deadline ts) c.args.key) k.timers p)))
