use Rattle.std.proofs.Common.{◌≡◌, ◌∙◌, ◌+◌, [], ◌∷◌, ◌++◌, Some, None, ap, sym, subst, arith, slice_set}
use Rattle.slab.specs.Slab.{get}
use Rattle.index_lists.specs.Lists.{Has, list_at, count}
use Rattle.index_lists.proofs.Changes.{wide_ends, pushed, has_slot}
use Rattle.index_lists.proofs.lists.IndexLists.push_back.Goals as goal

pub invariant_of-self : goal.invariant_of-self
invariant_of-self g c =
    let ends = c.self.inside.ends.items in
    let slots = c.self.inside.links.slots in
    let put = c.insert_reserved-place in
    let list = c.args.list in
    let lt = wide_ends ends slots c.args.self.now.lists list (ap (λ v. v.lists) c.self.view_is) c.requires.list in
    let p = pushed ends slots c.set_before.new.links.slots (get put.new.self) list put.result c.args.row
    c.index.result.now c.set_before.new.ends c.self.invariant.0 lt c.index.ensures put.ensures.was_vacant
    put.ensures.updates.changed put.ensures.updates.others
    (λ k. c.set_before.ensures.links k ∙ c.set_after.ensures.links k)
    (c.set_before.ensures.ends
    ∙ ap (λ e. record { first = e.first; last = Some put.result }) c.set_after.ensures.ends) in
    let spare = ap (λ v. v.spare) c.self.view_is in (
      p.linked,
      omega (
        arith,
        put.ensures.len,
        put.ensures.capacity,
        c.set_after.ensures.count,
        c.set_after.ensures.capacity,
        c.set_before.ensures.count,
        c.set_before.ensures.capacity,
        c.self.invariant.1,
        c.requires.spare,
        spare,
      ),
      omega (
        arith,
        p.counted,
        put.ensures.len,
        c.set_after.ensures.count,
        c.set_before.ensures.count,
        c.self.invariant.2,
      ),
    )

pub returns-clause-vacant : goal.returns-clause-vacant
returns-clause-vacant g c = λ there.
    let place = c.insert_reserved-place.result in
    let seen = subst (λ v. Has (list_at v there.list) place there.row) (sym c.self.view_is) there.has in
    let s = c.self.inside in
    let l = has_slot s.ends.items s.links.slots there.list place there.row c.self.invariant.0 seen in
    let e : ◌≡◌ {A = _} None (Some l.0) = sym c.insert_reserved-place.ensures.was_vacant ∙ l.1 in cc

pub returns-clause-lists : goal.returns-clause-lists
returns-clause-lists g c =
    let ends = c.self.inside.ends.items in
    let slots = c.self.inside.links.slots in
    let put = c.insert_reserved-place in
    let list = c.args.list in
    let lt = wide_ends ends slots c.args.self.now.lists list (ap (λ v. v.lists) c.self.view_is) c.requires.list in
    let p = pushed ends slots c.set_before.new.links.slots (get put.new.self) list put.result c.args.row
    c.index.result.now c.set_before.new.ends c.self.invariant.0 lt c.index.ensures put.ensures.was_vacant
    put.ensures.updates.changed put.ensures.updates.others
    (λ k. c.set_before.ensures.links k ∙ c.set_after.ensures.links k)
    (c.set_before.ensures.ends
    ∙ ap (λ e. record { first = e.first; last = Some put.result }) c.set_after.ensures.ends) in
    p.lists ∙ ap (λ v. slice_set v.lists list (list_at v list ++ (put.result, c.args.row) ∷ [])) c.self.view_is

pub returns-clause-count : goal.returns-clause-count
returns-clause-count g c =
    let ends = c.self.inside.ends.items in
    let slots = c.self.inside.links.slots in
    let put = c.insert_reserved-place in
    let list = c.args.list in
    let lt = wide_ends ends slots c.args.self.now.lists list (ap (λ v. v.lists) c.self.view_is) c.requires.list in
    let p = pushed ends slots c.set_before.new.links.slots (get put.new.self) list put.result c.args.row
    c.index.result.now c.set_before.new.ends c.self.invariant.0 lt c.index.ensures put.ensures.was_vacant
    put.ensures.updates.changed put.ensures.updates.others
    (λ k. c.set_before.ensures.links k ∙ c.set_after.ensures.links k)
    (c.set_before.ensures.ends
    ∙ ap (λ e. record { first = e.first; last = Some put.result }) c.set_after.ensures.ends) in
    p.counted ∙ ap (λ v. count v + 1) c.self.view_is
