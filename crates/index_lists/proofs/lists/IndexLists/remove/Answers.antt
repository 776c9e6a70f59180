use Rattle.std.proofs.Common.{◌≡◌, ◌∙◌, ◌<◌, Some, IsSome, length, map, refl, ap, sym, subst, arith}
use Rattle.slab.specs.Slab.{get}
use Rattle.index_lists.specs.Links.{before_set, last_set}
use Rattle.index_lists.specs.Lists.{Has, links_at, list_at, count, without}
use Rattle.index_lists.proofs.Changes.{taken, own_list, has_slot, wide_has}
use Rattle.index_lists.proofs.lists.IndexLists.remove.Goals as goal

pub unwrap-list-requires : goal.unwrap-list-requires
unwrap-list-requires g c =
    let place = c.args.place in
    let there = c.requires in
    let has = subst (λ v. Has (list_at v there.list) place there.row) (sym c.self.view_is) there.has in
    let s = c.self.inside in
    let l = has_slot s.ends.items s.links.slots there.list place there.row c.self.invariant.0 has in
    subst IsSome (sym (c.try_remove.ensures.value ∙ l.1)) refl

pub index-requires : goal.index-requires
index-requires g c =
    let place = c.args.place in
    let there = c.requires in
    let has = subst (λ v. Has (list_at v there.list) place there.row) (sym c.self.view_is) there.has in
    let ends = c.self.inside.ends.items in
    let slots = c.self.inside.links.slots in
    let l = c.unwrap-list.result in
    let at : links_at slots place ≡ Some l = sym c.try_remove.ensures.value ∙ c.unwrap-list.ensures in
    let own = own_list ends slots there.list place there.row l c.self.invariant.0 has at in
    let lt = subst (λ n. n < length ends) (sym own.0) (wide_has ends slots there.list place there.row has) in
    omega (arith, lt, c.self.inside.ends.ok)

pub index_mut-requires : goal.index_mut-requires
index_mut-requires g c =
    let place = c.args.place in
    let there = c.requires in
    let has = subst (λ v. Has (list_at v there.list) place there.row) (sym c.self.view_is) there.has in
    let ends = c.self.inside.ends.items in
    let slots = c.self.inside.links.slots in
    let l = c.unwrap-list.result in
    let at : links_at slots place ≡ Some l = sym c.try_remove.ensures.value ∙ c.unwrap-list.ensures in
    let own = own_list ends slots there.list place there.row l c.self.invariant.0 has at in
    let lt = subst (λ n. n < length ends) (sym own.0) (wide_has ends slots there.list place there.row has) in
    omega (arith, lt, c.self.inside.ends.ok)

pub invariant_of-self : goal.invariant_of-self
invariant_of-self g c =
    let ends = c.self.inside.ends.items in
    let slots = c.self.inside.links.slots in
    let place = c.args.place in
    let there = c.requires in
    let has = subst (λ v. Has (list_at v there.list) place there.row) (sym c.self.view_is) there.has in
    let l = c.unwrap-list.result in
    let at : links_at slots place ≡ Some l = sym c.try_remove.ensures.value ∙ c.unwrap-list.ensures in
    let off = c.try_remove.ensures.updates in
    let t = taken ends slots c.set_before.new.links.slots (get c.try_remove.new.self) there.list place there.row l
    c.index.result.now c.set_before.new.ends c.self.invariant.0 has at c.index.ensures off.changed off.others
    (λ k. c.set_before.ensures.links k ∙ ap (before_set l.after l.before k) (c.set_after.ensures.links k))
    (c.set_before.ensures.ends ∙ ap (last_set l.after l.before) c.set_after.ensures.ends) in
    let len = rw c.unwrap-list.ensures at c.try_remove.ensures.len in (
      t.linked,
      omega (
        arith,
        len,
        c.try_remove.ensures.capacity,
        c.set_after.ensures.count,
        c.set_after.ensures.capacity,
        c.set_before.ensures.count,
        c.set_before.ensures.capacity,
        c.self.invariant.1,
      ),
      omega (arith, t.counted, len, c.set_after.ensures.count, c.set_before.ensures.count, c.self.invariant.2),
    )

pub returns-clause-row : goal.returns-clause-row
returns-clause-row g c = λ list row has.
    let seen = subst (λ v. Has (list_at v list) c.args.place row) (sym c.self.view_is) has in
    let ends = c.self.inside.ends.items in
    let slots = c.self.inside.links.slots in
    let l = c.unwrap-list.result in
    let at : links_at slots c.args.place ≡ Some l = sym c.try_remove.ensures.value ∙ c.unwrap-list.ensures in
    (own_list ends slots list c.args.place row l c.self.invariant.0 seen at).1

pub returns-clause-lists : goal.returns-clause-lists
returns-clause-lists g c =
    let ends = c.self.inside.ends.items in
    let slots = c.self.inside.links.slots in
    let place = c.args.place in
    let there = c.requires in
    let has = subst (λ v. Has (list_at v there.list) place there.row) (sym c.self.view_is) there.has in
    let l = c.unwrap-list.result in
    let at : links_at slots place ≡ Some l = sym c.try_remove.ensures.value ∙ c.unwrap-list.ensures in
    let off = c.try_remove.ensures.updates in
    let t = taken ends slots c.set_before.new.links.slots (get c.try_remove.new.self) there.list place there.row l
    c.index.result.now c.set_before.new.ends c.self.invariant.0 has at c.index.ensures off.changed off.others
    (λ k. c.set_before.ensures.links k ∙ ap (before_set l.after l.before k) (c.set_after.ensures.links k))
    (c.set_before.ensures.ends ∙ ap (last_set l.after l.before) c.set_after.ensures.ends) in
    t.lists ∙ ap (λ v. map (without c.args.place) v.lists) c.self.view_is

pub returns-clause-count : goal.returns-clause-count
returns-clause-count g c =
    let ends = c.self.inside.ends.items in
    let slots = c.self.inside.links.slots in
    let place = c.args.place in
    let there = c.requires in
    let has = subst (λ v. Has (list_at v there.list) place there.row) (sym c.self.view_is) there.has in
    let l = c.unwrap-list.result in
    let at : links_at slots place ≡ Some l = sym c.try_remove.ensures.value ∙ c.unwrap-list.ensures in
    let off = c.try_remove.ensures.updates in
    let t = taken ends slots c.set_before.new.links.slots (get c.try_remove.new.self) there.list place there.row l
    c.index.result.now c.set_before.new.ends c.self.invariant.0 has at c.index.ensures off.changed off.others
    (λ k. c.set_before.ensures.links k ∙ ap (before_set l.after l.before k) (c.set_after.ensures.links k))
    (c.set_before.ensures.ends ∙ ap (last_set l.after l.before) c.set_after.ensures.ends) in
    t.counted ∙ ap count c.self.view_is
