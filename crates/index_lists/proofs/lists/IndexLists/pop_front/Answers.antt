use Rattle.std.proofs.Common.{◌∙◌, [], ◌∷◌, map, ap, sym, subst, slice_index_or, slice_set}
use Rattle.index_lists.specs.Lists.{Has, no_ends, list_at, without}
use Rattle.index_lists.proofs.Changes.{wide_ends, index_is, front, front_none}
use Rattle.index_lists.proofs.lists.IndexLists.pop_front.Goals as goal

pub returns-in_err-place-clause-none : goal.returns-in_err-place-clause-none
returns-in_err-place-clause-none g c =
    let ends = c.self.inside.ends.items in
    let slots = c.self.inside.links.slots in
    let lt = wide_ends ends slots c.args.self.now.lists c.args.list (ap (λ v. v.lists) c.self.view_is) c.requires in
    let at = index_is ends c.args.list c.index.result.now no_ends lt c.index.ensures in
    rw c.from_residual.ensures (ap (λ v. list_at v c.args.list) (sym c.self.view_is)
    ∙ front_none ends slots c.args.list c.self.invariant.0 (ap (λ e. e.first) at ∙ c.in_err-place.was))

pub remove-row-requires : goal.remove-row-requires
remove-row-requires g c =
    let ends = c.self.inside.ends.items in
    let slots = c.self.inside.links.slots in
    let lt = wide_ends ends slots c.args.self.now.lists c.args.list (ap (λ v. v.lists) c.self.view_is) c.requires in
    let at = index_is ends c.args.list c.index.result.now no_ends lt c.index.ensures in
    let place = c.in_ok-place.place in
    let f = front ends slots c.args.list place c.self.invariant.0 lt (ap (λ e. e.first) at ∙ c.in_ok-place.was) in
    record {
      list = c.args.list;
      row = f.row;
      has = subst (λ v. Has (list_at v c.args.list) place f.row) c.self.view_is f.has;
    }

pub returns-clause-popped : goal.returns-clause-popped
returns-clause-popped g c =
    let ends = c.self.inside.ends.items in
    let slots = c.self.inside.links.slots in
    let lt = wide_ends ends slots c.args.self.now.lists c.args.list (ap (λ v. v.lists) c.self.view_is) c.requires in
    let at = index_is ends c.args.list c.index.result.now no_ends lt c.index.ensures in
    let place = c.in_ok-place.place in
    let f = front ends slots c.args.list place c.self.invariant.0 lt (ap (λ e. e.first) at ∙ c.in_ok-place.was) in
    let has = subst (λ v. Has (list_at v c.args.list) place f.row) c.self.view_is f.has in
    let row = c.remove-row.ensures.row c.args.list f.row has in
    record {
      rest = f.rest;
      was = ap (λ v. list_at v c.args.list) (sym c.self.view_is) ∙ f.was ∙ ap (λ r. (place, r) ∷ f.rest) (sym row);
      lists = c.remove-row.ensures.lists ∙ ap (λ v. map (without place) v.lists) (sym c.self.view_is) ∙ f.popped
          ∙ ap (λ v. slice_set v.lists c.args.list f.rest) c.self.view_is;
    }

pub returns-clause-vacant : goal.returns-clause-vacant
returns-clause-vacant g c = λ there.
    let ends = c.self.inside.ends.items in
    let slots = c.self.inside.links.slots in
    let lt = wide_ends ends slots c.args.self.now.lists c.args.list (ap (λ v. v.lists) c.self.view_is) c.requires in
    let at = index_is ends c.args.list c.index.result.now no_ends lt c.index.ensures in
    let place = c.in_ok-place.place in
    let f = front ends slots c.args.list place c.self.invariant.0 lt (ap (λ e. e.first) at ∙ c.in_ok-place.was) in
    f.vacant there.list there.row (subst (λ ls. Has (slice_index_or ls there.list []) place there.row)
    (c.remove-row.ensures.lists ∙ ap (λ v. map (without place) v.lists) (sym c.self.view_is)) there.has)
