use Rattle.std.proofs.Common.{◌∙◌, Some, ap, sym}
use Rattle.std.proofs.lemmas.Result.{on_ok_weaker}
use Rattle.point_map.specs.Rows.{at}
use Rattle.expert_nodes.specs.Links.{items_in}
use Rattle.expert_nodes.proofs.Indexing.{same_queues}
use Rattle.expert_nodes.proofs.index.reserve_place.Goals as goal

pub returns-in-Some-clause-queues : goal.returns-in-Some-clause-queues
returns-in-Some-clause-queues c =
    let written = rw c.in-Some.is at (c.get_mut.follows.holds c.reserve.new.self) in
    same_queues c.args.index.now _ c.args.node c.key_of.result (Some c.reserve.new.self) c.key_of.ensures written.changes
    (c.reserve.ensures.items ∙ ap items_in c.in-Some.ensures.value)

pub returns-in-Some-clause-room : goal.returns-in-Some-clause-room
returns-in-Some-clause-room c =
    let written = rw c.in-Some.is at (c.get_mut.follows.holds c.reserve.new.self) in
    on_ok_weaker c.reserve.result
    (λ room. record {
      queue = c.reserve.new.self;
      there = ap (at (c.get_mut.follows.lender c.reserve.new.self)) (sym c.key_of.ensures) ∙ written.changes.changed;
      room = room;
    }) c.reserve.ensures.room

pub begin-requires : goal.begin-requires
begin-requires c =
    let none = rw c.in-None.is at c.get_mut.ensures.value in
    record { absent = rw c.get_mut.follows.holds-at-none (ap (at c.args.index.now) (sym c.key_of.ensures) ∙ sym none) }

pub returns-in-None-clause-queues : goal.returns-in-None-clause-queues
returns-in-None-clause-queues c = rw c.get_mut.follows.holds-at-none at c.begin.ensures.queues
