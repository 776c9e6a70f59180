use Rattle.std.proofs.Common.{◌∙◌, Some, ap, sym}
use Rattle.point_map.specs.Rows.{at}
use Rattle.expert_nodes.specs.Links.{items_in, key_of}
use Rattle.expert_nodes.proofs.Indexing.{same_queues}
use Rattle.expert_nodes.proofs.index.begin.Goals as goal

pub insert-requires-clause-absent : goal.insert-requires-clause-absent
insert-requires-clause-absent c = c.reserve.ensures.rows c.key_of.result ∙ ap (at c.args.index.now) c.key_of.ensures ∙ c.requires.absent

pub returns-clause-queues : goal.returns-clause-queues
returns-clause-queues c = λ m.
    same_queues c.reserve.new.self c.insert.new.self c.args.node c.key_of.result (Some c.in_ok-queue.queue) c.key_of.ensures c.insert.ensures.changes
    (c.in_ok-queue.ensures.items ∙ sym (ap items_in (c.reserve.ensures.rows c.key_of.result ∙ ap (at c.args.index.now) c.key_of.ensures ∙ c.requires.absent))) m
    ∙ ap items_in (c.reserve.ensures.rows (key_of m))

pub returns-clause-room : goal.returns-clause-room
returns-clause-room c = record {
  queue = c.in_ok-queue.queue;
  there = ap (at c.insert.new.self) (sym c.key_of.ensures) ∙ c.insert.ensures.changes.changed;
  room = c.in_ok-queue.ensures.room;
}
