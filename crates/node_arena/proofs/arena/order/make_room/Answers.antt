use Rattle.node_arena.proofs.arena.order.make_room.Goals as goal

pub returns-clause-order : goal.returns-clause-order
returns-clause-order c a same order = rw c.reserve.ensures.items (c.tidy.ensures.order a same order)

pub returns-clause-few : goal.returns-clause-few
returns-clause-few c a same order = rw c.reserve.ensures.items (c.tidy.ensures.few a same order)
