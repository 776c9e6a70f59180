use Rattle.std.proofs.Common.{arith}
use Rattle.session.proofs.Placing.{absent_has_none, placed_more}
use Rattle.session.proofs.observer_ids.ObserverIds.push.Goals as goal

pub insert-requires-clause-absent : goal.insert-requires-clause-absent
insert-requires-clause-absent c =
    let absent = rw (← c.self.view_is) at c.requires.absent in
    rw c.key_of.ensures (absent_has_none c.self.inside.ids.items c.self.inside.positions c.args.observer c.self.invariant absent)

pub invariant_of-self : goal.invariant_of-self
invariant_of-self c =
    let absent = rw (← c.self.view_is) at c.requires.absent in
    let changes = rw c.key_of.ensures at c.insert.ensures.changes in
    rw c.push_reserved.ensures.items
    (placed_more c.self.inside.ids.items c.args.observer c.len-position.result c.self.inside.positions c.insert.new.self c.self.invariant absent
    (let ok = c.self.inside.ids.ok in let many = c.len-position.ensures in omega (arith, ok, many)) changes)
