use Rattle.necessary_graph.specs.Part.{NecessaryPart, part_of}
use Rattle.necessary_graph.proofs.Room.{room_dropped}
use Rattle.necessary_graph.proofs.Standing.{dropped_in_step, held_exactly, no_root, reads_none, unread, out_of_heap}
use Rattle.necessary_graph.proofs.graph.NecessaryGraph.drop_point.Goals as goal

pub drop_point-requires : goal.drop_point-requires
drop_point-requires c =
    let p = c.args.p in
    let inv = c.self.invariant.0 in
    let g : NecessaryPart = part_of c.self.inside.rows in
    let unneeded = rw (← c.self.view_is) at c.requires.unneeded in record {
      there = rw (← c.self.view_is) at c.requires.there;
      reads_none = reads_none g inv p unneeded;
      unheld = λ held. unneeded ((held_exactly g inv p).0 held);
      out = out_of_heap g inv p unneeded;
    }

pub invariant_of-self : goal.invariant_of-self
invariant_of-self c =
    let p = c.args.p in
    let rows = c.self.inside.rows in
    let g : NecessaryPart = part_of rows in
    let inv = c.self.invariant in
    let there = rw (← c.self.view_is) at c.requires.there in
    let unneeded = rw (← c.self.view_is) at c.requires.unneeded in
    let e = c.drop_point.ensures in
    let heights = c.drop_point.new.self.heights in
    let room = room_dropped rows.heights heights rows.heap c.self.inside.points p inv.1 there (out_of_heap g inv.0 p unneeded) e.dropped in
    rw e.rest (
      dropped_in_step g inv.0 heights p e.dropped (no_root g inv.0 p unneeded) (reads_none g inv.0 p unneeded) (unread g inv.0 p unneeded),
      room.1,
    )

pub returns-clause-in_step : goal.returns-clause-in_step
returns-clause-in_step c = (invariant_of-self c).0
