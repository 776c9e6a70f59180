use Rattle.std.proofs.Common.{◌≡◌, ◌∙◌, refl, sym, ap}
use Rattle.point_rows.specs.Standing.{Standing}
use Rattle.necessary_graph.proofs.Raising.{raised_due, absent_due, points_raised}
use Rattle.necessary_graph.proofs.Rests.{heap_then}
use Rattle.necessary_graph.proofs.Room.{none_out}
use Rattle.necessary_graph.proofs.sweep.raise_moved.Goals as goal
use Rattle.necessary_graph.proofs.sweep.raise_moved.Goals.{then-in_heap, else-in_heap}

pub loop-p-preserved : goal.loop-p-preserved
loop-p-preserved c =
    let inv = c.loop-p.invariant in
    let old = c.args.rows.now in
    let now = c.loop-p.rows in
    let moved = c.args.moved.now in
    elim c.if-in_heap.branch [
      | then-in_heap w ↦
          let e = w.raise.ensures in
          let new = w.raise.new.self in
          let same : now.heights ≡ old.heights = ap (λ (s : Standing). s.heights) inv.rest in
          rw w.rows-is (record {
            due = raised_due old.heights now.heap moved c.loop-p.p-index _ c.loop-p-test.true inv.due new.heap _
                (rw same refl) e.changes;
            points = points_raised old.heap now.heap new.heap _ _ inv.points (sym w.if-in_heap.ensures) e.changes;
            count = e.count ∙ inv.count;
            spare = e.spare ∙ inv.spare;
            rest = heap_then old now new inv.rest e.rest;
          })
      | else-in_heap w ↦ rw w.rows-is (record {
        due = absent_due old.heights now.heap moved c.loop-p.p-index _ c.loop-p-test.true inv.due (none_out now.heap _ w.if-in_heap.ensures);
        points = inv.points;
        count = inv.count;
        spare = inv.spare;
        rest = inv.rest;
      })
    ]
