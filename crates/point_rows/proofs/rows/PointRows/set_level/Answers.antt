use Rattle.std.proofs.Common.{Some, refl, ap}
use Rattle.point_rows.proofs.Cells.{holds_row}
use Rattle.point_rows.proofs.Ending.{some_copied}
use Rattle.point_rows.proofs.Rewriting.{written, roots_same, links_same, read_same}
use Rattle.point_rows.proofs.Turned.{kept_written, heights_change, heights_rest}
use Rattle.point_rows.proofs.rows.PointRows.set_level.Goals as goal

pub unwrap-row-requires : goal.unwrap-row-requires
unwrap-row-requires c =
    some_copied c.get_mut.result c.self.inside.rows c.args.p c.get_mut.ensures.value
    (holds_row c.self.inside.rows c.self.invariant.sound.once c.args.p (rw (← ap (λ w. w.heights) c.self.view_is) at c.requires.there))

pub invariant_of-self : goal.invariant_of-self
invariant_of-self c =
    let old = c.self.inside.rows in let was = c.unwrap-row.result.now in let row = record was { height = c.args.height } in
    let there = rw c.unwrap-row.ensures at c.get_mut.ensures.value in
    let w = written old _ c.args.p was row c.self.invariant.sound.once there (rw c.unwrap-row.ensures at (c.get_mut.follows.holds row)) in
    kept_written c.self.inside.heap.buckets c.self.inside.heap.least old _ c.args.p was row w c.self.invariant refl refl refl

pub returns-clause-changes : goal.returns-clause-changes
returns-clause-changes c =
    let old = c.self.inside.rows in let was = c.unwrap-row.result.now in let row = record was { height = c.args.height } in
    let there = rw c.unwrap-row.ensures at c.get_mut.ensures.value in
    let w = written old _ c.args.p was row c.self.invariant.sound.once there (rw c.unwrap-row.ensures at (c.get_mut.follows.holds row)) in
    rw (← c.self.view_is) (heights_change old _ c.args.p (Some row) w.changes w.once w.once_new)

pub returns-clause-rest : goal.returns-clause-rest
returns-clause-rest c =
    let old = c.self.inside.rows in let was = c.unwrap-row.result.now in let row = record was { height = c.args.height } in
    let there = rw c.unwrap-row.ensures at c.get_mut.ensures.value in
    let w = written old _ c.args.p was row c.self.invariant.sound.once there (rw c.unwrap-row.ensures at (c.get_mut.follows.holds row)) in
    rw (← c.self.view_is) (
    heights_rest c.self.inside.heap.buckets old (c.get_mut.follows.lender row) (roots_same old _ c.args.p was row w refl) (links_same old _ c.args.p was row w refl)
    (read_same old _ c.args.p was row w refl))
