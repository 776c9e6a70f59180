use Rattle.std.proofs.Common.{ap}
use Rattle.std.proofs.lemmas.Result.{on_ok_weaker, on_err_weaker}
use Rattle.point_rows.proofs.Cells.{holds_row}
use Rattle.point_rows.proofs.Ending.{some_copied}
use Rattle.point_rows.proofs.Rewriting.{written, heights_same, links_same, read_same}
use Rattle.point_rows.proofs.Turned.{kept_written, roots_rest, root_more, roots_kept}
use Rattle.point_rows.proofs.rows.PointRows.add_root.Goals as goal

pub invariant_of-self : goal.invariant_of-self
invariant_of-self c =
    let old = c.self.inside.rows in let was = c.unwrap-row.result.now in let row = c.more_roots.new.row in let rest = c.more_roots.ensures.rest in
    let there = rw c.unwrap-row.ensures at c.get_mut.ensures.value in
    let w = written old _ c.args.p was row c.self.invariant.sound.once there (rw c.unwrap-row.ensures at (c.get_mut.follows.holds row)) in
    kept_written c.self.inside.heap.buckets c.self.inside.heap.least old _ c.args.p was row w c.self.invariant (ap (λ r. r.place) rest)
    (ap (λ r. r.kids) rest) (ap (λ r. r.readers) rest)

pub returns-clause-rest : goal.returns-clause-rest
returns-clause-rest c =
    let old = c.self.inside.rows in let was = c.unwrap-row.result.now in let row = c.more_roots.new.row in let rest = c.more_roots.ensures.rest in
    let there = rw c.unwrap-row.ensures at c.get_mut.ensures.value in
    let w = written old _ c.args.p was row c.self.invariant.sound.once there (rw c.unwrap-row.ensures at (c.get_mut.follows.holds row)) in
    rw (← c.self.view_is) (
    roots_rest c.self.inside.heap.buckets old (c.get_mut.follows.lender row) (heights_same old _ c.args.p was row w (ap (λ r. r.height) rest))
    (links_same old _ c.args.p was row w (ap (λ r. r.kids) rest)) (read_same old _ c.args.p was row w (ap (λ r. r.readers) rest)))

pub unwrap-row-requires : goal.unwrap-row-requires
unwrap-row-requires c =
    some_copied c.get_mut.result c.self.inside.rows c.args.p c.get_mut.ensures.value
    (holds_row c.self.inside.rows c.self.invariant.sound.once c.args.p (rw (← ap (λ w. w.heights) c.self.view_is) at c.requires.there))

pub returns-clause-more : goal.returns-clause-more
returns-clause-more c =
    let old = c.self.inside.rows in let was = c.unwrap-row.result.now in let row = c.more_roots.new.row in
    let there = rw c.unwrap-row.ensures at c.get_mut.ensures.value in
    let w = written old _ c.args.p was row c.self.invariant.sound.once there (rw c.unwrap-row.ensures at (c.get_mut.follows.holds row)) in
    rw (← c.self.view_is) (on_ok_weaker c.more_roots.result (λ more. root_more old _ c.args.p was row w more) c.more_roots.ensures.more)

pub returns-clause-err : goal.returns-clause-err
returns-clause-err c =
    let old = c.self.inside.rows in let was = c.unwrap-row.result.now in let row = c.more_roots.new.row in
    let there = rw c.unwrap-row.ensures at c.get_mut.ensures.value in
    let w = written old _ c.args.p was row c.self.invariant.sound.once there (rw c.unwrap-row.ensures at (c.get_mut.follows.holds row)) in
    rw (← c.self.view_is) (on_err_weaker c.more_roots.result (λ same. roots_kept old _ c.args.p was row w same) c.more_roots.ensures.err)
