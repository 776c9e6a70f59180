use Rattle.std.proofs.Common.{ap}
use Rattle.point_rows.proofs.Ending.{some_copied}
use Rattle.point_rows.proofs.Rewriting.{written, heights_same, links_same, read_same}
use Rattle.point_rows.proofs.Turned.{kept_written, roots_rest, root_holds, roots_here, root_less}
use Rattle.point_rows.proofs.rows.PointRows.remove_root.Goals as goal

pub invariant_of-self : goal.invariant_of-self
invariant_of-self c =
    let old = c.self.inside.rows in let was = c.unwrap-row.result.now in let row = c.fewer_roots.new.row in let rest = c.fewer_roots.ensures.rest in
    let there = rw c.unwrap-row.ensures at c.get_mut.ensures.value in
    let w = written old _ c.args.p was row c.self.invariant.sound.once there (rw c.unwrap-row.ensures at (c.get_mut.follows.holds row)) in
    kept_written c.self.inside.heap.buckets c.self.inside.heap.least old _ c.args.p was row w c.self.invariant (ap (λ r. r.place) rest)
    (ap (λ r. r.kids) rest) (ap (λ r. r.readers) rest)

pub returns-clause-rest : goal.returns-clause-rest
returns-clause-rest c =
    let old = c.self.inside.rows in let was = c.unwrap-row.result.now in let row = c.fewer_roots.new.row in let rest = c.fewer_roots.ensures.rest in
    let there = rw c.unwrap-row.ensures at c.get_mut.ensures.value in
    let w = written old _ c.args.p was row c.self.invariant.sound.once there (rw c.unwrap-row.ensures at (c.get_mut.follows.holds row)) in
    rw (← c.self.view_is) (
    roots_rest c.self.inside.heap.buckets old (c.get_mut.follows.lender row) (heights_same old _ c.args.p was row w (ap (λ r. r.height) rest))
    (links_same old _ c.args.p was row w (ap (λ r. r.kids) rest)) (read_same old _ c.args.p was row w (ap (λ r. r.readers) rest)))

pub unwrap-row-requires : goal.unwrap-row-requires
unwrap-row-requires c =
    some_copied c.get_mut.result c.self.inside.rows c.args.p c.get_mut.ensures.value
    (root_holds c.self.inside.rows c.self.invariant.sound.once c.args.p (rw (← ap (λ w. w.roots) c.self.view_is) at c.requires.root))

pub fewer_roots-requires : goal.fewer_roots-requires
fewer_roots-requires c =
    let there = rw c.unwrap-row.ensures at c.get_mut.ensures.value in
    let root = rw (← ap (λ w. w.roots) c.self.view_is) at c.requires.root in
    record { some = rw (roots_here c.self.inside.rows c.self.invariant.sound.once c.args.p c.unwrap-row.result.now there) at root }

pub returns-clause-less : goal.returns-clause-less
returns-clause-less c =
    let old = c.self.inside.rows in let was = c.unwrap-row.result.now in let row = c.fewer_roots.new.row in
    let there = rw c.unwrap-row.ensures at c.get_mut.ensures.value in
    let w = written old _ c.args.p was row c.self.invariant.sound.once there (rw c.unwrap-row.ensures at (c.get_mut.follows.holds row)) in
    rw (← c.self.view_is) (root_less old _ c.args.p was row w c.fewer_roots.ensures.less)
