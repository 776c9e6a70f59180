use Rattle.std.proofs.Common.{ap}
use Rattle.point_rows.proofs.Cells.{holds_row}
use Rattle.point_rows.proofs.Turned.{dropped_bare, removed_kept, removed_rest, removed_height}
use Rattle.point_rows.proofs.rows.PointRows.drop_point.Goals as goal

pub remove-row-requires : goal.remove-row-requires
remove-row-requires c = record {
  there = holds_row c.self.inside.rows c.self.invariant.sound.once c.args.p (rw (← ap (λ w. w.heights) c.self.view_is) at c.requires.there);
}

pub invariant_of-self : goal.invariant_of-self
invariant_of-self c =
    let old = c.self.inside.rows in let b = c.self.inside.heap.buckets in let least = c.self.inside.heap.least in
    let bare = dropped_bare b least old c.args.p c.remove-row.result c.self.invariant c.remove-row.ensures.value
    (rw (← c.self.view_is) at c.requires.reads_none) (rw (← c.self.view_is) at c.requires.unheld) (rw (← c.self.view_is) at c.requires.out) in
    removed_kept old c.remove-row.new.self c.args.p c.remove-row.result bare c.remove-row.ensures.value c.remove-row.ensures.removed b least c.self.invariant

pub returns-clause-dropped : goal.returns-clause-dropped
returns-clause-dropped c =
    let old = c.self.inside.rows in let b = c.self.inside.heap.buckets in let least = c.self.inside.heap.least in
    let bare = dropped_bare b least old c.args.p c.remove-row.result c.self.invariant c.remove-row.ensures.value
    (rw (← c.self.view_is) at c.requires.reads_none) (rw (← c.self.view_is) at c.requires.unheld) (rw (← c.self.view_is) at c.requires.out) in
    rw (← c.self.view_is) (
    removed_height old c.remove-row.new.self c.args.p c.remove-row.result bare c.remove-row.ensures.value c.remove-row.ensures.removed b least c.self.invariant)

pub returns-clause-rest : goal.returns-clause-rest
returns-clause-rest c =
    let old = c.self.inside.rows in let b = c.self.inside.heap.buckets in let least = c.self.inside.heap.least in
    let bare = dropped_bare b least old c.args.p c.remove-row.result c.self.invariant c.remove-row.ensures.value
    (rw (← c.self.view_is) at c.requires.reads_none) (rw (← c.self.view_is) at c.requires.unheld) (rw (← c.self.view_is) at c.requires.out) in
    rw (← c.self.view_is) (
    removed_rest old c.remove-row.new.self c.args.p c.remove-row.result bare c.remove-row.ensures.value c.remove-row.ensures.removed b least c.self.invariant)
