use Rattle.std.proofs.Common.{◌∙◌, Some, ap, subst}
use Rattle.std.proofs.lemmas.Result.{on_ok_weaker}
use Rattle.point_map.specs.Rows.{at, Changes}
use Rattle.point_rows.specs.Cells.{heights_of}
use Rattle.point_rows.proofs.Turned.{IsBareRow, row_absent, added_kept, added_rest, added_height}
use Rattle.point_rows.proofs.rows.PointRows.add.Goals as goal

pub add-requires : goal.add-requires
add-requires c = record {
  absent = row_absent c.self.inside.rows c.self.invariant.sound.once c.args.p (ap (λ w. at w.heights c.args.p) c.self.view_is ∙ c.requires.absent);
}

pub invariant_of-self : goal.invariant_of-self
invariant_of-self c =
    let old = c.self.inside.rows in let e = c.new_row.ensures in
    let absent = row_absent old c.self.invariant.sound.once c.args.p (ap (λ w. at w.heights c.args.p) c.self.view_is ∙ c.requires.absent) in
    let bare : IsBareRow c.new_row.result = record { roots = e.roots; place = e.place; kids = e.kids; readers = e.readers } in
    added_kept old c.add.new.self c.args.p c.new_row.result bare absent c.self.inside.heap.buckets c.self.inside.heap.least c.self.invariant
    c.add.result c.add.ensures.added c.add.ensures.err

pub returns-clause-added : goal.returns-clause-added
returns-clause-added c =
    let old = c.self.inside.rows in let e = c.new_row.ensures in
    let absent = row_absent old c.self.invariant.sound.once c.args.p (ap (λ w. at w.heights c.args.p) c.self.view_is ∙ c.requires.absent) in
    let bare : IsBareRow c.new_row.result = record { roots = e.roots; place = e.place; kids = e.kids; readers = e.readers } in
    rw (← c.self.view_is) (on_ok_weaker c.add.result
    (λ a. subst (λ h. Changes (heights_of old) (heights_of c.add.new.self) c.args.p (Some h)) e.height
    (added_height old c.add.new.self c.args.p c.new_row.result bare absent c.self.inside.heap.buckets c.self.inside.heap.least c.self.invariant a))
    c.add.ensures.added)

pub returns-clause-rest : goal.returns-clause-rest
returns-clause-rest c =
    let old = c.self.inside.rows in let e = c.new_row.ensures in
    let absent = row_absent old c.self.invariant.sound.once c.args.p (ap (λ w. at w.heights c.args.p) c.self.view_is ∙ c.requires.absent) in
    let bare : IsBareRow c.new_row.result = record { roots = e.roots; place = e.place; kids = e.kids; readers = e.readers } in
    rw (← c.self.view_is) (
    added_rest old c.add.new.self c.args.p c.new_row.result bare absent c.self.inside.heap.buckets c.self.inside.heap.least c.self.invariant
    c.add.result c.add.ensures.added c.add.ensures.err)
