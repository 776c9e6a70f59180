use Rattle.std.proofs.Common.{◌∙◌, ap, sym}
use Rattle.std.specs.Prelude.{is_some}
use Rattle.point_rows.specs.Cells.{place_of}
use Rattle.point_rows.proofs.Heaped.{in_is}
use Rattle.point_rows.proofs.rows.PointRows.in_heap.Goals as goal

pub returns : goal.returns
returns c =
    rw (← c.self.view_is) (
    c.is_some.ensures ∙ ap is_some c.place_in.ensures
    ∙ sym (in_is (place_of c.self.inside.rows) (place_of c.self.inside.rows) c.self.inside.heap.buckets c.self.inside.heap.buckets
    c.self.inside.heap.least c.self.invariant.heap c.args.p))
