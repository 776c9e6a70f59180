use Rattle.std.proofs.Common.{ap}
use Rattle.point_rows.proofs.Counted.{read_when}
use Rattle.point_rows.proofs.rows.PointRows.is_read.Goals as goal

pub returns : goal.returns
returns c =
    rw (← ap (λ w. w.links) c.self.view_is) (
    read_when c.self.inside.rows c.self.invariant.sound c.args.q c.ends_of.result.now c.is_empty.result c.ends_of.ensures c.is_empty.ensures)
