use Rattle.std.proofs.Common.{ap, sym}
use Rattle.point_rows.proofs.Cells.{times_is}
use Rattle.point_rows.proofs.rows.PointRows.kids.Goals as goal

pub returns : goal.returns
returns c k =
    rw (c.over.ensures, c.ends_of.ensures, ← ap (λ w. w.links) c.self.view_is) (
    sym (times_is c.self.inside.rows c.self.invariant.sound.once c.args.p k))
