use Rattle.std.proofs.Common.{ap, sym}
use Rattle.point_rows.proofs.Counted.{times_of_readers}
use Rattle.point_rows.proofs.rows.PointRows.readers.Goals as goal

pub returns : goal.returns
returns c r =
    rw (c.over.ensures, c.ends_of.ensures, ← ap (λ w. w.links) c.self.view_is) (
    sym (times_of_readers c.self.inside.rows c.self.invariant.sound r c.args.q))
