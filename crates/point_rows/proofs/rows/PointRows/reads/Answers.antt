use Rattle.std.proofs.Common.{ap}
use Rattle.point_rows.proofs.Counted.{told_place}
use Rattle.point_rows.proofs.rows.PointRows.reads.Goals as goal

pub returns : goal.returns
returns c =
    let told = told_place c.self.inside.rows c.self.invariant.sound.once c.args.p c.args.q c.kid_place.result c.kid_place.ensures.some
    c.kid_place.ensures.none in
    rw (c.is_some.ensures, ← ap (λ w. w.links) c.self.view_is) told
