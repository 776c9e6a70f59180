use Rattle.std.proofs.Common.{ap}
use Rattle.point_rows.proofs.Counted.{place_there, link_more}
use Rattle.point_rows.proofs.rows.PointRows.remove_link.Goals as goal

pub unwrap-i-requires : goal.unwrap-i-requires
unwrap-i-requires c =
    let there = rw (← ap (λ w. w.links) c.self.view_is) at c.requires.there in
    place_there c.self.inside.rows c.self.invariant.sound.once c.args.p c.args.q c.kid_place.result c.kid_place.ensures.some c.kid_place.ensures.none there

pub returns-clause-removed : goal.returns-clause-removed
returns-clause-removed c =
    rw (← c.self.view_is) (link_more c.remove_ends.new.rows c.self.inside.rows c.remove_ends.ensures.sound.once c.self.invariant.sound.once
    c.args.p c.args.q c.remove_ends.ensures.removed)
