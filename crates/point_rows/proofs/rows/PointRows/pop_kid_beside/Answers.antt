use Rattle.std.proofs.Common.{ap}
use Rattle.point_rows.proofs.Counted.{reads_one, link_more}
use Rattle.point_rows.proofs.rows.PointRows.pop_kid_beside.Goals as goal

pub returns-in_default-clause-none : goal.returns-in_default-clause-none
returns-in_default-clause-none c q = rw (← ap (λ w. w.links) c.self.view_is) (
    reads_one c.self.inside.rows c.self.invariant.sound.once c.args.p c.args.kept c.ends_of.result.now c.ends_of.ensures c.in_default.ensures.none q)

pub returns-clause-removed : goal.returns-clause-removed
returns-clause-removed c = rw (← c.self.view_is) (link_more c.remove_ends.new.rows c.self.inside.rows c.remove_ends.ensures.sound.once
    c.self.invariant.sound.once c.args.p c.in-Some.last.point c.remove_ends.ensures.removed)
