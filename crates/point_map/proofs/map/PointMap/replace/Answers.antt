use Rattle.std.proofs.Common.{Some, ap, ◌∙◌}
use Rattle.point_map.proofs.map.PointMap.replace.Goals as goal

pub returns-clause-changes : goal.returns-clause-changes
returns-clause-changes g c =
    let w = rw c.unwrap-there.ensures at (c.get_mut.follows.holds c.replace.new.dest) in
    record { changed = w.changes.changed ∙ ap Some c.replace.ensures.after; others = w.changes.others }

pub returns-clause-points : goal.returns-clause-points
returns-clause-points g c = (rw c.unwrap-there.ensures at (c.get_mut.follows.holds c.replace.new.dest)).points

pub returns-clause-count : goal.returns-clause-count
returns-clause-count g c = (rw c.unwrap-there.ensures at (c.get_mut.follows.holds c.replace.new.dest)).count

pub returns-clause-spare : goal.returns-clause-spare
returns-clause-spare g c = (rw c.unwrap-there.ensures at (c.get_mut.follows.holds c.replace.new.dest)).spare
