use Rattle.std.proofs.Common.{ℕ, []}
use Rattle.height_order.specs.Climbs.{IsClimbing}
use Rattle.height_order.proofs.Pending.{pending}
use Rattle.height_order.proofs.climb.lift_queued.Given as goal

abbrev pub invariant-loop-x : goal.invariant-loop-x
invariant-loop-x g l =
    let web = g.T.HeightTable.web l.table in
    (b : ℕ) × IsClimbing web.heights web.links l.new.reader l.new.kid l.lifts l.queue b l.new.reader []

abbrev pub decreases-loop-x : goal.decreases-loop-x
decreases-loop-x g l =
    let web = g.T.HeightTable.web l.table in
    pending web.heights l.lifts l.queue
