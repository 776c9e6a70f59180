use Rattle.std.proofs.Common.{◌≡◌}
use Rattle.point_map.specs.Buckets.{kept_count}
use Rattle.point_map.proofs.Moving.{Moving, EmptyBelow}
use Rattle.point_map.proofs.map.move_points.Given as goal

abbrev pub invariant-loop-place : goal.invariant-loop-place
invariant-loop-place g l =
    Moving l.fn.from l.from l.to l.fn.to.spare × EmptyBelow l.from l.bucket × (l.from.width ≡ l.fn.from.width)

abbrev pub decreases-loop-place : goal.decreases-loop-place
decreases-loop-place g l = kept_count l.from

abbrev pub invariant-loop-bucket : goal.invariant-loop-bucket
invariant-loop-bucket g l =
    Moving l.fn.from l.from l.to l.fn.to.spare × EmptyBelow l.from l.bucket × (l.from.width ≡ l.fn.from.width)
