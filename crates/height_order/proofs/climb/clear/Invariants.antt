use Rattle.point_map.specs.Rows.{count}
use Rattle.height_order.proofs.climb.clear.Given as goal

abbrev pub decreases-loop-left : goal.decreases-loop-left
decreases-loop-left l = count l.queue
