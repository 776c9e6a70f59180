use Rattle.std.proofs.Common.{◌∙◌, ap}
use Rattle.point_map.specs.Rows.{at}
use Rattle.point_map.specs.BySlot.{rows_of}
use Rattle.point_map.proofs.map.PointMap.reserve.Goals as goal

pub returns-clause-rows : goal.returns-clause-rows
returns-clause-rows g c = λ p.
    c.move_points.ensures.rows p ∙ ap (λ b. at (rows_of b) p) c.replace-old.ensures.value ∙ ap (λ m. at m p) c.self.view_is
