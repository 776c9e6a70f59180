use Rattle.std.proofs.Common.{◌∙◌, sym}
use Rattle.point_rows.proofs.Cells.{held_same}
use Rattle.point_rows.proofs.rows.PointRows.holds.Goals as goal

pub returns : goal.returns
returns c = rw (← c.self.view_is) (c.holds.ensures.value ∙ sym (held_same c.self.inside.rows c.self.invariant.sound.once c.args.p))
