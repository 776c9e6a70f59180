use Rattle.std.proofs.Common.{◌∙◌, ap, sym}
use Rattle.std.specs.Prelude.{option_and_then}
use Rattle.height_order.specs.Levels.{or_zero}
use Rattle.point_rows.specs.Cells.{height_in}
use Rattle.point_rows.proofs.Cells.{height_at}
use Rattle.point_rows.proofs.rows.PointRows.level_of.Goals as goal

pub returns-in-Some : goal.returns-in-Some
returns-in-Some c =
    rw (← c.self.view_is) (sym (ap or_zero (height_at c.self.inside.rows c.self.invariant.sound.once c.args.p
    ∙ ap (option_and_then height_in) (sym c.in-Some.ensures.value))))

pub returns-in-None : goal.returns-in-None
returns-in-None c =
    rw (← c.self.view_is) (sym (ap or_zero (height_at c.self.inside.rows c.self.invariant.sound.once c.args.p
    ∙ ap (option_and_then height_in) (sym c.in-None.ensures.value))))
