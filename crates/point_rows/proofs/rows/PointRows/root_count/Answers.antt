use Rattle.std.proofs.Common.{◌∙◌, ap, sym}
use Rattle.std.specs.Prelude.{option_and_then, unwrap_or}
use Rattle.point_rows.specs.Cells.{roots_in}
use Rattle.point_rows.proofs.Cells.{roots_is, above_back}
use Rattle.point_rows.proofs.rows.PointRows.root_count.Goals as goal

pub returns-in-Some : goal.returns-in-Some
returns-in-Some c =
    rw (← c.self.view_is) (sym (roots_is c.self.inside.rows c.self.invariant.sound.once c.args.p
    ∙ ap (λ o. unwrap_or (option_and_then roots_in o) 0) (sym c.in-Some.ensures.value) ∙ above_back c.in-Some.row.now.roots))

pub returns-in-None : goal.returns-in-None
returns-in-None c =
    rw (← c.self.view_is) (sym (roots_is c.self.inside.rows c.self.invariant.sound.once c.args.p
    ∙ ap (λ o. unwrap_or (option_and_then roots_in o) 0) (sym c.in-None.ensures.value)))
