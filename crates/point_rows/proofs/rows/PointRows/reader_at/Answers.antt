use Rattle.std.proofs.Common.{◌∙◌, ap, sym, arith}
use Rattle.std.specs.Prelude.{slice_get}
use Rattle.link_table.specs.Ends.{points}
use Rattle.point_rows.proofs.Cells.{read_is, points_at, points_past}
use Rattle.point_rows.proofs.rows.PointRows.reader_at.Goals as goal

pub returns-then-i-ends : goal.returns-then-i-ends
returns-then-i-ends c =
    let ends = c.ends_of-ends.result.now in
    rw (← c.self.view_is) (
    sym (ap (λ l. slice_get l c.args.i) (read_is c.self.inside.rows c.self.invariant.sound.once c.args.q ∙ ap points (sym c.ends_of-ends.ensures))
    ∙ points_at ends c.args.i _ c.if-i-ends.true))

pub returns-else-i-ends : goal.returns-else-i-ends
returns-else-i-ends c =
    let ends = c.ends_of-ends.result.now in let past = c.if-i-ends.false in
    rw (← c.self.view_is) (
    sym (ap (λ l. slice_get l c.args.i) (read_is c.self.inside.rows c.self.invariant.sound.once c.args.q ∙ ap points (sym c.ends_of-ends.ensures))
    ∙ points_past ends c.args.i (omega (arith, past))))
