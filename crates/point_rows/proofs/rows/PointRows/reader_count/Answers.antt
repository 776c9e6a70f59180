use Rattle.std.proofs.Common.{◌∙◌, ap, sym, length}
use Rattle.link_table.specs.Links.{occurrences}
use Rattle.point_rows.proofs.Cells.{read_is, points_length}
use Rattle.point_rows.proofs.Counted.{times_of_readers}
use Rattle.point_rows.proofs.rows.PointRows.reader_count.Goals as goal

pub returns-clause-count : goal.returns-clause-count
returns-clause-count c =
    rw (← c.self.view_is) (
    ap length c.ends_of.ensures ∙ points_length _ ∙ sym (ap length (read_is c.self.inside.rows c.self.invariant.sound.once c.args.q)))

pub returns-clause-readers : goal.returns-clause-readers
returns-clause-readers c r =
    rw (← c.self.view_is) (
    ap (λ l. occurrences l r) (read_is c.self.inside.rows c.self.invariant.sound.once c.args.q)
    ∙ sym (times_of_readers c.self.inside.rows c.self.invariant.sound r c.args.q))
