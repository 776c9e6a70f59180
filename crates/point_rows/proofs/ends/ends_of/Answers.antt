use Rattle.std.proofs.Common.{◌∙◌, ap, sym}
use Rattle.std.specs.Prelude.{option_and_then}
use Rattle.link_table.specs.Ends.{row_ends}
use Rattle.point_rows.specs.Cells.{side_in}
use Rattle.point_rows.proofs.Cells.{ends_is}
use Rattle.point_rows.proofs.Ending.{ends_here}
use Rattle.point_rows.proofs.ends.ends_of.Goals as goal

pub returns-in-Some : goal.returns-in-Some
returns-in-Some c = c.ends_in.ensures ∙ sym (ends_here c.args.rows.now c.args.p _ c.args.side c.in-Some.ensures.once c.in-Some.ensures.value)

pub returns-in-None : goal.returns-in-None
returns-in-None c =
    sym (ends_is c.args.rows.now c.in-None.ensures.once c.args.p c.args.side
    ∙ ap (λ o. row_ends (option_and_then (side_in c.args.side) o)) (sym c.in-None.ensures.value))
