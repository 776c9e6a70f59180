use Rattle.std.proofs.Common.{◌∙◌, ap, sym}
use Rattle.std.specs.Prelude.{option_and_then}
use Rattle.link_table.specs.Ends.{row_ends}
use Rattle.point_rows.specs.Cells.{side_in}
use Rattle.point_rows.proofs.Cells.{ends_is}
use Rattle.point_rows.proofs.Ending.{end_popped, none_popped, views_kept}
use Rattle.point_rows.proofs.Rewriting.{written, rest_kept, beyond_kept}
use Rattle.point_rows.proofs.ends.take_last.Goals as goal

pub returns-in_default-clause-none : goal.returns-in_default-clause-none
returns-in_default-clause-none c =
    ends_is c.args.rows.now c.requires.once c.args.p c.args.side
    ∙ ap (λ o. row_ends (option_and_then (side_in c.args.side) o)) (sym c.in_default.ensures.value)

pub returns : goal.returns
returns c =
    let old = c.args.rows.now in let p = c.args.p in let s = c.args.side in
    let was = c.in-Some.row.now in let row = c.pop_in.new.row in
    let w = written old _ p was row c.requires.once c.in-Some.ensures.value (rw c.in-Some.is at (c.get_mut.follows.holds row)) in
    record {
      taken = end_popped old _ p was row w s c.pop_in.result c.pop_in.ensures.some;
      none = none_popped old _ p was row w s c.pop_in.result c.pop_in.ensures.none;
      unchanged = views_kept old _ p was row w s c.pop_in.result c.pop_in.ensures.unchanged;
      beyond = beyond_kept old _ p was row w s c.pop_in.ensures.rest;
      rest = rest_kept old _ p was row w s c.pop_in.ensures.rest;
      once = w.once_new;
    }
