use Rattle.std.proofs.Common.{◌∙◌, ap, sym}
use Rattle.std.specs.Prelude.{slice_get}
use Rattle.point_rows.proofs.Ending.{ends_here, ends_hold, some_copied, end_taken}
use Rattle.point_rows.proofs.Rewriting.{written, rest_kept, beyond_kept, side_written}
use Rattle.point_rows.proofs.ends.take.Goals as goal

pub unwrap-row-requires : goal.unwrap-row-requires
unwrap-row-requires c =
    some_copied c.get_mut.result c.args.rows.now c.args.p c.get_mut.ensures.value
    (ends_hold c.args.rows.now c.args.p c.args.side c.args.i c.requires.once c.requires.there)

pub take_in-requires : goal.take_in-requires
take_in-requires c =
    let there = rw c.unwrap-row.ensures at c.get_mut.ensures.value in
    record { there = rw (ends_here c.args.rows.now c.args.p c.unwrap-row.result.now c.args.side c.requires.once there) at c.requires.there }

pub returns : goal.returns
returns c =
    let old = c.args.rows.now in let p = c.args.p in let s = c.args.side in
    let was = c.unwrap-row.result.now in let row = c.take_in.new.row in
    let there = rw c.unwrap-row.ensures at c.get_mut.ensures.value in
    let w = written old _ p was row c.requires.once there (rw c.unwrap-row.ensures at (c.get_mut.follows.holds row)) in
    record {
      taken = end_taken old _ p was row w s c.args.i c.take_in.ensures.taken;
      moved = c.take_in.ensures.moved ∙ sym (ap (λ l. slice_get l c.args.i) (side_written old _ p was row w s).here);
      beyond = beyond_kept old _ p was row w s c.take_in.ensures.rest;
      rest = rest_kept old _ p was row w s c.take_in.ensures.rest;
      once = w.once_new;
    }
