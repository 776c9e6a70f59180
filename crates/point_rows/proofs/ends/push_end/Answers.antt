use Rattle.std.proofs.Common.{◌≡◌, ◌∙◌, length, ap, sym}
use Rattle.std.proofs.lemmas.Result.{IfOk-weaker, on_ok_weaker, on_err_weaker}
use Rattle.link_table.specs.Ends.{ends_at}
use Rattle.point_rows.specs.Cells.{side_ends, side_of}
use Rattle.point_rows.proofs.Ending.{ends_here, end_put}
use Rattle.point_rows.proofs.Rewriting.{written, side_same, rest_kept, beyond_kept}
use Rattle.point_rows.proofs.ends.push_end.Goals as goal

pub returns : goal.returns
returns c =
    let old = c.args.rows.now in let p = c.args.p in let s = c.args.side in
    let was = c.unwrap-row.result.now in let row = c.push_in.new.row in
    let there = rw c.unwrap-row.ensures at c.get_mut.ensures.value in
    let w = written old _ p was row c.requires.once there (rw c.unwrap-row.ensures at (c.get_mut.follows.holds row)) in
    record {
      place = IfOk-weaker c.push_in.result (λ i. i ≡ length (side_ends s was).items) (λ i. i ≡ length (ends_at (side_of s old) p))
          (λ i h. h ∙ sym (ap length (ends_here old p was s c.requires.once there))) c.push_in.ensures.place;
      more = on_ok_weaker c.push_in.result (end_put old _ p was row w s c.args.end) c.push_in.ensures.more;
      err = on_err_weaker c.push_in.result (λ same. side_same old _ p was row w s (ap (side_ends s) same)) c.push_in.ensures.err;
      beyond = beyond_kept old _ p was row w s c.push_in.ensures.rest;
      rest = rest_kept old _ p was row w s c.push_in.ensures.rest;
      once = w.once_new;
    }
