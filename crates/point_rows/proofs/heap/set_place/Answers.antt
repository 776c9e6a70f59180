use Rattle.std.proofs.Common.{refl}
use Rattle.point_rows.proofs.Rewriting.{written, place_written}
use Rattle.point_rows.proofs.heap.set_place.Goals as goal

pub returns : goal.returns
returns c =
    let was = c.unwrap-row.result.now in let row = record was { place = c.args.place } in
    let there = rw c.unwrap-row.ensures at c.get_mut.ensures.value in
    let w = written c.args.rows.now _ c.args.p was row c.requires.once there (rw c.unwrap-row.ensures at (c.get_mut.follows.holds row)) in
    place_written c.args.rows.now _ c.args.p was row w refl refl refl refl
