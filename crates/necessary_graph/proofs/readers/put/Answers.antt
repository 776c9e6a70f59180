use Rattle.std.proofs.Common.{◌≡◌, ap}
use Rattle.point_map.specs.Rows.{Holds}
use Rattle.point_rows.specs.Standing.{Standing}
use Rattle.necessary_graph.proofs.Putting.{put_changes, put_heights, put_room, has_spare}
use Rattle.necessary_graph.proofs.readers.put.Goals as goal

pub put-requires : goal.put-requires
put-requires c = record {
  there = c.requires.there;
  spare = λ out. has_spare c.args.rows.now.heights c.args.rows.now.heap c.requires.room.0 c.args.p c.requires.room.1 c.requires.there out;
  low = c.requires.low c.args.p;
}

pub returns : goal.returns
returns c =
    let old = c.args.rows.now in
    let new = c.put.new.self in
    let e = c.put.ensures in
    let same : Holds old.heap c.args.p → new.heap ≡ old.heap = λ inn. ap (λ (s : Standing). s.heap) (e.was_in inn) in
    let changes = put_changes old.heights old.heap new.heap c.args.p c.requires.heights same e.out in record {
      put = changes;
      rest = e.rest;
      heights = put_heights old.heights old.heap new.heap c.args.p c.requires.heights changes;
      room = λ points room. put_room old.heights old.heap new.heap c.args.p points room c.requires.there same e.out e.out_count e.out_spare;
    }
