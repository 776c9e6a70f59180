use Rattle.std.proofs.Common.{refl}
use Rattle.link_table.specs.Ends.{end_at}
use Rattle.link_table.proofs.Removal.{IsHalf, other_within, other_known, removed_two_way, removed_with}
use Rattle.point_rows.specs.declared.row.Side.TheVariants.{Kids, Readers}
use Rattle.point_rows.specs.Cells.{side_of}
use Rattle.point_rows.proofs.sides.remove_ends.Goals as goal

pub take_end-requires-2 : goal.take_end-requires-2
take_end-requires-2 c =
    let k0 = side_of Kids c.args.rows.now in let r0 = side_of Readers c.args.rows.now in
    let k1 = side_of Kids c.take_end.new.rows in let r1 = side_of Readers c.take_end.new.rows in
    let half : IsHalf k0 r0 k1 r1 c.args.p c.args.i c.args.end (end_at k1 c.args.p c.args.i)
    = record { two_way = c.requires.sound.two_way; taken = c.take_end.ensures.taken c.args.end c.requires.there; now = refl; told = c.take_end.ensures.told } in
    record {
      there = other_within k0 r0 k1 r1 c.args.p c.args.i c.args.end (end_at k1 c.args.p c.args.i) half;
      known = other_known k0 r0 k1 r1 c.args.p c.args.i c.args.end (end_at k1 c.args.p c.args.i) half;
      once = c.take_end.ensures.once;
    }

pub returns-clause-sound : goal.returns-clause-sound
returns-clause-sound c =
    let k0 = side_of Kids c.args.rows.now in let r0 = side_of Readers c.args.rows.now in
    let k1 = side_of Kids c.take_end.new.rows in let r1 = side_of Readers c.take_end.new.rows in
    let half : IsHalf k0 r0 k1 r1 c.args.p c.args.i c.args.end (end_at k1 c.args.p c.args.i)
    = record { two_way = c.requires.sound.two_way; taken = c.take_end.ensures.taken c.args.end c.requires.there; now = refl; told = c.take_end.ensures.told } in
    record {
      once = c.take_end-2.ensures.once;
      two_way =
          removed_two_way k0 r0 k1 r1 c.args.p c.args.i c.args.end (end_at k1 c.args.p c.args.i) half
          (side_of Kids c.take_end-2.new.rows) (side_of Readers c.take_end-2.new.rows) c.take_end-2.ensures.taken c.take_end-2.ensures.told;
    }

pub returns-clause-removed : goal.returns-clause-removed
returns-clause-removed c =
    let k0 = side_of Kids c.args.rows.now in let r0 = side_of Readers c.args.rows.now in
    let k1 = side_of Kids c.take_end.new.rows in let r1 = side_of Readers c.take_end.new.rows in
    let half : IsHalf k0 r0 k1 r1 c.args.p c.args.i c.args.end (end_at k1 c.args.p c.args.i)
    = record { two_way = c.requires.sound.two_way; taken = c.take_end.ensures.taken c.args.end c.requires.there; now = refl; told = c.take_end.ensures.told } in
    removed_with k0 r0 k1 r1 c.args.p c.args.i c.args.end (end_at k1 c.args.p c.args.i) half
    (side_of Kids c.take_end-2.new.rows) (side_of Readers c.take_end-2.new.rows) c.take_end-2.ensures.taken c.take_end-2.ensures.told
