use Rattle.std.proofs.Common.{None, length, ap}
use Rattle.link_table.proofs.Put.{two_way_kept}
use Rattle.link_table.specs.Ends.{ends_at}
use Rattle.link_table.proofs.Removal.{popped_half, other_within, other_known, removed_two_way, removed_with}
use Rattle.point_rows.specs.declared.row.Side.TheVariants.{Kids, Readers}
use Rattle.point_rows.specs.Cells.{side_of}
use Rattle.point_rows.proofs.sides.pop_ends.Goals as goal

pub returns-in_default-clause-sound : goal.returns-in_default-clause-sound
returns-in_default-clause-sound c =
    let r0 = c.args.rows.now in let r1 = c.take_last.new.rows in let sides = c.in_default.ensures.unchanged.sides in
    record {
      once = c.take_last.ensures.once;
      two_way =
          two_way_kept (side_of Kids r0) (side_of Readers r0) (side_of Kids r1) (side_of Readers r1) (λ x. ap (λ l. ends_at l x) (sides Kids))
          (λ x. ap (λ l. ends_at l x) (sides Readers)) c.requires.sound.two_way;
    }

pub take_end-requires : goal.take_end-requires
take_end-requires c =
    let k0 = side_of Kids c.args.rows.now in
    let k1 = side_of Kids c.take_last.new.rows in let r1 = side_of Readers c.take_last.new.rows in
    let end = c.in-Some.end in let place = length (ends_at k1 c.args.p) in
    let half = popped_half k0 k1 r1 c.args.p end (rw (← c.take_last.ensures.beyond) at c.requires.sound.two_way) c.in-Some.ensures.taken in
    record {
      there = other_within k0 r1 k1 r1 c.args.p place end None half;
      known = other_known k0 r1 k1 r1 c.args.p place end None half;
      once = c.take_last.ensures.once;
    }

pub returns-clause-sound : goal.returns-clause-sound
returns-clause-sound c =
    let k0 = side_of Kids c.args.rows.now in
    let k1 = side_of Kids c.take_last.new.rows in let r1 = side_of Readers c.take_last.new.rows in
    let end = c.in-Some.end in let place = length (ends_at k1 c.args.p) in
    let half = popped_half k0 k1 r1 c.args.p end (rw (← c.take_last.ensures.beyond) at c.requires.sound.two_way) c.in-Some.ensures.taken in
    record {
      once = c.take_end.ensures.once;
      two_way =
          removed_two_way k0 r1 k1 r1 c.args.p place end None half (side_of Kids c.take_end.new.rows) (side_of Readers c.take_end.new.rows)
          c.take_end.ensures.taken c.take_end.ensures.told;
    }

pub returns-clause-removed : goal.returns-clause-removed
returns-clause-removed c =
    let k0 = side_of Kids c.args.rows.now in
    let k1 = side_of Kids c.take_last.new.rows in let r1 = side_of Readers c.take_last.new.rows in
    let end = c.in-Some.end in let place = length (ends_at k1 c.args.p) in
    let half = popped_half k0 k1 r1 c.args.p end (rw (← c.take_last.ensures.beyond) at c.requires.sound.two_way) c.in-Some.ensures.taken in
    removed_with k0 r1 k1 r1 c.args.p place end None half (side_of Kids c.take_end.new.rows) (side_of Readers c.take_end.new.rows)
    c.take_end.ensures.taken c.take_end.ensures.told
