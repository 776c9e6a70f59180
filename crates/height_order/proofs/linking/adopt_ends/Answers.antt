use Rattle.std.proofs.Common.{None}
use Rattle.height_order.specs.declared.lifts.Lift.{Lift}
use Rattle.height_order.specs.Levels.{bound}
use Rattle.height_order.proofs.Levelling.{no_levels}
use Rattle.height_order.proofs.Ranking.{short_by_heights, bounded_all, all_closed}
use Rattle.height_order.proofs.Answering.{ends_adopted, both_below, both_all, both_there}
use Rattle.height_order.proofs.linking.adopt_ends.Goals as goal

pub level_below-requires-clause-levels : goal.level_below-requires-clause-levels
level_below-requires-clause-levels g c =
    let web = g.T.HeightTable.web in
    no_levels (web c.args.table.now).links (bound {R = Lift} (web c.args.table.now).heights None) c.args.levels.now c.requires.none

pub level_below-requires-clause-bounds : goal.level_below-requires-clause-bounds
level_below-requires-clause-bounds g c =
    let web = g.T.HeightTable.web in
    bounded_all (web c.args.table.now).heights (web c.args.table.now).links c.requires.sound

pub level_below-requires-clause-short : goal.level_below-requires-clause-short
level_below-requires-clause-short g c =
    let web = g.T.HeightTable.web in
    short_by_heights (web c.args.table.now).heights (web c.args.table.now).links c.requires.sound c.args.new.reader

pub level_below-requires-2-clause-bounds : goal.level_below-requires-2-clause-bounds
level_below-requires-2-clause-bounds g c =
    let web = g.T.HeightTable.web in
    bounded_all (web c.args.table.now).heights (web c.args.table.now).links c.requires.sound

pub level_below-requires-2-clause-short : goal.level_below-requires-2-clause-short
level_below-requires-2-clause-short g c =
    let web = g.T.HeightTable.web in
    short_by_heights (web c.args.table.now).heights (web c.args.table.now).links c.requires.sound c.args.new.kid

pub adopt-requires : goal.adopt-requires
adopt-requires g c =
    let web = g.T.HeightTable.web in
    let p = c.in_ok-level_below.ensures in
    let q = c.in_ok-level_below-2.ensures in
    record {
      there = both_there (web c.args.table.now).links c.args.levels.now c.level_below.new.levels c.level_below-2.new.levels c.args.new.reader c.args.new.kid
          c.in_ok-level_below.field-0 c.in_ok-level_below-2.field-0 c.requires.none
          (all_closed (web c.args.table.now).heights c.level_below-2.new.levels (web c.args.table.now).links c.requires.sound q.levels) p.level q.level p.adds q.adds
          (web c.args.table.now).heights c.requires.sound.ends c.requires.reader c.requires.kid;
    }

pub returns-clause-levelled : goal.returns-clause-levelled
returns-clause-levelled g c =
    let web = g.T.HeightTable.web in
    let p = c.in_ok-level_below.ensures in
    let q = c.in_ok-level_below-2.ensures in
    ends_adopted (web c.args.table.now).heights (web c.args.table.now).links c.args.new.reader c.args.new.kid c.args.moved.now.items c.requires.sound c.adopt.result
    c.level_below-2.new.levels (web c.adopt.new.table).heights c.adopt.new.moved.items q.levels
    (both_all (web c.args.table.now).links c.args.levels.now c.level_below.new.levels c.level_below-2.new.levels c.args.new.reader c.args.new.kid
    c.in_ok-level_below.field-0 c.in_ok-level_below-2.field-0 c.requires.none
    (all_closed (web c.args.table.now).heights c.level_below-2.new.levels (web c.args.table.now).links c.requires.sound q.levels) p.level q.level p.adds q.adds)
    (both_below (web c.args.table.now).links c.args.levels.now c.level_below.new.levels c.level_below-2.new.levels c.args.new.reader c.args.new.kid
    c.in_ok-level_below.field-0 c.in_ok-level_below-2.field-0 c.requires.none
    (all_closed (web c.args.table.now).heights c.level_below-2.new.levels (web c.args.table.now).links c.requires.sound q.levels) p.level q.level p.adds q.adds)
    c.adopt.ensures.adopted c.adopt.ensures.err c.adopt.ensures.untold c.adopt.ensures.points c.adopt.ensures.moved
