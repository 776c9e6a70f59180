use Rattle.std.proofs.Common.{Some, sym, subst}
use Rattle.std.specs.Prelude.{OnOk}
use Rattle.height_order.specs.Levels.{bound, AreSoundHeights, IsExact}
use Rattle.height_order.proofs.Levelling.{no_levels, height_under}
use Rattle.height_order.proofs.Ranking.{sound_adopted, exact_adopted, short_by_heights, bounded_by_heights, below_there}
use Rattle.height_order.proofs.linking.adopt_all.Goals as goal

pub level_each-requires-clause-levels : goal.level_each-requires-clause-levels
level_each-requires-clause-levels c = no_levels c.args.tables.now.links (bound c.args.tables.now.heights (Some c.args.tables.now.heights)) c.args.levels.now c.requires.none

pub level_each-requires-clause-bounds : goal.level_each-requires-clause-bounds
level_each-requires-clause-bounds c = bounded_by_heights c.args.tables.now.heights c.args.tables.now.heights c.args.tables.now.links c.requires.sound

pub level_each-requires-clause-short : goal.level_each-requires-clause-short
level_each-requires-clause-short c = short_by_heights c.args.tables.now.heights c.args.tables.now.links c.requires.sound

pub adopt-requires : goal.adopt-requires
adopt-requires c = record {
  there = below_there c.args.tables.now.heights c.args.levels.now c.level_each.new.levels c.args.tables.now.links c.requires.none c.in_ok-level_each.ensures.below
      c.args.tables.now.heights c.requires.sound.ends (λ y there. there);
}

pub returns-clause-sound : goal.returns-clause-sound
returns-clause-sound c =
    subst (AreSoundHeights c.adopt.new.table.heights) (sym c.adopt.ensures.links)
    (sound_adopted c.args.tables.now.heights c.level_each.new.levels c.adopt.new.table.heights c.args.tables.now.links (bound c.args.tables.now.heights (Some c.args.tables.now.heights))
    c.in_ok-level_each.ensures.levels c.adopt.result (height_under c.args.tables.now.heights c.args.tables.now.heights c.requires.sound.low) c.adopt.ensures.adopted
    c.adopt.ensures.err c.requires.sound c.adopt.ensures.points)

pub returns-clause-exact : goal.returns-clause-exact
returns-clause-exact c =
    subst (λ l. OnOk c.adopt.result (IsExact c.adopt.new.table.heights l)) (sym c.adopt.ensures.links)
    (exact_adopted c.args.tables.now.heights c.level_each.new.levels c.adopt.new.table.heights c.args.tables.now.links (bound c.args.tables.now.heights (Some c.args.tables.now.heights))
    c.in_ok-level_each.ensures.levels c.adopt.result c.adopt.ensures.adopted c.adopt.ensures.points c.in_ok-level_each.ensures.each)
