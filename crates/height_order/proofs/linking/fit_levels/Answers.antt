use Rattle.std.proofs.Common.{Some, refl}
use Rattle.height_order.specs.Levels.{level, bound}
use Rattle.height_order.proofs.Levelling.{no_levels}
use Rattle.height_order.proofs.Ranking.{short_by_rank, bounded_by_rank, below_only, below_there}
use Rattle.height_order.proofs.Sounding.{tells_none}
use Rattle.height_order.proofs.Answering.{fitted_memory, fitted_chain, fitted_told}
use Rattle.height_order.proofs.linking.fit_levels.Goals as goal

pub level_each-requires-clause-levels : goal.level_each-requires-clause-levels
level_each-requires-clause-levels g c =
    let web = g.T.HeightTable.web in
    no_levels (web c.args.table.now).links (bound (web c.args.table.now).heights (Some c.args.lifts.now)) c.args.levels.now c.requires.none

pub level_each-requires-clause-bounds : goal.level_each-requires-clause-bounds
level_each-requires-clause-bounds g c =
    let web = g.T.HeightTable.web in
    bounded_by_rank (web c.args.table.now).heights c.args.lifts.now (web c.args.table.now).links c.requires.ranked

pub level_each-requires-clause-short : goal.level_each-requires-clause-short
level_each-requires-clause-short g c =
    let web = g.T.HeightTable.web in
    short_by_rank (web c.args.table.now).heights c.args.lifts.now (web c.args.table.now).links c.requires.ranked

pub returns-in-Err-clause-fitted : goal.returns-in-Err-clause-fitted
returns-in-Err-clause-fitted g c =
    let web = g.T.HeightTable.web in
    fitted_memory (web c.args.table.now).heights (web c.args.table.now).links c.args.lifts.now c.args.moved.now.items (web c.args.table.now).heights c.args.moved.now.items c.in-Err.e
    refl refl (λ x. refl) (tells_none (level (web c.args.table.now).heights) (level (web c.args.table.now).heights) c.args.moved.now.items (λ x. refl))

pub long_chain-requires-clause-next : goal.long_chain-requires-clause-next
long_chain-requires-clause-next g c = c.in-Ok.ensures.levels.next

pub returns-in-Ok-long_chain-clause-fitted : goal.returns-in-Ok-long_chain-clause-fitted
returns-in-Ok-long_chain-clause-fitted g c =
    let web = g.T.HeightTable.web in
    fitted_chain (web c.args.table.now).heights (web c.args.table.now).links c.args.lifts.now c.args.moved.now.items c.in-Ok-long_chain.chain
    c.in-Ok-long_chain.ensures.chain c.in-Ok-long_chain.ensures.length

pub returns-in-Err-long_chain-clause-fitted : goal.returns-in-Err-long_chain-clause-fitted
returns-in-Err-long_chain-clause-fitted g c =
    let web = g.T.HeightTable.web in
    fitted_memory (web c.args.table.now).heights (web c.args.table.now).links c.args.lifts.now c.args.moved.now.items (web c.args.table.now).heights c.args.moved.now.items c.in-Err-long_chain.e
    refl refl (λ x. refl) (tells_none (level (web c.args.table.now).heights) (level (web c.args.table.now).heights) c.args.moved.now.items (λ x. refl))

pub adopt-requires : goal.adopt-requires
adopt-requires g c =
    let web = g.T.HeightTable.web in record {
      there = below_there c.args.lifts.now c.args.levels.now c.level_each.new.levels (web c.args.table.now).links c.requires.none c.in-Ok.ensures.below
          (web c.args.table.now).heights c.requires.ends c.requires.there;
    }

pub returns-in-Ok-adopt-clause-fitted : goal.returns-in-Ok-adopt-clause-fitted
returns-in-Ok-adopt-clause-fitted g c =
    let web = g.T.HeightTable.web in
    fitted_told (web c.args.table.now).heights c.level_each.new.levels (web c.adopt.new.table).heights (web c.args.table.now).links c.args.lifts.now c.args.moved.now.items c.adopt.new.moved.items
    c.in-Ok.ensures.levels c.in-Ok-adopt.ensures.adopted c.requires.ranked c.in-Ok.ensures.each
    (below_only c.args.lifts.now c.args.levels.now c.level_each.new.levels (web c.args.table.now).links c.requires.none c.in-Ok.ensures.below)
    c.requires.ends c.requires.low c.in_default.ensures.none c.adopt.ensures.points c.adopt.ensures.moved

pub returns-in-Err-adopt-clause-fitted : goal.returns-in-Err-adopt-clause-fitted
returns-in-Err-adopt-clause-fitted g c =
    let web = g.T.HeightTable.web in
    fitted_memory (web c.args.table.now).heights (web c.args.table.now).links c.args.lifts.now c.args.moved.now.items (web c.adopt.new.table).heights c.adopt.new.moved.items c.in-Err-adopt.e
    c.in-Err-adopt.ensures.err c.in-Err-adopt.ensures.untold c.adopt.ensures.points c.adopt.ensures.moved
