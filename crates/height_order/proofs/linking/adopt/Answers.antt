use Rattle.std.proofs.Common.{◌∙◌, ◌+◌, refl, sym, subst, arith}
use Rattle.height_order.specs.Levels.{level, levelled, Tells}
use Rattle.height_order.proofs.Points.{still_there}
use Rattle.height_order.proofs.Walking.{stands_there}
use Rattle.height_order.proofs.Levelling.{levelled_none, levelled_there}
use Rattle.height_order.proofs.Moving.{Writes, writes_none, writes_vacant, writes_same, writes_more, writes_whole}
use Rattle.height_order.proofs.Sounding.{tells_none}
use Rattle.height_order.proofs.linking.adopt.Goals as goal

pub returns-in_err-reserve-clause-moved : goal.returns-in_err-reserve-clause-moved
returns-in_err-reserve-clause-moved g c =
    let web = g.T.HeightTable.web in
    let level_now = level (web c.args.table.now).heights in
    subst (λ after. Tells level_now level_now c.args.moved.now.items after) (sym c.reserve.ensures.items)
    (tells_none level_now level_now c.args.moved.now.items (λ x. refl))

pub loop-i-init : goal.loop-i-init
loop-i-init g c =
    let web = g.T.HeightTable.web in record {
      writes = writes_none c.args.levels.now (levelled (web c.args.table.now).heights c.args.levels.now) (web c.args.table.now).heights c.args.moved.now.items c.reserve.new.self.items
          c.reserve.ensures.items;
      links = refl;
      rest = refl;
      room = (let r = c.in_ok-reserve.ensures.ok in omega (arith, r));
    }

pub loop-i-preserved-in_default : goal.loop-i-preserved-in_default
loop-i-preserved-in_default g c =
    let web = g.T.HeightTable.web in
    let so = c.loop-i.invariant in
    record {
      writes = writes_vacant c.args.levels.now (levelled (web c.args.table.now).heights c.args.levels.now) (web c.args.table.now).heights c.args.moved.now.items
          (web c.loop-i.table).heights c.loop-i.moved.items c.loop-i.i so.writes (sym c.point_at.ensures ∙ c.in_default.is);
      links = so.links;
      rest = so.rest;
      room = (let r = so.room in omega (arith, r));
    }

pub loop-i-preserved-then-level_of-height : goal.loop-i-preserved-then-level_of-height
loop-i-preserved-then-level_of-height g c =
    let web = g.T.HeightTable.web in
    let heights = (web c.args.table.now).heights in
    let levels = c.args.levels.now in
    let p = c.in-Some.p in
    let so = c.loop-i.invariant in
    let stands = stands_there levels c.places-places.result c.loop-i.i p c.places-places.ensures (sym c.in-Some.ensures) in
    let is = c.level_of-height.ensures ∙ sym (levelled_there heights levels p stands) in
    record {
      writes = writes_same levels (levelled heights levels) heights c.args.moved.now.items (web c.loop-i.table).heights c.loop-i.moved.items c.loop-i.i so.writes p
          (sym c.in-Some.ensures) (let a = c.level_of.ensures in let t = c.if-level_of-height.true in omega (arith, a, t, is));
      links = so.links;
      rest = so.rest;
      room = (let r = so.room in omega (arith, r));
    }

pub set_level-requires : goal.set_level-requires
set_level-requires g c =
    let web = g.T.HeightTable.web in
    let p = c.in-Some.p in
    record {
      there = still_there (web c.args.table.now).heights (web c.loop-i.table).heights p c.loop-i.invariant.writes.written.points
          (c.requires.there p (stands_there c.args.levels.now c.places-places.result c.loop-i.i p c.places-places.ensures (sym c.in-Some.ensures)));
    }

pub push_reserved-requires : goal.push_reserved-requires
push_reserved-requires g c = let t = c.loop-i-test.true in let r = c.loop-i.invariant.room in omega (arith, t, r)

pub loop-i-preserved : goal.loop-i-preserved
loop-i-preserved g c =
    let web = g.T.HeightTable.web in
    let heights = (web c.args.table.now).heights in
    let levels = c.args.levels.now in
    let p = c.in-Some.p in
    let so = c.loop-i.invariant in
    let now = (web c.loop-i.table).heights in
    let stands = stands_there levels c.places-places.result c.loop-i.i p c.places-places.ensures (sym c.in-Some.ensures) in
    let is = c.level_of-height.ensures ∙ sym (levelled_there heights levels p stands) in
    record {
      writes = subst (λ xs. Writes levels (levelled heights levels) heights c.args.moved.now.items (web c.set_level.new.self).heights xs (c.loop-i.i + 1)) (sym c.push_reserved.ensures.items)
          (writes_more levels (levelled heights levels) heights c.args.moved.now.items now c.loop-i.moved.items c.loop-i.i so.writes (web c.set_level.new.self).heights p
          c.level_of-height.result (sym c.in-Some.ensures)
          (λ e. let a = c.level_of.ensures in let f = c.if-level_of-height.false in omega (arith, a, f, is, e)) is
          (still_there heights now p so.writes.written.points (c.requires.there p stands)) c.set_level.ensures.changes);
      links = c.set_level.ensures.links ∙ so.links;
      rest = c.set_level.ensures.rest ∙ so.rest;
      room = (let n = c.push_reserved.ensures.len in let k = c.push_reserved.ensures.capacity in let r = so.room in omega (arith, n, k, r));
    }

pub returns-clause-adopted : goal.returns-clause-adopted
returns-clause-adopted g c =
    let web = g.T.HeightTable.web in
    writes_whole c.args.levels.now (levelled (web c.args.table.now).heights c.args.levels.now) (web c.args.table.now).heights c.args.moved.now.items (web c.loop-i.table).heights c.loop-i.moved.items
    c.loop-i.i c.loop-i.invariant.writes c.places-places.result c.places-places.ensures c.loop-i-test.false (levelled_none (web c.args.table.now).heights c.args.levels.now)

pub returns-clause-points : goal.returns-clause-points
returns-clause-points g c = c.loop-i.invariant.writes.written.points

pub returns-clause-moved : goal.returns-clause-moved
returns-clause-moved g c = c.loop-i.invariant.writes.told

pub returns-clause-links : goal.returns-clause-links
returns-clause-links g c = c.loop-i.invariant.links

pub returns-clause-rest : goal.returns-clause-rest
returns-clause-rest g c = c.loop-i.invariant.rest
