use Rattle.std.proofs.Common.{◌∙◌, sym, inl, arith}
use Rattle.point_map.specs.Rows.{at, Holds}
use Rattle.height_order.proofs.Points.{some_there}
use Rattle.height_order.proofs.Walking.{each_point, each_vacant, each_whole, stands_there}
use Rattle.height_order.proofs.Levelling.{below_more, stays_there}
use Rattle.height_order.proofs.levels.level_each.Goals as goal

pub loop-i-init : goal.loop-i-init
loop-i-init g c = record {
  levels_so = c.requires.levels;
  each = λ k q less. absurd (omega (arith, less));
  below = λ x there. inl there;
}

pub loop-i-preserved-in_default : goal.loop-i-preserved-in_default
loop-i-preserved-in_default g c =
    let so = c.loop-i.invariant in
    record {
      levels_so = so.levels_so;
      each = each_vacant c.args.points.now (λ q. Holds c.loop-i.levels q) c.loop-i.i so.each (sym c.point_at.ensures ∙ c.in_default.is);
      below = so.below;
    }

pub loop-i-preserved : goal.loop-i-preserved
loop-i-preserved g c =
    let web = g.T.HeightTable.web c.args.table.now in
    let links = web.links in
    let new = c.level_below.new.levels in
    let p = c.in-Some.p in
    let so = c.loop-i.invariant in
    let adds = c.in_ok-level_below.ensures.adds in
    record {
      levels_so = c.in_ok-level_below.ensures.levels;
      each = each_point c.args.points.now (λ q. Holds new q) c.loop-i.i p (λ k q less at_k. stays_there links c.loop-i.levels new p q adds (so.each k q less at_k))
          (sym c.in-Some.ensures) (some_there (at new p) c.in_ok-level_below.field-0 c.in_ok-level_below.ensures.level);
      below = λ x there. below_more links c.args.points.now c.args.levels.now c.loop-i.levels p x
          (stands_there c.args.points.now c.places-i-end.result c.loop-i.i p c.places-i-end.ensures (sym c.in-Some.ensures)) (so.below x) (adds.below x there);
    }

pub returns-clause-each : goal.returns-clause-each
returns-clause-each g c =
    each_whole c.args.points.now (λ q. Holds c.loop-i.levels q) c.places-i-end.result c.loop-i.i c.places-i-end.ensures c.loop-i-test.false c.loop-i.invariant.each

pub returns-clause-levels : goal.returns-clause-levels
returns-clause-levels g c = c.loop-i.invariant.levels_so

pub returns-clause-below : goal.returns-clause-below
returns-clause-below g c = c.loop-i.invariant.below
