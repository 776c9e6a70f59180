use Rattle.std.proofs.Common.{◌≤◌}
use Rattle.height_order.specs.Climbs.{lifted}
use Rattle.height_order.proofs.Walking.{each_whole}
use Rattle.height_order.proofs.lifts.any_too_high.Goals as goal

pub returns-clause-low : goal.returns-clause-low
returns-clause-low g c _ =
    let web = g.T.HeightTable.web c.args.table.now in
    each_whole c.args.lifts.now (λ p. lifted web.heights c.args.lifts.now p ≤ 128) c.places-i-end.result c.loop-i.i c.places-i-end.ensures
    c.loop-i-test.false c.loop-i.invariant
