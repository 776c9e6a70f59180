use Rattle.std.proofs.Common.{◌≤◌}
use Rattle.height_order.specs.Climbs.{lifted}
use Rattle.height_order.proofs.Walking.{EachBelow}
use Rattle.height_order.proofs.lifts.any_too_high.Given as goal

abbrev pub invariant-loop-i : goal.invariant-loop-i
invariant-loop-i g l =
    let web = g.T.HeightTable.web l.table in
    EachBelow l.lifts (λ p. lifted web.heights l.lifts p ≤ 128) l.i
