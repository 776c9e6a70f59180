use Rattle.std.specs.Prelude.{option_copied}
use Rattle.link_table.specs.Walks.{kids_left}
use Rattle.height_order.specs.Levels.{bound}
use Rattle.height_order.proofs.Levelling.{LevelsKids}
use Rattle.height_order.proofs.levels.+level_below.Given as goal

abbrev pub decreases-level_below : goal.decreases-level_below
decreases-level_below g l = l.most

abbrev pub invariant-loop-kid : goal.invariant-loop-kid
invariant-loop-kid g l =
    let web = g.T.HeightTable.web l.table in
    LevelsKids web.links (bound web.heights (option_copied l.free)) l.fn.levels l.levels l.fn.p l.fn.most l.level (kids_left l.kid-iterator)
