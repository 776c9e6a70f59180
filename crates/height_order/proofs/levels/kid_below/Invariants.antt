use Rattle.std.proofs.Common.{◌<◌, ◌+◌}
use Rattle.link_table.specs.Links.{Reads}
use Rattle.link_table.specs.Walks.{kids_left}
use Rattle.height_order.specs.Levels.{level}
use Rattle.height_order.proofs.Covering.{Covers}
use Rattle.height_order.proofs.levels.kid_below.Given as goal

abbrev pub invariant-loop-kid : goal.invariant-loop-kid
invariant-loop-kid g l =
    let web = g.T.HeightTable.web l.table in record {
      covers : Covers (Reads web.links l.fn.p) (λ k. level l.levels k + 1 < level l.levels l.fn.p) (kids_left l.kid-iterator);
    }
