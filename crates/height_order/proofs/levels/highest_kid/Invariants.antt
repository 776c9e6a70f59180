use Rattle.std.proofs.Common.{◌≡◌, ◌≤◌}
use Rattle.std.specs.Prelude.{option_copied}
use Rattle.link_table.specs.Links.{Reads}
use Rattle.link_table.specs.Walks.{kids_left}
use Rattle.height_order.specs.Levels.{bound}
use Rattle.height_order.proofs.Covering.{Covers}
use Rattle.height_order.proofs.levels.highest_kid.Given as goal

abbrev pub invariant-loop-kid : goal.invariant-loop-kid
invariant-loop-kid g l =
    let web = g.T.HeightTable.web l.table in record {
      kid : Reads web.links l.fn.p l.highest;
      most : l.most ≡ bound web.heights (option_copied l.free) l.highest;
      covers : Covers (Reads web.links l.fn.p) (λ k. bound web.heights (option_copied l.free) k ≤ l.most) (kids_left l.kid-iterator);
    }
