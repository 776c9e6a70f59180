use Rattle.std.proofs.Common.{◌<◌, ◌≤◌, ◌+◌, ◌-◌, length}
use Rattle.link_table.specs.Links.{Reads}
use Rattle.height_order.specs.Chains.{IsChain, EndsAt}
use Rattle.height_order.specs.Levels.{level}
use Rattle.height_order.proofs.levels.long_chain.Given as goal

abbrev pub invariant-loop-last : goal.invariant-loop-last
invariant-loop-last g l =
    let web = g.T.HeightTable.web l.table in record {
      chain : IsChain (Reads web.links) l.list.items;
      ends : EndsAt l.list.items l.last;
      high : 129 < level l.levels l.last + length l.list.items;
      few : length l.list.items ≤ 130;
    }

abbrev pub decreases-loop-last : goal.decreases-loop-last
decreases-loop-last g l = 130 - length l.list.items
