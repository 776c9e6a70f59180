use Rattle.point_map.specs.Rows.{Holds}
use Rattle.link_table.specs.Links.{Reads}
use Rattle.height_order.specs.Chains.{IsPath}
use Rattle.height_order.specs.Levels.{level}
use Rattle.height_order.proofs.climb.find_path.Given as goal

abbrev pub invariant-loop-new : goal.invariant-loop-new
invariant-loop-new g l =
    let web = g.T.HeightTable.web l.table in record {
      path : IsPath (Reads web.links) l.path.items l.new.kid l.last;
      lifted : Holds l.lifts l.last;
    }

abbrev pub decreases-loop-new : goal.decreases-loop-new
decreases-loop-new g l =
    let web = g.T.HeightTable.web l.table in
    level web.heights l.last
