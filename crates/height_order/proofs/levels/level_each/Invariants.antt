use Rattle.std.specs.Prelude.{◌⊎◌, Some}
use Rattle.inc_value.specs.declared.node.Point.{Point}
use Rattle.point_map.specs.Rows.{Holds}
use Rattle.link_table.specs.Links.{Reads}
use Rattle.height_order.specs.Chains.{Leads}
use Rattle.height_order.specs.Levels.{bound, AreLevels}
use Rattle.height_order.proofs.Walking.{EachBelow}
use Rattle.height_order.proofs.levels.level_each.Given as goal

abbrev pub invariant-loop-i : goal.invariant-loop-i
invariant-loop-i g l =
    let web = g.T.HeightTable.web l.table in record {
      levels_so : AreLevels web.links (bound web.heights (Some l.points)) l.levels;
      each : EachBelow l.points (λ p. Holds l.levels p) l.i;
      below : (x : Point) → Holds l.levels x → Holds l.fn.levels x ⊎ ((p : Point) × Holds l.points p × Leads (Reads web.links) p x);
    }
