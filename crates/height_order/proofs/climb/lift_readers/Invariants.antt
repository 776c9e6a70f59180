use Rattle.inc_value.specs.declared.node.Point.{Point}
use Rattle.link_table.specs.Links.{Reads}
use Rattle.link_table.specs.Walks.{readers_left}
use Rattle.height_order.specs.Levels.{level}
use Rattle.height_order.specs.Climbs.{IsClimbing, KeepsDone}
use Rattle.height_order.proofs.Covering.{Occurs}
use Rattle.height_order.proofs.climb.lift_readers.Given as goal

abbrev pub invariant-loop-reader : goal.invariant-loop-reader
invariant-loop-reader g l =
    let web = g.T.HeightTable.web l.table in record {
      climbing : IsClimbing web.heights web.links l.new.reader l.new.kid l.lifts l.queue (level web.heights l.x) l.x (readers_left l.reader-iterator);
      among : (r : Point) → Occurs (readers_left l.reader-iterator) r → Reads web.links r l.x;
      kept : KeepsDone l.fn.lifts l.lifts l.fn.queue l.queue;
    }
