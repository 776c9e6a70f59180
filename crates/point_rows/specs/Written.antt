-- What writes to rows leave.
use Rattle.std.specs.Prelude.{◌≡◌, ◌≢◌, ℕ, Option}
use Rattle.inc_value.specs.declared.node.Point.{Point}
use Rattle.point_map.specs.Rows.{Rows, Holds, StandsOnce}
use Rattle.point_map.specs.Buckets.{Buckets}
use Rattle.link_table.specs.Ends.{IsTwoWay}
use Rattle.point_rows.specs.declared.row.Row.{Row}
use Rattle.point_rows.specs.declared.row.Side.{Side}
use Rattle.point_rows.specs.declared.row.Side.TheVariants.{Kids, Readers}
use Rattle.point_rows.specs.Cells.{side_ends, beyond, heights_of, roots_of, links_of, read_of, side_of, place_of}
use Rattle.point_rows.specs.Heap.{IsHeap, seen}
use Rattle.point_rows.specs.Standing.{Standing}

-- all of a row stays but the ends at one side
pub record KeepsBeyond (s : Side) (old new : Row) : Type 0 where
  pub height : new.height ≡ old.height
  pub roots : new.roots ≡ old.roots
  pub place : new.place ≡ old.place
  pub ends : side_ends (beyond s) new ≡ side_ends (beyond s) old

-- all stays but links
pub record KeepsRest (old new : Rows Row) : Type 0 where
  pub heights : heights_of new ≡ heights_of old
  pub roots : roots_of new ≡ roots_of old
  pub points : (x : Point) → Holds old x → Holds new x
  pub places : (x : Point) → place_of new x ≡ place_of old x

-- all stays but places in the heap
pub record KeepsViews (old new : Rows Row) : Type 0 where
  pub heights : heights_of new ≡ heights_of old
  pub roots : roots_of new ≡ roots_of old
  pub links : links_of new ≡ links_of old
  pub read : read_of new ≡ read_of old
  pub sides : (s : Side) → side_of s new ≡ side_of s old

-- the point has this place in the heap, and all else stays
pub record IsPlaced (old new : Rows Row) (p : Point) (place : Option ℕ) : Type 0 where
  pub here : place_of new p ≡ place
  pub others : (x : Point) → x ≢ p → place_of new x ≡ place_of old x
  pub keeps : KeepsViews old new
  pub once : StandsOnce new.places

-- no point has two rows, and the two sides know each other
pub record AreSound (m : Rows Row) : Type 0 where
  pub once : StandsOnce m.places
  pub two_way : IsTwoWay (side_of Kids m) (side_of Readers m)

-- what stands between any two calls
pub record IsKept {R : Type 0} (m : Rows Row) (b : Buckets R) (least : ℕ) : Type 0 where
  pub sound : AreSound m
  pub heap : IsHeap (place_of m) b least

-- rows and the buckets of a heap as one
abbrev pub standing_of : {R : Type 0} → Rows Row → Buckets R → Standing
standing_of m b = record { heights = heights_of m; roots = roots_of m; links = links_of m; read = read_of m; heap = seen b }
