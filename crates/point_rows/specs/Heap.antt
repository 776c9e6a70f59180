-- How the points of a heap know their places in it.
use Rattle.std.specs.Prelude.{◌≤◌, ℕ, Option}
use Rattle.inc_value.specs.declared.node.Point.{Point}
use Rattle.point_map.specs.Rows.{Rows}
use Rattle.point_map.specs.Buckets.{Buckets, kept_at}
use Rattle.recompute_heap.specs.Agree.{heights_of, Agree, HasBuckets, NoneBelow, NoneAbove}

module _ {R : Type 0} where
  -- each point that is kept has its place, there are 129 buckets, and none below the least has a point
  pub record IsHeap (place : Point → Option ℕ) (b : Buckets R) (least : ℕ) : Type 0 where
    pub agree : Agree place (kept_at b)
    pub below : NoneBelow b least
    pub above : NoneAbove b 128
    pub wide : HasBuckets b 129
    pub low : least ≤ 129

  -- the points that are kept, with their heights
  abbrev pub seen : Buckets R → Rows ℕ
  seen b = record { places = heights_of b.kept; spare = b.spare }
