-- How a map by points is kept in buckets: each point in the bucket of its slot.
use Rattle.std.specs.Prelude.{◌≡◌, ℕ, ◌<◌, ◌%◌, List, Option, Some, map, option_map}
use Rattle.inc_value.specs.declared.node.Point.{Point}
use Rattle.point_map.specs.Buckets.{Kept, Buckets, kept_at}
use Rattle.point_map.specs.Rows.{Rows, Place, StandsOnce}

-- the bucket of a point, among so many
abbrev pub own_bucket : Point → ℕ → ℕ
own_bucket p width = p.node.slot % width

module _ {R : Type 0} where
  -- a kept point with its row
  abbrev pub entry_of : Kept R → Point × R
  entry_of k = (k.point, k.row)

  -- the places of what is kept
  abbrev pub places_of : List (Option (Kept R)) → List (Place R)
  places_of kept = map (option_map entry_of) kept

  -- buckets seen as a map by points
  abbrev pub rows_of : Buckets R → Rows R
  rows_of b = record { places = places_of b.kept; spare = b.spare }

  -- a kept point is in its own bucket, among so many
  pub record IsInOwn (width : ℕ) (k : Kept R) : Type 0 where
    pub wide : 0 < width
    pub own : k.bucket ≡ own_bucket k.point width

  -- each point is kept once, in its own bucket, and where there is room there are buckets
  pub record IsBySlot (b : Buckets R) : Type 0 where
    pub once : StandsOnce (places_of b.kept)
    pub own : (i : ℕ) (k : Kept R) → kept_at b i ≡ Some k → IsInOwn b.width k
    pub wide : 0 < b.spare → 0 < b.width
