-- How the places of a heap's points agree with its buckets.
use Rattle.std.specs.Prelude.{◌≡◌, ◌+◌, ◌<◌, ◌≤◌, ℕ, List, Option, Some, None, map, option_map}
use Rattle.inc_value.specs.declared.node.Point.{Point}
use Rattle.point_map.specs.Rows.{Rows, at}
use Rattle.point_map.specs.Buckets.{Kept, Buckets, kept_at, kept_count}

module _ {R : Type 0} where
  -- a point with its height
  abbrev pub leveled : Kept R → Point × ℕ
  leveled k = (k.point, k.bucket)

  -- the points with their heights, as they stand
  abbrev pub heights_of : List (Option (Kept R)) → List (Option (Point × ℕ))
  heights_of kept = map (option_map leveled) kept

  -- each point's place has it, and each point that is kept has its place
  pub record Agree (place : Point → Option ℕ) (kept : ℕ → Option (Kept R)) : Type 0 where
    pub held : (p : Point) (i : ℕ) → place p ≡ Some i → (k : Kept R) × (kept i ≡ Some k) × (k.point ≡ p)
    pub placed : (i : ℕ) (k : Kept R) → kept i ≡ Some k → place k.point ≡ Some i

  -- there are so many buckets, or none yet, where no point is kept and there is no room for one
  pub record HasBuckets (b : Buckets R) (width : ℕ) : Type 0 where
    pub few : b.width ≤ width
    pub all : 0 < kept_count b + b.spare → b.width ≡ width

  -- this is so of each point that is kept
  abbrev pub EveryKept : (Kept R → Type 0) → Buckets R → Type 0
  EveryKept P b = (i : ℕ) (k : Kept R) → kept_at b i ≡ Some k → P k

  -- no bucket below the least has a point
  abbrev pub NoneBelow : Buckets R → ℕ → Type 0
  NoneBelow b least = EveryKept (λ k. least ≤ k.bucket) b

  -- no height is above the greatest
  abbrev pub NoneAbove : Buckets R → ℕ → Type 0
  NoneAbove b greatest = EveryKept (λ k. k.bucket ≤ greatest) b

-- the height is no greater than that of any point there
abbrev pub IsLeast : Rows ℕ → ℕ → Type 0
IsLeast heap h = (p : Point) (other : ℕ) → at heap p ≡ Some other → h ≤ other

-- no point is there
abbrev pub IsEmpty : Rows ℕ → Type 0
IsEmpty heap = (p : Point) → at heap p ≡ None
