-- What a contract sees of points kept in buckets, and how their chains are linked.
use Rattle.std.specs.Prelude.{◌≡◌, ◌≢◌, ℕ, List, Option, Some, None, is_some, IsSome, count_by, slice_index_or, slice_set, option_map}
use Rattle.inc_value.specs.declared.node.Point.{Point}

-- a point in a bucket, with its row
pub record Kept (R : Type 0) : Type 0 where
  pub bucket : ℕ
  pub point : Point
  pub row : R

-- what is kept at each place, how many buckets there are, and how many points can still be pushed without memory
pub record Buckets (R : Type 0) : Type 0 where
  pub kept : List (Option (Kept R))
  pub width : ℕ
  pub spare : ℕ

module _ {R : Type 0} where
  -- what is kept at a place
  abbrev pub kept_at : Buckets R → ℕ → Option (Kept R)
  kept_at b i = slice_index_or b.kept i None

  -- how many points are kept
  abbrev pub kept_count : Buckets R → ℕ
  kept_count b = count_by is_some b.kept

  -- a point with another row
  abbrev pub kept_with : R → Kept R → Kept R
  kept_with row k = record { bucket = k.bucket; point = k.point; row = row }

  -- the point at a place has another row
  abbrev pub with_row : Buckets R → ℕ → R → Buckets R
  with_row b i row = record { kept = slice_set b.kept i (option_map (kept_with row) (kept_at b i)); width = b.width; spare = b.spare }

  -- one place changes, and every other keeps what it had
  pub record KeptChanges (old new : Buckets R) (i : ℕ) (k : Option (Kept R)) : Type 0 where
    pub changed : kept_at new i ≡ k
    pub others : (j : ℕ) → j ≢ i → kept_at new j ≡ kept_at old j

  -- the place keeps a point of the bucket
  pub record IsKeptIn (b : Buckets R) (bucket : ℕ) (i : ℕ) : Type 0 where
    pub kept : Kept R
    pub there : kept_at b i ≡ Some kept
    pub within : kept.bucket ≡ bucket

  -- no place keeps a point of the bucket
  abbrev pub IsEmptyBucket : Buckets R → ℕ → Type 0
  IsEmptyBucket b bucket = (i : ℕ) (k : Kept R) → kept_at b i ≡ Some k → k.bucket ≢ bucket

  -- a place's point is off, and the point that stood at the place now vacant stands there in its stead
  pub record IsTaken (old new : Buckets R) (i : ℕ) : Type 0 where
    pub vacated : ℕ
    pub stood : IsSome (kept_at old vacated)
    pub vacant : kept_at new vacated ≡ None
    pub moved : vacated ≢ i → kept_at new i ≡ kept_at old vacated
    pub others : (j : ℕ) → j ≢ i → j ≢ vacated → kept_at new j ≡ kept_at old j

  -- the place has this point with this row
  abbrev pub IsAt : Option (Kept R) → Point → R → Type 0
  IsAt None point row = ⊥
  IsAt (Some k) point row = (k.point ≡ point) × (k.row ≡ row)
