-- What buckets, or a map by points, end as, where a `&mut` to one of their rows is returned.
use Rattle.std.specs.Prelude.{◌≡◌, ℕ, Option, Some, OnSome}
use Rattle.std.specs.Borrow.{LendsSo, Fml, RattleType, MutBor}
use Rattle.inc_value.specs.declared.node.Point.{Point}
use Rattle.point_map.specs.Buckets.{Buckets, with_row}
use Rattle.point_map.specs.Rows.{Rows, Changes, SamePoints, count}
use Rattle.point_map.specs.contracts.buckets.Buckets.{the_row as the_row_of_buckets}
use Rattle.point_map.specs.contracts.map.PointMap.{the_row}

-- once the borrow r ends, the place has the last row written through r, and at `None` the buckets stay as they are
abbrev pub lends_kept : (R : RattleType) → MutBor (Buckets R.Denot) → ℕ → Option (MutBor R.Denot) → Fml
lends_kept R b place r = LendsSo (the_row_of_buckets R) R b r (λ n w. n ≡ with_row b.now place w) (λ n. n ≡ b.now)

-- the point has this row, and all else is as it was
pub record IsWritten {R : Type 0} (old new : Rows R) (p : Point) (row : R) : Type 0 where
  pub changes : Changes old new p (Some row)
  pub points : SamePoints old new
  pub count : count new ≡ count old
  pub spare : new.spare ≡ old.spare

-- once the borrow r ends, the point has the last row written through r, and at `None` the map stays as it is
abbrev pub lends_row : (R : RattleType) → MutBor (Rows R.Denot) → Point → Option (MutBor R.Denot) → Fml
lends_row R m p r = LendsSo (the_row R) R m r (λ n w. OnSome r (IsWritten m.now n p w)) (λ n. n ≡ m.now)
