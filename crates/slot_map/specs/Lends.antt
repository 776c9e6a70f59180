-- What a map by slots ends as, where a `&mut` to one of its rows is returned.
use Rattle.std.specs.Prelude.{◌≡◌, Option, Some, OnSome}
use Rattle.std.specs.Borrow.{LendsSo, Fml, RattleType, MutBor}
use Rattle.inc_value.specs.declared.node.Point.{Point}
use Rattle.point_map.specs.Rows.{Rows, Changes}
use Rattle.slot_map.specs.contracts.map.SlotMap.{the_row}

-- once the borrow r ends, the point has the last row written through r, and at `None` the map stays as it is
abbrev pub lends_row : (R : RattleType) → MutBor (Rows R.Denot) → Point → Option (MutBor R.Denot) → Fml
lends_row R m p r = LendsSo (the_row R) R m r (λ n w. OnSome r (Changes m.now n p (Some w))) (λ n. n ≡ m.now)
