use Rattle.std.proofs.Common.{ap, arith, length}
use Rattle.point_map.specs.Rows.{row_in}
use Rattle.timing_wheel.specs.Places.{place_of, key_point}
use Rattle.timing_wheel.proofs.Keeping.{none_at, none_inplace, none_keyed}
use Rattle.timing_wheel.proofs.levels.Levels.new.Goals as goal

pub invariant_of-result : goal.invariant_of-result
invariant_of-result c =
    let v = c.new.result in (
      none_inplace v c.new.ensures.none c.args.now,
      none_keyed v c.new.ensures.none (place_of c.new-2.result) (λ q. ap (λ es. row_in es (key_point q)) c.new-2.ensures.empty),
      λ o lt. none_at v c.new.ensures.none o,
      omega arith,
      (let e = ap length c.new.ensures.none in λ lt. omega (arith, e, lt, c.new.ensures.spare)),
      omega (arith, c.new.ensures.spare, c.new-2.ensures.spare),
    )
