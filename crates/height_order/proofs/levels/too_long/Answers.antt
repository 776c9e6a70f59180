use Rattle.std.proofs.Common.{◌≤◌}
use Rattle.height_order.specs.Levels.{level}
use Rattle.height_order.proofs.Walking.{each_whole}
use Rattle.height_order.proofs.Levelling.{low_there}
use Rattle.height_order.proofs.levels.too_long.Goals as goal

pub returns-clause-none : goal.returns-clause-none
returns-clause-none c p =
    low_there c.args.levels.now (each_whole c.args.levels.now (λ x. level c.args.levels.now x ≤ 128) c.places-i-end.result c.loop-i.i c.places-i-end.ensures
    c.loop-i-test.false c.loop-i.invariant) p
