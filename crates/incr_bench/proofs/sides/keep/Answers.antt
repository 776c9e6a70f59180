use Rattle.std.proofs.Common.{refl}
use Rattle.incr_bench.proofs.Calls.{are_usable}
use Rattle.incr_bench.proofs.sides.keep.Goals as goal

pub more-requires-clause-keepable : goal.more-requires-clause-keepable
more-requires-clause-keepable c =
    let lines = rw (c.lines.ensures.value, c.draft.ensures.value) at c.if-not-can_call_lines.ensures in
    are_usable _ _ c.args.body (lines.0 refl)
