use Rattle.std.proofs.Common.{ap, sym, ◌∙◌, is_some}
use Rattle.point_map.specs.Rows.{at}
use Rattle.recompute_heap.proofs.Agreeing.{some_height}
use Rattle.recompute_heap.proofs.heap.RecomputeHeap.holds.Goals as goal

pub returns : goal.returns
returns c =
    c.holds.ensures ∙ sym (some_height c.self.inside.buckets.kept (at c.self.inside.places) c.args.p c.self.invariant.0)
    ∙ ap (λ m. is_some (at m c.args.p)) c.self.view_is
