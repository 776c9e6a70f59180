use Rattle.std.proofs.Common.{ℕ, ◌≡◌, ◌∙◌, ap, sym, arith}
use Rattle.std.specs.Prelude.{slice_index_or, None}
use Rattle.point_map.specs.Rows.{at}
use Rattle.point_map.specs.Buckets.{kept_at}
use Rattle.recompute_heap.proofs.Agreeing.{agree_same, buckets_full}
use Rattle.recompute_heap.proofs.heap.RecomputeHeap.reserve.Goals as goal

pub invariant_of-self-2 : goal.invariant_of-self-2
invariant_of-self-2 c =
    let e = c.reserve-2.ensures in
    let kept = e.kept ∙ c.widen.ensures.kept in
    let same : (i : ℕ) → kept_at c.reserve-2.new.self i ≡ kept_at c.self.inside.buckets i = λ i. ap (λ ks. slice_index_or ks i None) kept in (
      agree_same (at c.self.inside.places) (at c.reserve.new.self) (kept_at c.self.inside.buckets) (kept_at c.reserve-2.new.self) c.self.invariant.0
          c.reserve.ensures.rows same,
      (λ i k h. c.self.invariant.1 i k (sym (same i) ∙ h)),
      buckets_full c.self.inside.buckets c.reserve-2.new.self 129 c.self.invariant.2 (e.width ∙ c.in_ok-widen.ensures.width),
      grind (arith, e.exact, c.widen.ensures.spare, c.self.invariant.3, c.reserve.ensures.spare, (c.in_ok-reserve.ensures).room),
      c.self.invariant.4,
      (λ i k h. c.self.invariant.5 i k (sym (same i) ∙ h)),
    )
