use Rattle.std.proofs.Common.{◌≡◌, ◌≤◌, Some, ap, sym, subst, ◌∙◌, is_some, option_map, arith}
use Rattle.std.specs.Prelude.{option_and_then}
use Rattle.point_map.specs.Rows.{at}
use Rattle.point_map.specs.Buckets.{kept_at}
use Rattle.recompute_heap.specs.Agree.{Agree, HasBuckets, heights_of}
use Rattle.recompute_heap.proofs.Agreeing.{agree_off, height_off, height_none, view_at, every_off, every_height, none_there, none_counted, buckets_same}
use Rattle.recompute_heap.proofs.heap.RecomputeHeap.pop_least.Goals as goal

pub remove-place-requires : goal.remove-place-requires
remove-place-requires c =
    let now = c.loop-self.self-inside in
    let bs = c.loop-self.invariant.1 in
    let half = subst (λ m. Agree (at m) (kept_at c.self.inside.buckets)) (sym c.loop-self.invariant.0) c.self.invariant.0 in
    let agree = subst (λ b. Agree (at now.places) (kept_at b)) (sym bs) half in
    let was = c.in-Some.ensures.was in
    let there = agree.placed c.in-Some._place (record { bucket = now.least; point = c.in-Some.p; row = tt }) was in
    record { there = ap is_some there }

pub invariant_of-self-in-Some : goal.invariant_of-self-in-Some
invariant_of-self-in-Some c =
    let now = c.loop-self.self-inside in
    let bs = c.loop-self.invariant.1 in
    let half = subst (λ m. Agree (at m) (kept_at c.self.inside.buckets)) (sym c.loop-self.invariant.0) c.self.invariant.0 in
    let agree = subst (λ b. Agree (at now.places) (kept_at b)) (sym bs) half in
    let was = c.in-Some.ensures.was in
    let there = agree.placed c.in-Some._place (record { bucket = now.least; point = c.in-Some.p; row = tt }) was in (
      agree_off (at now.places) (at c.remove-place.new.self) (kept_at now.buckets) (kept_at c.pop.new.self) c.in-Some.p c.in-Some._place agree
          there c.remove-place.ensures.changes.changed c.remove-place.ensures.changes.others c.in-Some.ensures.changes.changed
          c.in-Some.ensures.changes.others,
      every_off (λ k. now.least ≤ k.bucket) now.buckets c.pop.new.self c.in-Some._place c.loop-self.invariant.2 c.in-Some.ensures.changes,
      buckets_same now.buckets c.pop.new.self 129 (subst (λ b. HasBuckets b 129) (sym bs) c.self.invariant.2) c.in-Some.ensures.width
          (omega (arith, c.in-Some.ensures.spare, c.in-Some.ensures.count)),
      omega (
        arith,
        c.in-Some.ensures.spare,
        c.remove-place.ensures.spare,
        ap (λ b. b.spare) bs,
        ap
            (λ m. m.spare) c.loop-self.invariant.0,
        c.self.invariant.3,
      ),
      c.loop-self.invariant.3,
      every_off (λ k. k.bucket ≤ 128) now.buckets c.pop.new.self c.in-Some._place
          (subst (λ b. (i : _) (k : _) → kept_at b i ≡ Some k → k.bucket ≤ 128) (sym bs) c.self.invariant.5) c.in-Some.ensures.changes,
    )

pub returns-in-Some-clause-was : goal.returns-in-Some-clause-was
returns-in-Some-clause-was c =
    let now = c.loop-self.self-inside in
    let bs = c.loop-self.invariant.1 in
    let half = subst (λ m. Agree (at m) (kept_at c.self.inside.buckets)) (sym c.loop-self.invariant.0) c.self.invariant.0 in
    let agree = subst (λ b. Agree (at now.places) (kept_at b)) (sym bs) half in
    let was = c.in-Some.ensures.was in
    let there = agree.placed c.in-Some._place (record { bucket = now.least; point = c.in-Some.p; row = tt }) was in
    let view = ap (λ b. record { places = heights_of b.kept; spare = b.spare }) bs ∙ c.self.view_is in
    sym (ap (λ m. at m c.in-Some.p) view) ∙ view_at now.buckets.kept (at now.places) agree c.in-Some.p
    ∙ ap (option_and_then (λ i. option_map (λ k. k.bucket) (kept_at now.buckets i))) there ∙ ap (option_map (λ k. k.bucket)) was

pub returns-in-Some-clause-least : goal.returns-in-Some-clause-least
returns-in-Some-clause-least c = λ p h is.
    let now = c.loop-self.self-inside in
    let bs = c.loop-self.invariant.1 in
    let half = subst (λ m. Agree (at m) (kept_at c.self.inside.buckets)) (sym c.loop-self.invariant.0) c.self.invariant.0 in
    let agree = subst (λ b. Agree (at now.places) (kept_at b)) (sym bs) half in
    let view = ap (λ b. record { places = heights_of b.kept; spare = b.spare }) bs ∙ c.self.view_is in
    every_height (λ n. now.least ≤ n) now.buckets p h c.loop-self.invariant.2 (ap (λ m. at m p) view ∙ is)

pub returns-in-Some-clause-changes : goal.returns-in-Some-clause-changes
returns-in-Some-clause-changes c =
    let now = c.loop-self.self-inside in
    let bs = c.loop-self.invariant.1 in
    let half = subst (λ m. Agree (at m) (kept_at c.self.inside.buckets)) (sym c.loop-self.invariant.0) c.self.invariant.0 in
    let agree = subst (λ b. Agree (at now.places) (kept_at b)) (sym bs) half in
    let was = c.in-Some.ensures.was in
    let there = agree.placed c.in-Some._place (record { bucket = now.least; point = c.in-Some.p; row = tt }) was in
    let view = ap (λ b. record { places = heights_of b.kept; spare = b.spare }) bs ∙ c.self.view_is in
    let left = agree_off (at now.places) (at c.remove-place.new.self) (kept_at now.buckets)
    (kept_at c.pop.new.self) c.in-Some.p c.in-Some._place agree
    there c.remove-place.ensures.changes.changed c.remove-place.ensures.changes.others c.in-Some.ensures.changes.changed
    c.in-Some.ensures.changes.others in
    record {
      changed = view_at c.pop.new.self.kept (at c.remove-place.new.self) left c.in-Some.p ∙ height_none (at now.places)
          (at c.remove-place.new.self) (kept_at now.buckets) (kept_at c.pop.new.self) c.in-Some.p c.in-Some._place agree
          there c.remove-place.ensures.changes.changed c.remove-place.ensures.changes.others c.in-Some.ensures.changes.changed
          c.in-Some.ensures.changes.others;
      others = λ x differs. view_at c.pop.new.self.kept (at c.remove-place.new.self) left x ∙ height_off (at now.places)
          (at c.remove-place.new.self) (kept_at now.buckets) (kept_at c.pop.new.self) c.in-Some.p c.in-Some._place agree
          there c.remove-place.ensures.changes.changed c.remove-place.ensures.changes.others c.in-Some.ensures.changes.changed
          c.in-Some.ensures.changes.others x differs
          ∙ sym (view_at now.buckets.kept (at now.places) agree x) ∙ ap (λ m. at m x) view;
    }

pub returns-clause-none : goal.returns-clause-none
returns-clause-none c = λ p.
    let now = c.loop-self.self-inside in
    let bs = c.loop-self.invariant.1 in
    let half = subst (λ m. Agree (at m) (kept_at c.self.inside.buckets)) (sym c.loop-self.invariant.0) c.self.invariant.0 in
    let agree = subst (λ b. Agree (at now.places) (kept_at b)) (sym bs) half in
    let view = ap (λ b. record { places = heights_of b.kept; spare = b.spare }) bs ∙ c.self.view_is in
    let out = c.loop-self-test.false in
    sym (ap (λ m. at m p) view) ∙ none_there now.buckets now.least p c.loop-self.invariant.2
    (subst (λ b. (i : _) (k : _) → kept_at b i ≡ Some k → k.bucket ≤ 128) (sym bs) c.self.invariant.5) (omega (arith, out))

pub returns-then-len-eq0-clause-none : goal.returns-then-len-eq0-clause-none
returns-then-len-eq0-clause-none c = λ p.
    sym (ap (λ m. at m p) c.self.view_is) ∙ none_counted c.self.inside.buckets.kept p (sym c.len.ensures ∙ c.if-len-eq0.true)
