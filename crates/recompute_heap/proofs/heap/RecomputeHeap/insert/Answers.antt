use Rattle.std.proofs.Common.{◌≤◌, refl, ap, sym, ◌∙◌, arith}
use Rattle.point_map.specs.Rows.{at}
use Rattle.point_map.specs.Buckets.{kept_at}
use Rattle.recompute_heap.proofs.Agreeing.{absent_place, agree_put, height_put, height_new, view_at, every_put, buckets_same}
use Rattle.recompute_heap.proofs.heap.RecomputeHeap.insert.Goals as goal

pub insert-requires-clause-absent : goal.insert-requires-clause-absent
insert-requires-clause-absent c =
    absent_place c.self.inside.buckets.kept (at c.self.inside.places) c.args.p c.self.invariant.0 (ap (λ m. at m c.args.p) c.self.view_is
    ∙ c.requires.absent)

pub invariant_of-self : goal.invariant_of-self
invariant_of-self c =
    let e = c.push-place.ensures in
    let i = c.insert.ensures.changes in
    let absent = absent_place c.self.inside.buckets.kept (at c.self.inside.places) c.args.p c.self.invariant.0 (ap
    (λ m. at m c.args.p) c.self.view_is ∙ c.requires.absent) in (
      agree_put (at c.self.inside.places) (at c.insert.new.self) (kept_at c.self.inside.buckets)
          (kept_at c.push-place.new.self) c.args.p c.push-place.result
          (record { bucket = c.args.height; point = c.args.p; row = tt }) c.self.invariant.0 absent e.vacant i.changed i.others
          e.changes.changed refl e.changes.others,
      every_put (λ k. c.min-self-inside.result ≤ k.bucket) c.self.inside.buckets c.push-place.new.self c.push-place.result
          (record { bucket = c.args.height; point = c.args.p; row = tt })
          (λ j k h. let was = c.self.invariant.1 j k h in let m = c.min-self-inside.ensures in grind (arith, m, was)) e.changes
          (let m = c.min-self-inside.ensures in grind (arith, m)),
      buckets_same c.self.inside.buckets c.push-place.new.self 129 c.self.invariant.2 e.width (omega (arith, e.spare, e.count)),
      omega (arith, e.spare, c.insert.ensures.spare, c.self.invariant.3),
      (let m = c.min-self-inside.ensures in grind (arith, m, c.self.invariant.4)),
      every_put (λ k. k.bucket ≤ 128) c.self.inside.buckets c.push-place.new.self c.push-place.result
          (record { bucket = c.args.height; point = c.args.p; row = tt }) c.self.invariant.5 e.changes c.requires.low,
    )

pub returns-clause-changes : goal.returns-clause-changes
returns-clause-changes c =
    let e = c.push-place.ensures in
    let i = c.insert.ensures.changes in
    let absent = absent_place c.self.inside.buckets.kept (at c.self.inside.places) c.args.p c.self.invariant.0 (ap
    (λ m. at m c.args.p) c.self.view_is ∙ c.requires.absent) in
    let agree = agree_put (at c.self.inside.places) (at c.insert.new.self) (kept_at c.self.inside.buckets)
    (kept_at c.push-place.new.self) c.args.p c.push-place.result
    (record { bucket = c.args.height; point = c.args.p; row = tt }) c.self.invariant.0 absent e.vacant i.changed i.others e.changes.changed
    refl e.changes.others in
    record {
      changed = view_at c.push-place.new.self.kept (at c.insert.new.self) agree c.args.p
          ∙ height_new (at c.self.inside.places) (at c.insert.new.self) (kept_at c.self.inside.buckets)
          (kept_at c.push-place.new.self) c.args.p c.push-place.result
          (record { bucket = c.args.height; point = c.args.p; row = tt }) c.self.invariant.0 absent e.vacant i.changed i.others
          e.changes.changed refl e.changes.others;
      others = λ q differs. view_at c.push-place.new.self.kept (at c.insert.new.self) agree q
          ∙ height_put (at c.self.inside.places) (at c.insert.new.self) (kept_at c.self.inside.buckets)
          (kept_at c.push-place.new.self) c.args.p c.push-place.result
          (record { bucket = c.args.height; point = c.args.p; row = tt }) c.self.invariant.0 absent e.vacant i.changed i.others
          e.changes.changed refl e.changes.others q differs
          ∙ sym (view_at c.self.inside.buckets.kept (at c.self.inside.places) c.self.invariant.0 q) ∙ ap (λ m. at m q) c.self.view_is;
    }
