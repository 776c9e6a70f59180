use Rattle.std.proofs.Common.{◌≤◌, ap, sym, ◌∙◌, is_some, arith}
use Rattle.point_map.specs.Rows.{at}
use Rattle.point_map.specs.Buckets.{kept_at}
use Rattle.recompute_heap.proofs.Agreeing.{some_height, agree_off, height_off, height_none, agree_moved, height_moved, height_gone, view_at, every_taken, vacated_is, point_from, point_none, buckets_same}
use Rattle.recompute_heap.proofs.heap.RecomputeHeap.remove.Goals as goal

pub remove-place-requires : goal.remove-place-requires
remove-place-requires c = record {
  there = sym (some_height c.self.inside.buckets.kept (at c.self.inside.places) c.args.p c.self.invariant.0)
      ∙ ap (λ m. is_some (at m c.args.p)) c.self.view_is ∙ c.requires.there;
}

pub invariant_of-self : goal.invariant_of-self
invariant_of-self c =
    let taken = c.take-taken.ensures.taken in
    let r = c.remove-place.ensures in
    let k = point_from (kept_at c.take-taken.new.self c.remove-place.result) c.in-Some.moved (sym c.point_at.ensures ∙ c.in-Some.is) in (
      agree_moved (at c.self.inside.places) (at c.remove-place.new.self) (at c.replace-was.new.self) (kept_at c.self.inside.buckets)
          (kept_at c.take-taken.new.self)
          c.args.p c.in-Some.moved c.remove-place.result taken.vacated k.0 c.self.invariant.0 r.value r.changes.changed r.changes.others
          taken.vacant taken.moved taken.others k.1 k.2 c.replace-was.ensures.changes.changed c.replace-was.ensures.changes.others,
      every_taken (λ k. c.self.inside.least ≤ k.bucket) c.self.inside.buckets c.take-taken.new.self c.remove-place.result c.self.invariant.1 taken,
      buckets_same c.self.inside.buckets c.take-taken.new.self 129 c.self.invariant.2 c.take-taken.ensures.width
          (omega (arith, c.take-taken.ensures.spare, c.take-taken.ensures.count)),
      omega (arith, c.take-taken.ensures.spare, r.spare, c.replace-was.ensures.spare, c.self.invariant.3),
      c.self.invariant.4,
      every_taken (λ k. k.bucket ≤ 128) c.self.inside.buckets c.take-taken.new.self c.remove-place.result c.self.invariant.5 taken,
    )

pub returns-in-Some-clause-changes : goal.returns-in-Some-clause-changes
returns-in-Some-clause-changes c =
    let taken = c.take-taken.ensures.taken in
    let r = c.remove-place.ensures in
    let k = point_from (kept_at c.take-taken.new.self c.remove-place.result) c.in-Some.moved (sym c.point_at.ensures ∙ c.in-Some.is) in
    let agree = agree_moved (at c.self.inside.places) (at c.remove-place.new.self) (at c.replace-was.new.self)
    (kept_at c.self.inside.buckets) (kept_at c.take-taken.new.self)
    c.args.p c.in-Some.moved c.remove-place.result taken.vacated k.0 c.self.invariant.0 r.value r.changes.changed r.changes.others
    taken.vacant taken.moved taken.others k.1 k.2 c.replace-was.ensures.changes.changed c.replace-was.ensures.changes.others in
    record {
      changed = view_at c.take-taken.new.self.kept (at c.replace-was.new.self) agree c.args.p ∙ height_gone (at c.self.inside.places)
          (at c.remove-place.new.self) (at c.replace-was.new.self) (kept_at c.self.inside.buckets) (kept_at c.take-taken.new.self)
          c.args.p c.in-Some.moved c.remove-place.result taken.vacated k.0 c.self.invariant.0 r.value r.changes.changed r.changes.others
          taken.vacant taken.moved taken.others k.1 k.2 c.replace-was.ensures.changes.changed c.replace-was.ensures.changes.others;
      others = λ x differs. view_at c.take-taken.new.self.kept (at c.replace-was.new.self) agree x ∙ height_moved
          (at c.self.inside.places) (at c.remove-place.new.self) (at c.replace-was.new.self) (kept_at c.self.inside.buckets)
          (kept_at c.take-taken.new.self)
          c.args.p c.in-Some.moved c.remove-place.result taken.vacated k.0 c.self.invariant.0 r.value r.changes.changed r.changes.others
          taken.vacant taken.moved taken.others k.1 k.2 c.replace-was.ensures.changes.changed c.replace-was.ensures.changes.others x differs
          ∙ sym (view_at c.self.inside.buckets.kept (at c.self.inside.places) c.self.invariant.0 x) ∙ ap (λ m. at m x) c.self.view_is;
    }

pub returns-in_default-clause-changes : goal.returns-in_default-clause-changes
returns-in_default-clause-changes c =
    let h = c.in_default.is in
    let taken = c.take-taken.ensures.taken in
    let r = c.remove-place.ensures in
    let gone = point_none (kept_at c.take-taken.new.self c.remove-place.result) (sym c.point_at.ensures ∙ c.in_default.is) in
    let same = vacated_is c.self.inside.buckets c.take-taken.new.self c.remove-place.result taken gone in
    let agree = agree_off (at c.self.inside.places) (at c.remove-place.new.self) (kept_at c.self.inside.buckets) (kept_at c.take-taken.new.self)
    c.args.p c.remove-place.result c.self.invariant.0 r.value r.changes.changed r.changes.others gone
    (λ i differs. taken.others i differs (λ e. differs (e ∙ same))) in
    record {
      changed = view_at c.take-taken.new.self.kept (at c.remove-place.new.self) agree c.args.p ∙ height_none (at c.self.inside.places)
          (at c.remove-place.new.self) (kept_at c.self.inside.buckets) (kept_at c.take-taken.new.self)
          c.args.p c.remove-place.result c.self.invariant.0 r.value r.changes.changed r.changes.others gone
          (λ i differs. taken.others i differs (λ e. differs (e ∙ same)));
      others = λ x differs. view_at c.take-taken.new.self.kept (at c.remove-place.new.self) agree x ∙ height_off (at c.self.inside.places)
          (at c.remove-place.new.self) (kept_at c.self.inside.buckets) (kept_at c.take-taken.new.self)
          c.args.p c.remove-place.result c.self.invariant.0 r.value r.changes.changed r.changes.others gone
          (λ i differs. taken.others i differs (λ e. differs (e ∙ same))) x differs
          ∙ sym (view_at c.self.inside.buckets.kept (at c.self.inside.places) c.self.invariant.0 x) ∙ ap (λ m. at m x) c.self.view_is;
    }
