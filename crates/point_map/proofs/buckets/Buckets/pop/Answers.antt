use Rattle.std.proofs.Common.{◌≡◌, ◌<◌, Some, None, ap, sym, subst, ◌∙◌, refl, option_map, slice_index_or, slice_set, arith, IsSome, IfNone}
use Rattle.std.specs.Prelude.{option_and_then}
use Rattle.slab.specs.Slab.{get}
use Rattle.point_map.specs.Buckets.{IsEmptyBucket}
use Rattle.point_map.specs.Chains.{IsLinked}
use Rattle.point_map.proofs.Chains.{links_popped, head_own, some_bucket}
use Rattle.point_map.proofs.Links.{index_is, next_at, bucket_at, kept_changes, head_is, link_at, seen_at, kept_of}
use Rattle.point_map.proofs.buckets.Buckets.pop.Goals as goal

pub returns-in_err-place-clause-none : goal.returns-in_err-place-clause-none
returns-in_err-place-clause-none g c =
    let lt = subst (λ v. c.args.bucket < v.width) (sym c.self.view_is) c.requires in
    let at = index_is c.self.inside.heads.items c.args.bucket c.index.result.now None lt c.index.ensures ∙ c.in_err-place.was in
    rw c.from_residual.ensures (subst (λ o. IfNone o (IsEmptyBucket c.args.self.now c.args.bucket)) at
    (head_is c.args.self.now c.self.inside.heads.items c.self.inside.links.slots c.args.bucket (ap
    (λ v. v.kept) c.self.view_is) c.self.invariant.0 lt).1)

pub unwrap-next-requires : goal.unwrap-next-requires
unwrap-next-requires g c =
    let lt = subst (λ v. c.args.bucket < v.width) (sym c.self.view_is) c.requires in
    let at = index_is c.self.inside.heads.items c.args.bucket c.index.result.now None lt c.index.ensures ∙ c.in_ok-place.was in
    let old = c.self.inside.links.slots in
    let own = head_own c.self.inside.heads.items (next_at old) (bucket_at old) c.args.bucket c.in_ok-place.place c.self.invariant.0 lt at in
    let l = link_at old c.in_ok-place.place c.args.bucket own in
    subst IsSome (sym (c.try_remove.ensures.value ∙ l.1)) refl

pub invariant_of-self : goal.invariant_of-self
invariant_of-self g c =
    let lt = subst (λ v. c.args.bucket < v.width) (sym c.self.view_is) c.requires in
    let at = index_is c.self.inside.heads.items c.args.bucket c.index.result.now None lt c.index.ensures ∙ c.in_ok-place.was in
    let e = c.try_remove.ensures in
    let k = c.in_ok-place.place in
    let old = c.self.inside.links.slots in
    let new = c.try_remove.new.self.slots in
    let there : get c.self.inside.links k ≡ Some c.unwrap-next.result = sym e.value ∙ c.unwrap-next.ensures in
    let follows : next_at old k ≡ c.unwrap-next.result.next = ap (option_and_then (λ l. l.next)) there in (
      subst (λ n. IsLinked (slice_set c.self.inside.heads.items c.args.bucket n) (next_at new) (bucket_at new)) follows
          (links_popped c.self.inside.heads.items (next_at old) (next_at new) (bucket_at old)
          (bucket_at new) c.args.bucket k c.self.invariant.0 lt at
          (ap (option_map (λ l. l.bucket)) e.updates.changed)
          (λ j differs. ap (option_and_then (λ l. l.next)) (e.updates.others j differs))
          (λ j differs. ap (option_map (λ l. l.bucket)) (e.updates.others j differs))),
      omega (arith, (rw c.unwrap-next.ensures at e.len), e.capacity, c.self.invariant.1),
    )

pub returns-clause-was : goal.returns-clause-was
returns-clause-was g c =
    let lt = subst (λ v. c.args.bucket < v.width) (sym c.self.view_is) c.requires in
    let at = index_is c.self.inside.heads.items c.args.bucket c.index.result.now None lt c.index.ensures ∙ c.in_ok-place.was in
    let k = c.in_ok-place.place in
    let old = c.self.inside.links.slots in
    let there : get c.self.inside.links k ≡ Some c.unwrap-next.result = sym c.try_remove.ensures.value ∙ c.unwrap-next.ensures in
    let own = head_own c.self.inside.heads.items (next_at old) (bucket_at old) c.args.bucket k c.self.invariant.0 lt at in
    let same = some_bucket c.unwrap-next.result.bucket c.args.bucket (sym (ap (option_map (λ l. l.bucket)) there) ∙ own) in
    ap (λ v. slice_index_or v.kept k None) (sym c.self.view_is) ∙ seen_at old k ∙ ap (option_map kept_of) there
    ∙ ap (λ b. Some (record { bucket = b; point = c.unwrap-next.result.point; row = c.unwrap-next.result.row })) same

pub returns-clause-changes : goal.returns-clause-changes
returns-clause-changes g c =
    let e = c.try_remove.ensures in
    kept_changes c.args.self.now _ c.self.inside.links.slots c.try_remove.new.self.slots c.in_ok-place.place None
    (ap (λ v. v.kept) c.self.view_is) refl e.updates.changed e.updates.others
