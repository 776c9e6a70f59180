use Rattle.std.proofs.Common.{◌<◌, Some, None, ap, sym, subst, ◌∙◌, refl, option_map, arith}
use Rattle.std.specs.Prelude.{option_and_then}
use Rattle.point_map.proofs.Chains.{links_pushed}
use Rattle.point_map.proofs.Links.{index_is, next_at, bucket_at, kept_changes}
use Rattle.point_map.proofs.buckets.Buckets.push.Goals as goal

pub invariant_of-self : goal.invariant_of-self
invariant_of-self g c =
    let lt = subst (λ v. c.args.bucket < v.width) (sym c.self.view_is) c.requires.bucket in
    let at = index_is c.self.inside.heads.items c.args.bucket c.index-next.result.now None lt c.index-next.ensures in
    let e = c.insert_reserved-place.ensures in
    let k = c.insert_reserved-place.result in
    let old = c.self.inside.links.slots in
    let new = c.insert_reserved-place.new.self.slots in (
      links_pushed c.self.inside.heads.items (next_at old) (next_at new) (bucket_at old) (bucket_at new) c.args.bucket k c.self.invariant.0 lt
          (ap (option_map (λ l. l.bucket)) e.was_vacant)
          (ap (option_and_then (λ l. l.next)) e.updates.changed ∙ sym at)
          (ap (option_map (λ l. l.bucket)) e.updates.changed)
          (λ j differs. ap (option_and_then (λ l. l.next)) (e.updates.others j differs))
          (λ j differs. ap (option_map (λ l. l.bucket)) (e.updates.others j differs)),
      omega (arith, e.len, e.capacity, c.self.invariant.1, c.requires.spare, ap (λ v. v.spare) c.self.view_is),
    )

pub returns-clause-changes : goal.returns-clause-changes
returns-clause-changes g c =
    let e = c.insert_reserved-place.ensures in
    kept_changes c.args.self.now _ c.self.inside.links.slots c.insert_reserved-place.new.self.slots c.insert_reserved-place.result (Some _)
    (ap (λ v. v.kept) c.self.view_is) refl e.updates.changed e.updates.others
