use Rattle.std.proofs.Common.{ap, sym, subst, arith}
use Rattle.slab.specs.Slab.{slab_len}
use Rattle.point_map.specs.Chains.{IsLinked}
use Rattle.point_map.proofs.Links.{next_at, bucket_at}
use Rattle.point_map.proofs.buckets.Buckets.reserve.Goals as goal

pub invariant_of-self : goal.invariant_of-self
invariant_of-self g c =
    let slots = ap (λ s. s.slots) (sym c.reserve.ensures.rest_kept) in (
      subst (λ s. IsLinked c.self.inside.heads.items (next_at s) (bucket_at s)) slots c.self.invariant.0,
      omega (arith, ap (λ s. slab_len s) c.reserve.ensures.rest_kept, c.self.invariant.1, c.reserve.ensures.capacity),
    )

pub invariant_of-self-2 : goal.invariant_of-self-2
invariant_of-self-2 g c =
    let slots = ap (λ s. s.slots) (sym c.reserve.ensures.rest_kept) in (
      subst (λ s. IsLinked c.self.inside.heads.items (next_at s) (bucket_at s)) slots c.self.invariant.0,
      omega
          (arith, c.in_ok-reserve.ensures.room),
    )
