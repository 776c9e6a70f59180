use Rattle.std.proofs.Common.{◌≡◌, ◌<◌, arith, length}
use Rattle.point_map.proofs.Chains.{wide_linked}
use Rattle.point_map.proofs.Links.{next_at, bucket_at}
use Rattle.point_map.proofs.buckets.Buckets.widen.Goals as goal

pub invariant_of-self : goal.invariant_of-self
invariant_of-self g c =
    let s = c.self.inside in
    let len_is : s.heads.len ≡ length s.heads.items = s.heads.ok.0 in
    let short : s.heads.len < c.args.width = omega (arith, c.if-width-len.false, c.len.ensures) in (
      wide_linked c.resize.result s.heads.items c.resize.new.self.items c.args.width s.heads.len short len_is c.resize.ensures.items
          (next_at s.links.slots) (bucket_at s.links.slots) c.self.invariant.0,
      c.self.invariant.1,
    )
