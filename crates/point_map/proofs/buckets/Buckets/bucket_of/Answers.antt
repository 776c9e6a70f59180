use Rattle.std.proofs.Common.{◌≡◌, ◌<◌, Some, ap, sym, subst, option_map}
use Rattle.slab.specs.Slab.{get}
use Rattle.point_map.proofs.buckets.Buckets.bucket_of.Goals as goal

pub returns-clause-within : goal.returns-clause-within
returns-clause-within g c =
    let l = c.unwrap-link.result.now in
    let there : get c.self.inside.links c.args.place ≡ Some l = sym (rw c.unwrap-link.ensures at c.get.ensures) in
    let e = c.self.invariant.0.every c.args.place l.bucket (ap (option_map (λ x. x.bucket)) there) in
    subst (λ v. l.bucket < v.width) c.self.view_is e.0
