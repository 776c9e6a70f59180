use Rattle.std.proofs.Common.{◌<◌, ap, sym, subst, None, IfSome, IfNone}
use Rattle.point_map.specs.Buckets.{IsKeptIn, IsEmptyBucket}
use Rattle.point_map.proofs.Links.{head_is, index_is}
use Rattle.point_map.proofs.buckets.Buckets.head.Goals as goal

pub returns-clause-some : goal.returns-clause-some
returns-clause-some g c =
    let lt = subst (λ v. c.args.bucket < v.width) (sym c.self.view_is) c.requires in
    let at = index_is c.self.inside.heads.items c.args.bucket c.index.result.now None lt c.index.ensures in
    subst (λ o. IfSome o (IsKeptIn c.args.self.now c.args.bucket)) at
    (head_is c.args.self.now c.self.inside.heads.items c.self.inside.links.slots c.args.bucket (ap
    (λ v. v.kept) c.self.view_is) c.self.invariant.0 lt).0

pub returns-clause-none : goal.returns-clause-none
returns-clause-none g c =
    let lt = subst (λ v. c.args.bucket < v.width) (sym c.self.view_is) c.requires in
    let at = index_is c.self.inside.heads.items c.args.bucket c.index.result.now None lt c.index.ensures in
    subst (λ o. IfNone o (IsEmptyBucket c.args.self.now c.args.bucket)) at
    (head_is c.args.self.now c.self.inside.heads.items c.self.inside.links.slots c.args.bucket (ap
    (λ v. v.kept) c.self.view_is) c.self.invariant.0 lt).1
