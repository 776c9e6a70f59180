use Rattle.std.proofs.Common.{◌≡◌, ◌<◌, ◌≤◌, Some, None, IfNone, length, ap, sym, subst}
use Rattle.point_map.specs.Chains.{NoneOnChain}
use Rattle.point_map.proofs.Links.{index_is, next_at, point_at, find_found, find_absent}
use Rattle.point_map.proofs.buckets.Buckets.find.Goals as goal

pub returns-clause-found : goal.returns-clause-found
returns-clause-found g c =
    find_found c.args.self.now c.self.inside.links.slots c.args.p c.find_from.result (ap (λ v. v.kept) c.self.view_is) c.find_from.ensures.found

pub returns-clause-absent : goal.returns-clause-absent
returns-clause-absent g c =
    let lt = subst (λ v. c.args.bucket < v.width) (sym c.self.view_is) c.requires in
    let at = index_is c.self.inside.heads.items c.args.bucket c.index.result.now None lt c.index.ensures in
    let slots = c.self.inside.links.slots in
    find_absent c.args.self.now c.self.inside.heads.items slots c.self.inside.links.capacity c.args.bucket c.args.p c.find_from.result
    (ap (λ v. v.kept) c.self.view_is) c.self.invariant.0 lt (subst (λ n. length slots ≤ n) c.capacity-room.ensures.value c.capacity-room.ensures.slots)
    (subst (λ first. IfNone c.find_from.result (NoneOnChain (next_at slots) first c.self.inside.links.capacity (λ k. point_at slots k ≡ Some c.args.p)))
    (sym at) c.find_from.ensures.absent)
