use Rattle.std.proofs.Common.{◌∙◌, ap, sym}
use Rattle.point_map.specs.BySlot.{own_bucket}
use Rattle.point_map.proofs.KeptPlaces.{no_buckets, row_found_at, absent_at}
use Rattle.point_map.proofs.map.PointMap.place_of.Goals as goal

pub returns-in_err-bucket-clause-absent : goal.returns-in_err-bucket-clause-absent
returns-in_err-bucket-clause-absent g c =
    rw c.from_residual.ensures (no_buckets c.self.inside.buckets c.args.self.now c.args.p c.self.view_is c.self.invariant
    (sym c.width.ensures ∙ c.in_err-bucket.ensures.none))

pub returns-clause-row : goal.returns-clause-row
returns-clause-row g c =
    row_found_at c.self.inside.buckets c.args.self.now c.args.p c.find.result c.self.view_is c.self.invariant c.find.ensures.found

pub returns-clause-absent : goal.returns-clause-absent
returns-clause-absent g c =
    absent_at c.self.inside.buckets c.args.self.now c.args.p c.in_ok-bucket.bucket c.find.result c.self.view_is c.self.invariant
    (c.in_ok-bucket.ensures.own ∙ ap (own_bucket c.args.p) c.width.ensures) c.find.ensures.absent
