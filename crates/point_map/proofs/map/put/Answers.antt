use Rattle.std.proofs.Common.{ap, ◌∙◌}
use Rattle.point_map.specs.Buckets.{Kept}
use Rattle.point_map.specs.BySlot.{own_bucket}
use Rattle.point_map.proofs.KeptPlaces.{slot_put}
use Rattle.point_map.proofs.map.put.Goals as goal

pub returns-clause-by_slot : goal.returns-clause-by_slot
returns-clause-by_slot g c =
    let e = c.push-place.ensures in
    let k : Kept _ = record { bucket = c.wrapped-bucket.result; point = c.args.p; row = c.args.row } in
    (slot_put c.args.buckets.now c.push-place.new.self c.push-place.result k c.requires.by_slot c.requires.absent e.vacant e.changes e.width
    (record { wide = c.requires.by_slot.wide c.requires.spare; own = c.wrapped-bucket.ensures ∙ ap (own_bucket c.args.p) c.width.ensures })).by_slot

pub returns-clause-changes : goal.returns-clause-changes
returns-clause-changes g c =
    let e = c.push-place.ensures in
    let k : Kept _ = record { bucket = c.wrapped-bucket.result; point = c.args.p; row = c.args.row } in
    let put = slot_put c.args.buckets.now c.push-place.new.self c.push-place.result k c.requires.by_slot c.requires.absent e.vacant e.changes e.width
    (record { wide = c.requires.by_slot.wide c.requires.spare; own = c.wrapped-bucket.ensures ∙ ap (own_bucket c.args.p) c.width.ensures }) in
    record { changed = put.changed; others = put.others }
