use Rattle.std.proofs.Common.{◌∙◌, ap, sym}
use Rattle.point_map.specs.Rows.{at, row_in}
use Rattle.point_map.specs.BySlot.{places_of}
use Rattle.point_map.proofs.KeptPlaces.{kept_found, slot_taken}
use Rattle.point_map.proofs.map.PointMap.remove.Goals as goal

pub invariant_of-self : goal.invariant_of-self
invariant_of-self g c =
    let k = kept_found c.self.inside.buckets c.args.self.now c.unwrap-i.result c.args.p c.self.view_is
    (rw c.unwrap-i.ensures at c.place_of.ensures.found) in
    (slot_taken c.self.inside.buckets c.take-row.new.self c.unwrap-i.result k.0 c.self.invariant k.1 c.take-row.ensures.taken c.take-row.ensures.width).by_slot

pub returns-clause-changes : goal.returns-clause-changes
returns-clause-changes g c =
    let k = kept_found c.self.inside.buckets c.args.self.now c.unwrap-i.result c.args.p c.self.view_is
    (rw c.unwrap-i.ensures at c.place_of.ensures.found) in
    let off = slot_taken c.self.inside.buckets c.take-row.new.self c.unwrap-i.result k.0 c.self.invariant k.1 c.take-row.ensures.taken
    c.take-row.ensures.width in
    record {
      changed = ap (row_in (places_of c.take-row.new.self.kept)) (sym k.2) ∙ off.changed;
      others = λ q differs. off.others q (λ e. differs (e ∙ k.2)) ∙ ap (λ m. at m q) c.self.view_is;
    }
