use Rattle.std.proofs.Common.{◌≡◌, ◌∙◌, refl, ap, sym, slice_index_or, None}
use Rattle.point_map.specs.Rows.{at}
use Rattle.row_map.specs.declared.Entry.{Entry}
use Rattle.row_map.specs.Numbers.{rows_of}
use Rattle.row_map.proofs.Numbers.{not_numbered, vacant_place, turn_added, numbered_added, added}
use Rattle.row_map.proofs.map.RowMap.add.Goals as goal

pub add-requires : goal.add-requires
add-requires g c =
    let i = c.self.inside in
    let absent = rw (← c.self.view_is) at c.requires.absent in
    record { absent = not_numbered i.numbers (rows_of i.rows.slots) c.self.invariant c.args.p (at i.numbers c.args.p) refl absent }

pub invariant_of-self-2 : goal.invariant_of-self-2
invariant_of-self-2 g c =
    let i = c.self.inside in
    let absent = rw (← c.self.view_is) at c.requires.absent in
    let place = c.vacant_key.result in
    let same : c.reserve.new.self.slots ≡ i.rows.slots = ap (λ s. s.slots) c.reserve.ensures.rest_kept in
    let key = c.insert_reserved-number.ensures.key ∙ sym c.vacant_key.ensures.value in
    let e : Entry _ = record { point = c.args.p; row = c.args.row } in
    let turn = turn_added i.rows c.reserve.new.self c.insert_reserved-number.new.self place c.insert_reserved-number.result e same key
    c.insert_reserved-number.ensures.updates in
    let vacant = vacant_place i.rows.slots place (ap (λ x. slice_index_or x place None) (sym same) ∙ c.vacant_key.ensures.vacant) in
    numbered_added i.numbers (rows_of i.rows.slots) c.self.invariant c.add.new.self (rows_of c.insert_reserved-number.new.self.slots) c.args.p place c.args.row
    absent vacant c.in_ok-add.ensures.added turn

pub returns-clause-added : goal.returns-clause-added
returns-clause-added g c =
    let i = c.self.inside in
    let absent = rw (← c.self.view_is) at c.requires.absent in
    let place = c.vacant_key.result in
    let same : c.reserve.new.self.slots ≡ i.rows.slots = ap (λ s. s.slots) c.reserve.ensures.rest_kept in
    let key = c.insert_reserved-number.ensures.key ∙ sym c.vacant_key.ensures.value in
    let e : Entry _ = record { point = c.args.p; row = c.args.row } in
    let turn = turn_added i.rows c.reserve.new.self c.insert_reserved-number.new.self place c.insert_reserved-number.result e same key
    c.insert_reserved-number.ensures.updates in
    let vacant = vacant_place i.rows.slots place (ap (λ x. slice_index_or x place None) (sym same) ∙ c.vacant_key.ensures.vacant) in
    rw (← c.self.view_is) (added i.numbers (rows_of i.rows.slots) c.self.invariant c.add.new.self (rows_of c.insert_reserved-number.new.self.slots) c.args.p
    place c.args.row absent vacant c.in_ok-add.ensures.added turn)
