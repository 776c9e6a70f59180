use Rattle.std.proofs.Common.{w32}
use Rattle.std.proofs.Math.Facts.{to_z-of_z}
use Rattle.std.specs.Prelude.{ℤ}
use Rattle.session_slots.proofs.Places.{at_place}
use Rattle.session_slots.specs.Slots.{ReadsIn}
use Rattle.session_slots.specs.declared.slot.Slot.{Slot}
use Rattle.session_slots.proofs.by_number.rest_at.Goals as goal

pub returns-clause-within : goal.returns-clause-within
returns-clause-within c = λ within. at_place c.args.slots.now c.args.number c.index-slots-number.result c.rest.new.self
    (λ (code : ℤ) (old new : Slot). ReadsIn c.args.out.now c.rest.new.out c.rest.new.count old code new) c.rest.result _ (to_z-of_z {w = w32} (record { sfits = c.rest.type_inv })) within c.rest.ensures
