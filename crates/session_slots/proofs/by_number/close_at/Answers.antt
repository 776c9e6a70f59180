use Rattle.std.proofs.Common.{w32}
use Rattle.std.proofs.Math.Facts.{to_z-of_z}
use Rattle.std.specs.Prelude.{ℤ}
use Rattle.session_slots.proofs.Places.{at_place}
use Rattle.session_slots.specs.Slots.{Closes}
use Rattle.session_slots.specs.declared.slot.Slot.{Slot}
use Rattle.session_slots.proofs.by_number.close_at.Goals as goal

pub returns-clause-within : goal.returns-clause-within
returns-clause-within c = λ within. at_place c.args.slots.now c.args.number c.index-slots-number.result c.close.new.self
    (λ (code : ℤ) (old new : Slot). Closes old code new) c.close.result _ (to_z-of_z {w = w32} (record { sfits = c.close.type_inv })) within c.close.ensures
