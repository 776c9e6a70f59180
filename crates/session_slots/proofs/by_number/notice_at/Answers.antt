use Rattle.std.proofs.Common.{w32}
use Rattle.std.proofs.Math.Facts.{to_z-of_z}
use Rattle.std.specs.Prelude.{ℤ}
use Rattle.session_slots.proofs.Places.{at_place}
use Rattle.session_slots.specs.Slots.{NoticesIn}
use Rattle.session_slots.specs.declared.slot.Slot.{Slot}
use Rattle.session_slots.proofs.by_number.notice_at.Goals as goal

pub returns-clause-within : goal.returns-clause-within
returns-clause-within c = λ within. at_place c.args.slots.now c.args.number c.index-slots-number.result c.notice.new.self
    (λ (code : ℤ) (old new : Slot). NoticesIn c.args.notice c.args.out.now c.notice.new.out c.notice.new.told old code new) c.notice.result _
    (to_z-of_z {w = w32} (record { sfits = c.notice.type_inv })) within c.notice.ensures
