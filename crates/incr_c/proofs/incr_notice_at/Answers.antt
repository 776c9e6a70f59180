use Rattle.std.proofs.Common.{sym, subst, w32}
use Rattle.std.proofs.Math.Facts.{to_z-of_z}
use Rattle.std.specs.Prelude.{ℤ}
use Rattle.session_slots.specs.Slots.{At, NoticesIn}
use Rattle.session_slots.specs.declared.slot.Slot.{Slot}
use Rattle.incr_c.proofs.incr_notice_at.Goals as goal

-- the number that is handed on is the one that was answered
pub returns-clause-within : goal.returns-clause-within
returns-clause-within c = λ within. subst (λ (code : ℤ). At c.args.slots.now c.args.number c.notice_at.new.slots
    (λ (old new : Slot). NoticesIn c.args.notice c.args.out.now c.notice_at.new.out c.notice_at.new.told old code new))
    (sym (to_z-of_z {w = w32} (record { sfits = c.notice_at.type_inv }))) (c.notice_at.ensures.within within)
