use Rattle.std.proofs.Common.{sym, subst, w32}
use Rattle.std.proofs.Math.Facts.{to_z-of_z}
use Rattle.std.specs.Prelude.{ℤ}
use Rattle.session_slots.specs.Slots.{At, TakesIn}
use Rattle.session_slots.specs.declared.slot.Slot.{Slot}
use Rattle.incr_c.proofs.incr_line_at.Goals as goal

-- the number that is handed on is the one that was answered
pub returns-clause-within : goal.returns-clause-within
returns-clause-within c = λ within. subst (λ (code : ℤ). At c.args.slots.now c.args.number c.line_at.new.slots (λ (old new : Slot). TakesIn c.args.text.now c.args.out.now c.line_at.new.out c.line_at.new.count old code new))
    (sym (to_z-of_z {w = w32} (record { sfits = c.line_at.type_inv }))) (c.line_at.ensures.within within)
