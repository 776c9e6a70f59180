-- A slot of many, by its number.
use Rattle.std.specs.Prelude.{◌≡◌, ◌<◌, ℕ, ℤ, List, length, set}
use Rattle.std.proofs.Common.{refl, sym, subst}
use Rattle.std.proofs.Math.ListN.{get_or}
use Rattle.std.proofs.lemmas.Option.{slice_get-get_or}
use Rattle.session_slots.specs.Slots.{At}
use Rattle.session_slots.specs.declared.slot.Slot.{Slot}

-- what is said of the slot that was read and the one that is put there is said of the slots before and after
pub at_place : (olds : List Slot) (number : ℕ) (default new : Slot) (Changes : ℤ → Slot → Slot → Type 0) (code told : ℤ) → told ≡ code → number < length olds
    → Changes code (get_or olds number default) new → At olds number (set olds number new) (Changes told)
at_place olds number default new Changes code told same within changes =
    (get_or olds number default, new, slice_get-get_or olds number default within, refl, subst (λ (z : ℤ). Changes z (get_or olds number default) new) (sym same) changes)
