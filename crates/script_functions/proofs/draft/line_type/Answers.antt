use Rattle.std.proofs.Common.{◌≡◌, ◌≢◌, ◌-◌, ℕ, zero, suc, List, ◌∷◌, slice_get, refl, sub-one, ◌∙◌}
use Rattle.script_functions.proofs.draft.line_type.Goals as goal

later : {A : Type 0} (x : A) (xs : List A) (i : ℕ) → i ≢ 0 → slice_get xs (i - 1) ≡ slice_get (x ∷ xs) i
later x xs zero h = absurd (h refl)
later x xs (suc i) h = rw sub-one

pub returns : goal.returns
returns c = c.later_type.ensures ∙ later c.args.left _ c.args.place c.if-place-eq0.false
