-- Where nothing changed no call is due.
use Rattle.std.proofs.Common.{◌≡◌, List, [], ◌∷◌, refl, arith}
use Rattle.inc_value.specs.Choice.{Every}
use Rattle.script_model.specs.Formula.{State, Meanings}
use Rattle.script_model.specs.Laws.{NothingDueAfterSettling}
use Rattle.script_model.specs.Need.{Item, Reads, Needed, Met, from_root, from_held, Visit, IsDue}
use Rattle.script_model.proofs.Reaching.{reaches_join}

-- what is met was needed before
met_was_needed : (F : Meanings) (s : State) (i : Item) → Met F s s i → Needed F s i
met_was_needed F s i (from_root needed) = needed
met_was_needed F s i (from_held {h = h} held stands on) = (held.root, held.was, reaches_join (Reads F s) held.root h i held.reached on)

none_due : (F : Meanings) (s : State) (vs : List Visit) → Every (IsDue F s s) vs → vs ≡ []
none_due F s [] due = refl
none_due F s (v ∷ vs) due = absurd (due.0.fresh due.0.visit (met_was_needed F s v.item due.0.met))

pub nothing_due_after_settling : NothingDueAfterSettling
nothing_due_after_settling F s calls within =
    let none = none_due F s within.visits within.due in
    let few = rw none at within.enough in
    omega (arith, few)
