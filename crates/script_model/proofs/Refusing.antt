-- When a stabilize is refused, and with which number.
use Rattle.std.proofs.Common.{◌≡◌, ◌⊎◌, inl, inr, ℕ, List, [], ◌∷◌, refl, ◌∙◌, subst}
use Rattle.inc_value.specs.Choice.{Among, Reaches, here, step}
use Rattle.script_model.specs.Blocked.{NameReads, EachReads, LastIs, IsCycle, OnCycle, on_cycle, too_deep}
use Rattle.script_model.specs.Formula.{State, Meanings}
use Rattle.script_model.specs.Laws.{UnblockedIsAccepted, BlockedIsRefused}
use Rattle.script_model.specs.Need.{Named}
use Rattle.script_model.specs.Step.{Cycle, Height, settles, by_cycle, by_height}
use Rattle.script_model.proofs.Reaching.{reaches_join}

-- ---- cycles

-- along names of which each reads the next, the last is reached
last_reached : (F : Meanings) (s : State) (x last : ℕ) (names : List ℕ) → EachReads F s x names → LastIs last names → Reaches (NameReads F s) x last
last_reached F s x last [] each is = absurd is
last_reached F s x last (y ∷ []) each is = step {b = y} each.0 (subst (λ z. Reaches (NameReads F s) y z) is here)
last_reached F s x last (y ∷ z ∷ names) each is = step {b = y} each.0 (last_reached F s y last (z ∷ names) each.1 is)

-- each of them is reached too
each_reached : (F : Meanings) (s : State) (x n : ℕ) (names : List ℕ) → EachReads F s x names → Among n names → Reaches (NameReads F s) x n
each_reached F s x n [] each is = absurd is
each_reached F s x n (y ∷ names) each (inl same) = step {b = y} each.0 (rw same here)
each_reached F s x n (y ∷ names) each (inr later) = step {b = y} each.0 (each_reached F s y n names each.1 later)

-- the name that one of them reads, from which the last is reached
abbrev Goes-on : Meanings → State → ℕ → ℕ → Type 0
Goes-on F s n last = (y : ℕ) × NameReads F s n y × Reaches (NameReads F s) y last

first_goes_on : (F : Meanings) (s : State) (x last : ℕ) (names : List ℕ) → EachReads F s x names → LastIs last names → Goes-on F s x last
first_goes_on F s x last [] each is = absurd is
first_goes_on F s x last (y ∷ []) each is = (y, each.0, subst (λ z. Reaches (NameReads F s) y z) is here)
first_goes_on F s x last (y ∷ z ∷ names) each is = (y, each.0, last_reached F s y last (z ∷ names) each.1 is)

goes_on : (F : Meanings) (s : State) (x last n : ℕ) (names : List ℕ) → EachReads F s x names → LastIs last names → Among n (x ∷ names)
    → (n ≡ last) ⊎ Goes-on F s n last
goes_on F s x last n names each is (inl same) = inr (rw same (first_goes_on F s x last names each is))
goes_on F s x last n [] each is (inr later) = absurd later
goes_on F s x last n (y ∷ []) each is (inr (inl same)) = inl (same ∙ is)
goes_on F s x last n (y ∷ []) each is (inr (inr none)) = absurd none
goes_on F s x last n (y ∷ z ∷ names) each is (inr later) = goes_on F s y last n (z ∷ names) each.1 is later

among_reached : (F : Meanings) (s : State) (x n : ℕ) (names : List ℕ) → EachReads F s x names → Among n (x ∷ names) → Reaches (NameReads F s) x n
among_reached F s x n names each (inl same) = rw same here
among_reached F s x n names each (inr later) = each_reached F s x n names each later

-- each name of a cycle is on one
pub cycle_names : (F : Meanings) (s : State) (names : List ℕ) (n : ℕ) → IsCycle F s names → Among n names → OnCycle F s n
cycle_names F s [] n cycle among = absurd cycle
cycle_names F s (x ∷ names) n cycle among = elim (goes_on F s x x n names cycle.0 cycle.1 among) [
  | inl same ↦ rw same (first_goes_on F s x x names cycle.0 cycle.1)
  | inr on ↦ (on.0, on.1, reaches_join (NameReads F s) on.0 x n on.2 (among_reached F s x n names cycle.0 among))
]

-- ---- refused and accepted

pub unblocked_is_accepted : UnblockedIsAccepted
unblocked_is_accepted F m after replies (settles notices unblocked s settled broken is) free = broken
unblocked_is_accepted F m after replies (by_cycle targets n cycle among met leads is) free =
    absurd (free (Named n) met (on_cycle (cycle_names F m.present targets n cycle among)))
unblocked_is_accepted F m after replies (by_height target i met deep named leads is) free = absurd (free i met (too_deep deep))

pub blocked_is_refused : BlockedIsRefused
blocked_is_refused F m after replies i (settles notices unblocked s settled broken is) needed blocked = absurd (unblocked i needed blocked)
blocked_is_refused F m after replies i (by_cycle targets n cycle among met leads is) needed blocked = (Cycle targets, is, refl)
blocked_is_refused F m after replies i (by_height target j met deep named leads is) needed blocked = (Height target, is, refl)
