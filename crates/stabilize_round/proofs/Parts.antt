-- The invariant's parts that need and roots don't make.
use Rattle.std.proofs.Common.{◌≡◌, ◌⊎◌, inl, inr, Bool, true, false, refl}
use Rattle.inc_value.specs.Choice.{Reaches, here, step}
use Rattle.inc_terms.specs.Term.{Functions}
use Rattle.inc_terms.specs.Local.{Scoped}
use Rattle.stabilize_round.specs.State.{State, Start}
use Rattle.stabilize_round.specs.Invariant.{Rows, Rooted, BuiltFor, Waits, Fresh, Settled, Strict, LastSettled, Accounts}

pub record Parts (F : Functions) (z : Start) (s : State) : Type 0 where
  pub rows : Rows s
  pub scoped : Scoped s.graph
  pub rooted : Rooted F s.graph
  pub built : BuiltFor F s
  pub waits : Waits s
  pub fresh : Fresh F s
  pub settled : Settled F s
  pub strict : Strict s
  pub last_settled : LastSettled s
  pub accounts : Accounts F z s

pub reaches_map : {A : Type 0} (R S : A → A → Type 0) → ((a b : A) → R a b → S a b) → (a b : A) → Reaches R a b → Reaches S a b
reaches_map R S f a b here = here
reaches_map R S f a b (step r rest) = step (f a _ r) (reaches_map R S f _ b rest)

pub bool_cases : (b : Bool) → (b ≡ true) ⊎ (b ≡ false)
bool_cases true = inl refl
bool_cases false = inr refl
