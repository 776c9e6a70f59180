-- What an observer shows, by what its graph answers.
use Rattle.std.proofs.Common.{◌≡◌, Bool, true, false, cond, inl, inr, Option, None, Some, refl}
use Rattle.inc_value.specs.declared.node.NodeId.{NodeId}
use Rattle.inc_value.specs.declared.node.ObsId.{ObsId}
use Rattle.inc_value.specs.declared.outcome.Outcome.{Outcome}
use Rattle.observers.specs.Observers.{looked_at, shown_at, shown_in}
use Rattle.observers.specs.declared.observer.Observer.{Observer}
use Rattle.graph.specs.Effects.{IsObserverFault}
use Rattle.graph.specs.Fault.{kept_of}
use Rattle.graph.specs.Standing.{GraphView, IsBroken, IsUnbroken, node_at}
use Rattle.graph.specs.declared.fault.GraphFault.{GraphFault}
use Rattle.graph.specs.declared.fault.GraphFault.TheVariants.{Broken, NotStabilized, Unknown}
use Rattle.graph.specs.declared.fault.Kept.{Kept}
use Rattle.graph_kit.specs.Shown.{outcome_at, unless}
use Rattle.std.specs.Prelude.{slice_get}

-- nothing was refused, where nothing that was is known
pub none_refused : {R : Type 0} (r : Option R) → ((y : R) → r ≡ Some y → ⊥) → r ≡ None
none_refused None whole = refl
none_refused (Some y) whole = absurd (whole y refl)

unless_none : {R A : Type 0} (r : Option R) (x : Option A) → x ≡ None → unless r x ≡ None
unless_none None x e = e
unless_none (Some y) x e = refl

used : (u : Bool) (n : NodeId) (x : Option Outcome) → cond u (Some n) None ≡ None → cond u x None ≡ None
used true n x e = absurd cc
used false n x e = refl

-- whom nobody looks through shows nothing
unseen : (o : Option Observer) → looked_at o ≡ None → shown_in o ≡ None
unseen None e = refl
unseen (Some o) e = used o.in_use o.node o.shown e

module _ {F : Type 0} (s : GraphView F) (o : ObsId) where
  pub outcome_shown : (x : Outcome) → ((cause : Kept) → IsBroken s cause → ⊥) → shown_at s.observers o ≡ Some x → outcome_at s o ≡ Some x
  outcome_shown x whole shown =
      let unbroken : IsUnbroken s = none_refused s.refused (λ r e. whole (kept_of r) (r, e, refl)) in
      rw (unbroken, shown) refl

  pub outcome_none : (fault : GraphFault) → IsObserverFault fault → ((cause : Kept) → fault ≡ Broken cause → IsBroken s cause)
      → (fault ≡ Unknown → node_at s.observers o ≡ None) → (fault ≡ NotStabilized → shown_at s.observers o ≡ None) → outcome_at s o ≡ None
  outcome_none fault (inl (cause, is)) broken unknown unshown = let met = broken cause is in rw met.1 refl
  outcome_none fault (inr (inl is)) broken unknown unshown =
      unless_none s.refused (shown_at s.observers o) (unseen (slice_get s.observers o.0) (unknown is))
  outcome_none fault (inr (inr is)) broken unknown unshown = unless_none s.refused (shown_at s.observers o) (unshown is)
