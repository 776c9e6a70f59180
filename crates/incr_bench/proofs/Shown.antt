-- What an observer shows, by what its graph answers.
use Rattle.std.proofs.Common.{◌≡◌, ◌≤◌, ℕ, ℤ, Bool, true, false, inl, inr, Option, None, Some, refl}
use Rattle.std.proofs.lemmas.Bool.{le-ltb, ltb-false}
use Rattle.std.specs.Prelude.{nat_lt}
use Rattle.inc_value.specs.declared.node.NodeId.{NodeId}
use Rattle.inc_value.specs.declared.node.ObsId.{ObsId}
use Rattle.inc_value.specs.declared.outcome.Outcome.{Outcome}
use Rattle.graph.specs.Effects.{IsObserverFault}
use Rattle.graph.specs.Fault.{kept_of}
use Rattle.graph.specs.Standing.{GraphView, IsBroken, IsUnbroken, node_at, shown_of}
use Rattle.graph.specs.declared.fault.GraphFault.{GraphFault}
use Rattle.graph.specs.declared.fault.GraphFault.TheVariants.{Broken, NotStabilized, Unknown}
use Rattle.graph.specs.declared.fault.Kept.{Kept}
use Rattle.incr_bench.specs.Shown.{number_in, shown_by, where_rooted, where_unbroken}

none_refused : {R : Type 0} (r : Option R) → ((y : R) → r ≡ Some y → ⊥) → r ≡ None
none_refused None whole = refl
none_refused (Some y) whole = absurd (whole y refl)

shown_rooted : (a b : ℕ) (x : Option ℤ) → (b ≤ a → ⊥) → where_rooted (nat_lt a b) x ≡ x
shown_rooted a b x there = go (nat_lt a b) refl
  where
    go : (t : Bool) → nat_lt a b ≡ t → where_rooted t x ≡ x
    go true is = refl
    go false is = absurd (there (ltb-false a b is))

none_rooted : (t : Bool) → where_rooted t None ≡ None
none_rooted true = refl
none_rooted false = refl

none_unbroken : {R : Type 0} (r : Option R) → where_unbroken r None ≡ None
none_unbroken None = refl
none_unbroken (Some y) = refl

module _ {F : Type 0} (s : GraphView F) (o : ObsId) where
  pub shows : (n : NodeId) (outcome : Outcome) → ((cause : Kept) → IsBroken s cause → ⊥) → (IsUnbroken s → s.rooted ≤ o.0 → ⊥)
      → node_at s.observers o ≡ Some n → shown_of s n ≡ Some outcome → shown_by s o ≡ number_in outcome
  shows n outcome whole rooted looks shown =
      let unbroken : IsUnbroken s = none_refused s.refused (λ r e. whole (kept_of r) (r, e, refl)) in
      rw (unbroken, shown_rooted o.0 s.rooted _ (rooted unbroken), looks, shown) refl

  pub shows_none : (fault : GraphFault) → IsObserverFault fault → ((cause : Kept) → fault ≡ Broken cause → IsBroken s cause)
      → (fault ≡ Unknown → node_at s.observers o ≡ None) → (fault ≡ NotStabilized → s.rooted ≤ o.0) → shown_by s o ≡ None
  shows_none fault (inl (cause, is)) broken unknown unrooted = let met = broken cause is in rw met.1 refl
  shows_none fault (inr (inl is)) broken unknown unrooted =
      rw (unknown is, none_rooted (nat_lt o.0 s.rooted)) (none_unbroken s.refused)
  shows_none fault (inr (inr is)) broken unknown unrooted =
      rw (le-ltb o.0 s.rooted (unrooted is)) (none_unbroken s.refused)
