-- Why the time of a graph isn't moved on.
use Rattle.std.proofs.Common.{◌≡◌, ◌∙◌, ◌≤ℤ◌, ◌<ℤ◌, ℤ, inl, inr, Result, Err, ap, subst, arith}
use Rattle.std.specs.Prelude.{IfErr, IsErrOf, ◌↔◌}
use Rattle.std.proofs.lemmas.Int.{ints}
use Rattle.graph.specs.Clock.{IsAdvanceFault}
use Rattle.graph.specs.Standing.{GraphView, IsUnbroken, IsBroken}
use Rattle.graph.specs.declared.fault.GraphFault.{GraphFault}
use Rattle.graph.specs.declared.fault.GraphFault.TheVariants as fault
use Rattle.graph.specs.declared.fault.Kept.{Kept as Cause}
use Rattle.session.proofs.Observed.{not_broken}

-- an unbroken graph isn't moved on to a time that isn't past for want of memory alone
pub advance_wanting : {F T : Type 0} (s : GraphView F) → IsUnbroken s → (to : ℤ) → s.nodes.time ≤ℤ to → (r : Result T GraphFault) (e : GraphFault) → r ≡ Err e
    → IfErr r IsAdvanceFault → ((cause : Cause) → IsErrOf r (fault.Broken cause) ↔ IsBroken s cause)
    → (IsErrOf r fault.Back ↔ (IsUnbroken s × (to <ℤ s.nodes.time))) → e ≡ fault.Memory
advance_wanting {F} {T} s unbroken to later r e is why broken back = go (subst (λ (q : Result T GraphFault). IfErr q IsAdvanceFault) is why)
  where
    by : {x : GraphFault} → e ≡ x → IsErrOf r x
    by {x} same = is ∙ ap (λ (y : GraphFault). Err y) same

    go : IsAdvanceFault e → e ≡ fault.Memory
    go (inl b) = absurd (not_broken s unbroken b.0 ((broken b.0).0 (by b.1)))
    go (inr (inl past)) = let before = (back.0 (by past)).1 in absurd (omega (arith, ints, before, later))
    go (inr (inr memory)) = memory
