-- Faults that don't come where a caller knows.
use Rattle.std.proofs.Common.{◌≡◌, ◌↔◌, inl, inr, Option, None, Some, IsSome, Result, Err, IfErr, IsErrOf, sym, ap, subst, ◌∙◌}
use Rattle.graph.specs.Effects.{IsEndFault, IsSetFault}
use Rattle.graph.specs.Standing.{GraphView, IsUnbroken, IsBroken}
use Rattle.observers.specs.Observers.{node_at}
use Rattle.graph.specs.declared.fault.GraphFault.{GraphFault}
use Rattle.graph.specs.declared.fault.GraphFault.TheVariants as fault
use Rattle.graph.specs.declared.fault.Kept.{Kept}
use Rattle.inc_value.specs.declared.node.NodeId.{NodeId}
use Rattle.inc_value.specs.declared.node.ObsId.{ObsId}
use Rattle.inc_value.specs.declared.value.Value.{Value}
use Rattle.inc_terms.specs.Within.{Given, ValueWithin}
use Rattle.node_arena.specs.Arena.{IsVariable}
use Rattle.node_arena.specs.Typing.{FitsNode}

-- a variable takes a value that fits
module _ {F : Type 0} (s : GraphView F) (n : NodeId) (w : Value) (whole : IsUnbroken s) (variable : IsVariable s.nodes n)
    (given : Given s.nodes.given n) (within : ValueWithin (Given s.nodes.given) w) (fits : FitsNode s.nodes n w) where
  not_broken : (cause : Kept) → IsBroken s cause → ⊥
  not_broken cause (r, is, of) = let clash : None ≡ Some r = sym whole ∙ is in cc

  pub no_set_fault : {T : Type 0} (r : Result T GraphFault) (e : GraphFault) → r ≡ Err e → IsSetFault e
      → ((cause : Kept) → IsErrOf r (fault.Broken cause) → IsBroken s cause)
      → (IsErrOf r fault.Unknown → IsUnbroken s × ((Given s.nodes.given n × ValueWithin (Given s.nodes.given) w) → ⊥))
      → (IsErrOf r fault.NotVar → IsUnbroken s × (Given s.nodes.given n × ValueWithin (Given s.nodes.given) w × (IsVariable s.nodes n → ⊥)))
      → (IsErrOf r fault.WrongType → IsUnbroken s
      × (ValueWithin (Given s.nodes.given) w × IsVariable s.nodes n × (FitsNode s.nodes n w → ⊥))) → ⊥
  no_set_fault r e is (inl (cause, same)) broken unknown not_var wrong = not_broken cause (broken cause (is ∙ ap (λ (x : GraphFault). Err x) same))
  no_set_fault r e is (inr (inl same)) broken unknown not_var wrong = (unknown (is ∙ ap (λ (x : GraphFault). Err x) same)).1 (given, within)
  no_set_fault r e is (inr (inr (inl same))) broken unknown not_var wrong = (not_var (is ∙ ap (λ (x : GraphFault). Err x) same)).1.2 variable
  no_set_fault r e is (inr (inr (inr same))) broken unknown not_var wrong = (wrong (is ∙ ap (λ (x : GraphFault). Err x) same)).1.2 fits

-- an observer in use is ended or watched
pub no_end_fault : {F T : Type 0} (s : GraphView F) → IsUnbroken s → (r : Result T GraphFault) (e : GraphFault) (o : ObsId) → r ≡ Err e → IfErr r IsEndFault
    → ((cause : Kept) → IsErrOf r (fault.Broken cause) ↔ IsBroken s cause)
    → (IsErrOf r fault.Unknown ↔ (IsUnbroken s × (node_at s.observers o ≡ None)))
    → IsSome (node_at s.observers o) → ⊥
no_end_fault {F} {T} s unbroken r e o is ending broken unknown looks = go (subst (λ (q : Result T GraphFault). IfErr q IsEndFault) is ending)
  where
    by : {x : GraphFault} → e ≡ x → IsErrOf r x
    by {x} same = is ∙ ap (λ (y : GraphFault). Err y) same

    go : IsEndFault e → ⊥
    go (inl b) = let is_broken = (broken b.0).0 (by b.1) in let met = is_broken.1 in let none = unbroken in absurd (cc)
    go (inr u) = let none = (unknown.0 (by u)).1 in let h = subst (λ (n : Option NodeId). IsSome n) none looks in absurd (cc)
