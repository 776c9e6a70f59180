-- A variable that was set: the other nodes stay.
use Rattle.std.proofs.Common.{◌≡◌, ◌∙◌, ◌↔◌, Result, Ok, Err, Some, OnOk, refl, sym, ap, subst}
use Rattle.std.specs.Prelude.{IsErrOf}
use Rattle.inc_value.specs.declared.node.NodeId.{NodeId}
use Rattle.inc_value.specs.declared.value.Value.{Value}
use Rattle.inc_terms.specs.Graph.{Row}
use Rattle.inc_terms.specs.Within.{Given, ValueWithin}
use Rattle.node_arena.specs.Arena.{IsVariable, row_at}
use Rattle.graph.specs.Effects.{Sets}
use Rattle.graph.specs.Fault.{kept_of}
use Rattle.graph.specs.Standing.{GraphView, IsBroken, IsUnbroken}
use Rattle.graph.specs.declared.fault.GraphFault.{GraphFault}
use Rattle.graph.specs.declared.fault.GraphFault.TheVariants as fault
use Rattle.graph.specs.declared.fault.Kept.{Kept}
use Rattle.graph_kit.specs.Setting.{OthersStay}
use Rattle.graph_kit.proofs.Shown.{none_refused}

abbrev Answer : Type 0
Answer = Result (Unit {0}) GraphFault

abbrev done : Answer
done = Ok tt

module _ {F : Type 0} (old new : GraphView F) (node : NodeId) (value : Value) where
  others_kept : Sets old new node value
      → ((cause : Kept) → IsErrOf done (fault.Broken cause) ↔ IsBroken old cause)
      → (IsErrOf done fault.Unknown ↔ (IsUnbroken old × ¬ (Given old.nodes.given node × ValueWithin (Given old.nodes.given) value)))
      → (IsErrOf done fault.NotVar
      ↔ (IsUnbroken old × (Given old.nodes.given node × ValueWithin (Given old.nodes.given) value × ¬ IsVariable old.nodes node)))
      → OthersStay old new
  others_kept sets broken unknown not_var n r is plain = sets.set.changes.others n (λ same. apart same) ∙ is
    where
      unbroken : IsUnbroken old
      unbroken = none_refused old.refused (λ met e. let no = (broken (kept_of met)).1 (met, e, refl) in cc)

      is_none : n ≡ node → ¬ IsVariable old.nodes node
      is_none same var =
          let here : row_at old.nodes node ≡ Some r = subst (λ m. row_at old.nodes m ≡ Some r) same is in
          let rows : var.row ≡ r = (let x = var.there in cc) in
          plain var.value (sym (ap (λ (x : Row). x.def) rows) ∙ var.variable)

      apart : n ≡ node → ⊥
      apart same =
          let both : ¬ (Given old.nodes.given node × ValueWithin (Given old.nodes.given) value) = (λ h.
          (let no = not_var.1 (unbroken, (h.0, h.1, is_none same)) in cc)) in
          let no = unknown.1 (unbroken, both) in
          cc

  pub others_stay : (answer : Answer) → OnOk answer (Sets old new node value)
      → ((cause : Kept) → IsErrOf answer (fault.Broken cause) ↔ IsBroken old cause)
      → (IsErrOf answer fault.Unknown ↔ (IsUnbroken old × ¬ (Given old.nodes.given node × ValueWithin (Given old.nodes.given) value)))
      → (IsErrOf answer fault.NotVar
      ↔ (IsUnbroken old × (Given old.nodes.given node × ValueWithin (Given old.nodes.given) value × ¬ IsVariable old.nodes node)))
      → OnOk answer (OthersStay old new)
  others_stay (Ok v) sets broken unknown not_var = others_kept sets broken unknown not_var
  others_stay (Err e) sets broken unknown not_var = tt
