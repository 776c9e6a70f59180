-- What the call answers that sets a variable.
use Rattle.std.specs.Prelude.{◌≡◌, ◌↔◌, Result, Some, IfErr, OnOk, OnErr, IsErrOf}
use Rattle.inc_value.specs.declared.node.NodeId.{NodeId}
use Rattle.inc_value.specs.declared.value.Value.{Value}
use Rattle.inc_terms.specs.Within.{Given, ValueWithin}
use Rattle.inc_terms.specs.Graph.{Row, Var}
use Rattle.node_arena.specs.Arena.{IsVariable, row_at}
use Rattle.node_arena.specs.Typing.{FitsNode}
use Rattle.graph.specs.Effects.{IsSetFault, Sets}
use Rattle.graph.specs.Standing.{GraphView, IsUnbroken, IsBroken}
use Rattle.graph.specs.declared.fault.Kept.{Kept}
use Rattle.graph.specs.declared.fault.GraphFault.{GraphFault}
use Rattle.graph.specs.declared.fault.GraphFault.TheVariants as fault

-- a live node that is no variable is what it was
abbrev pub OthersStay : {F : Type 0} → GraphView F → GraphView F → Type 0
OthersStay old new =
    (n : NodeId) (r : Row) → row_at old.nodes n ≡ Some r → ((v : Value) → r.def ≡ Var v → ⊥) → row_at new.nodes n ≡ Some r

-- the variable was set to the value, or the first of what stands in the way. Where it is refused the graph is as it was
pub record AnswersSet {F : Type 0} (old new : GraphView F) (node : NodeId) (value : Value) (answer : Result (Unit {0}) GraphFault) : Type 0 where
  pub set : OnOk answer (Sets old new node value)
  pub others : OnOk answer (OthersStay old new)
  pub broken : (cause : Kept) → IsErrOf answer (fault.Broken cause) ↔ IsBroken old cause
  pub unknown : IsErrOf answer fault.Unknown
      ↔ (IsUnbroken old × ¬ (Given old.nodes.given node × ValueWithin (Given old.nodes.given) value))
  pub not_var : IsErrOf answer fault.NotVar
      ↔ (IsUnbroken old × (Given old.nodes.given node × ValueWithin (Given old.nodes.given) value × ¬ IsVariable old.nodes node))
  pub wrong_type : IsErrOf answer fault.WrongType
      ↔ (IsUnbroken old × (ValueWithin (Given old.nodes.given) value × IsVariable old.nodes node × ¬ FitsNode old.nodes node value))
  pub setting : IfErr answer IsSetFault
  pub err : OnErr answer (new ≡ old)
