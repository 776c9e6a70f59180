-- How a name for the node of a right side is declared.
use Rattle.std.specs.Prelude.{◌≡◌, ◌⊎◌, ℕ, List, length}
use Rattle.inc_value.specs.declared.node.NodeId.{NodeId}
use Rattle.inc_value.specs.declared.ty.Ty.{Ty}
use Rattle.script_model.specs.Check.{Computed, Grab, Kind, Names}
use Rattle.session.specs.Replies.{IsOwnNode}

-- the declaration at a position stands for itself, is of the type, and this is its node
pub record IsOwnOfType (names : Names) (nodes : List NodeId) (n : NodeId) (ty : Ty) (position : ℕ) : Type 0 where
  pub own : IsOwnNode names nodes n position
  pub typed : own.declared.ty ≡ ty

-- as another name for the declaration whose own node it is, or as a grab, its own target, where it is that of none
abbrev pub IsGrabbedAs : Names → List NodeId → NodeId → Ty → Kind → ℕ → Type 0
IsGrabbedAs names nodes n ty kind target =
    ((kind ≡ Computed) × IsOwnOfType names nodes n ty target)
    ⊎ ((kind ≡ Grab) × (target ≡ length names.declared) × ((position : ℕ) → IsOwnOfType names nodes n ty position → ⊥))
