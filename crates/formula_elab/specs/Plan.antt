-- A plan: what is to be made in a graph, and what was made so far.
use Rattle.std.specs.Prelude.{◌≡◌, ◌<◌, Bool, List, [], ◌∷◌, ◌++◌, length, slice_get}
use Rattle.std.specs.Prelude.{Option, None, Some, IsTrue}
use Rattle.inc_value.specs.declared.node.NodeId.{NodeId}
use Rattle.formula_elab.specs.Make.{Make}
use Rattle.formula_elab.specs.Opened.{Planned, Makes, node_of, IsEarlier, IsMadeAs, AreInOrder, AreMadeAs, AreTyped}
use Rattle.formula_elab.specs.declared.make.Made.{Made}
use Rattle.formula_elab.specs.declared.opened.Part.{Part}

-- what is to be made in order, what was made so far, whether something was asked for and not made yet, and the node of
-- what is declared
pub record PlanView : Type 0 where
  pub makes : List Planned
  pub made : List Made
  pub is_waiting : Bool
  pub root : Part

-- what was made, with the last
abbrev pub with_made : List Made → Option Made → List Made
with_made made None = made
with_made made (Some m) = made ++ m ∷ []

-- it is what is to be made after these; nothing where all was made
abbrev pub IsNext : List Planned → List Made → Option Make → Type 0
IsNext makes made None = slice_get makes (length made) ≡ None
IsNext makes made (Some m) = (x : Planned) × (slice_get makes (length made) ≡ Some x) × Makes made x m

-- what was made is of the kind of what was asked for
abbrev pub IsAnswer : PlanView → Made → Type 0
IsAnswer p m = (x : Planned) × (slice_get p.makes (length p.made) ≡ Some x) × IsMadeAs x m

-- the node of what is declared
abbrev pub root_node : PlanView → NodeId
root_node p = node_of p.made p.root

-- all of it was made
abbrev pub IsMade : PlanView → Type 0
IsMade p = length p.made ≡ length p.makes

-- each needs earlier ones alone, bodies have lines of their types, what was made is of its kind, and one that was asked for is to be made
pub record IsSoundPlan (makes : List Planned) (made : List Made) (is_waiting : Bool) (root : Part) : Type 0 where
  pub order : AreInOrder [] makes
  pub root_within : IsEarlier makes root
  pub typed : AreTyped makes
  pub kinds : AreMadeAs makes made
  pub waits : IsTrue is_waiting → length made < length makes
