-- What one look at the children of a node tells of them, and what is known of it by their values.
use Rattle.std.specs.Prelude.{◌≡◌, ◌⊎◌, ◌++◌, ◌≤◌, ℕ, Bool, true, false, List, [], ◌∷◌, Option, None, Some}
use Rattle.std.specs.List.{AllZip}
use Rattle.inc_value.specs.declared.node.NodeId.{NodeId}
use Rattle.inc_value.specs.declared.outcome.Outcome.{Outcome}
use Rattle.inc_value.specs.declared.outcome.Outcome.TheVariants.{Val, Invalid}
use Rattle.inc_value.specs.declared.ty.Ty.{Ty}
use Rattle.inc_value.specs.declared.ty.Ty.TheVariants.{Text}
use Rattle.inc_value.specs.declared.value.Value.{Value}
use Rattle.inc_terms.specs.Depend.{main}
use Rattle.point_map.specs.Rows.{Rows, at}
use Rattle.stabilize_round.specs.State.{Call}
use Rattle.node_outcomes.specs.Computing.{AllShow, ShowsValue, forced_by, value_shown}
use Rattle.node_outcomes.specs.Lacking.{HasText}
use Rattle.node_outcomes.specs.Progress.{Progress}
use Rattle.node_outcomes.specs.Row.{passes_in}
use Rattle.node_outcomes.specs.declared.sight.Told.{Told}
use Rattle.node_outcomes.specs.declared.sight.Told.TheVariants as told

-- what is told of nodes: one shows no value; or these are the values that they show, and whether one of them forces a call; or nothing is
abbrev pub IsLook : Told → ℕ → Rows Progress → List NodeId → List Value → Type 0
IsLook told.Invalid round rows nodes values = AllShow rows nodes → ⊥
IsLook (told.Values forced) round rows nodes values = AllZip (ShowsValue rows) nodes values × (forced ≡ forced_by round rows nodes)
IsLook told.Other round rows nodes values = Unit {0}

-- so it is of one node more, whose value comes last
abbrev pub IsLookAt : Told → ℕ → Rows Progress → NodeId → List Value → List Value → Type 0
IsLookAt told.Invalid round rows n before after = value_shown rows n ≡ None
IsLookAt (told.Values forced) round rows n before after =
    (v : Value) × ShowsValue rows n v × (after ≡ before ++ v ∷ []) × (forced ≡ passes_in round (at rows (main n)))
IsLookAt told.Other round rows n before after = Unit {0}

-- a function is to be called on these values: it was last called on others, or never, or must be called
abbrev pub IsToCallOn : Bool → Option Call → List Value → Type 0
IsToCallOn must last values = ((c : Call) → last ≡ Some c → c.arguments ≡ values → ⊥) ⊎ (must ≡ true)

-- what is known of a node's outcome whose children show these values, by its last call, and by whether its function must be called: what the last call gave,
-- if that was on these; else the function is to be called
abbrev pub IsKnownOn : Bool → Option Call → List Value → Option Outcome → Type 0
IsKnownOn must last values (Some Invalid) = ⊥
IsKnownOn must last values (Some (Val v)) = (last ≡ Some (record { arguments = values; result = v })) × (must ≡ false)
IsKnownOn must last values None = IsToCallOn must last values

-- what lacks room where a function is called on these values: a text, which it gives or takes; or the list of those that ran, which has this room and length
abbrev pub LacksCall : ℕ → ℕ → Ty → List Value → Type 0
LacksCall room ran t values = (t ≡ Text) ⊎ HasText values ⊎ (room ≤ ran)
