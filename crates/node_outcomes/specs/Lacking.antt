-- Which room a node lacks that finds no memory, though no function found none.
use Rattle.std.specs.Prelude.{◌≡◌, ◌⊎◌, ◌<◌, ◌≤◌, ℕ, Bool, false, List, [], ◌∷◌, length, Option, None, Some}
use Rattle.std.specs.List.{AllZip, filter_map}
use Rattle.inc_value.specs.Choice.{Among}
use Rattle.inc_value.specs.Value.{type_of}
use Rattle.inc_value.specs.declared.node.NodeId.{NodeId}
use Rattle.inc_value.specs.declared.ty.Ty.{Ty}
use Rattle.inc_value.specs.declared.ty.Ty.TheVariants.{Text}
use Rattle.inc_value.specs.declared.value.Value.{Value}
use Rattle.inc_terms.specs.Graph.{Graph, Row}
use Rattle.inc_terms.specs.Work.{taken_by}
use Rattle.inc_terms.specs.Depend.{main}
use Rattle.point_map.specs.Rows.{Rows, at}
use Rattle.stabilize_round.specs.State.{Call}
use Rattle.node_outcomes.specs.Computing.{LastWas, ReasonIn, ShowsValue, value_shown}
use Rattle.node_outcomes.specs.Row.{kept_in}
use Rattle.node_outcomes.specs.Progress.{Progress}

-- a Text is among the values
pub record HasText (values : List Value) : Type 0 where
  pub value : Value
  pub among : Among value values
  pub type : type_of value ≡ Text

-- what lacks room where a function is called: a text, which it gives or sees, or the list of its children's values, which has room for two, and this
pub data LacksList (rows : Rows Progress) (room : ℕ) (t : Ty) (kids : List NodeId) : Type 0 where
  gives : t ≡ Text → LacksList rows room t kids
  sees : HasText (filter_map (value_shown rows) kids) → LacksList rows room t kids
  few : 2 < length kids → room < length kids → LacksList rows room t kids

-- what lacks room where a node's function is called: a text, which it gives or sees; the lists of its children's values, for more than two of
-- which its row has too little room; or the list of those that ran, which has this room and length
pub data LacksRoom (rows : Rows Progress) (room ran : ℕ) (n : NodeId) (t : Ty) (kids : List NodeId) : Type 0 where
  gives_text : t ≡ Text → LacksRoom rows room ran n t kids
  sees_text : HasText (filter_map (value_shown rows) kids) → LacksRoom rows room ran n t kids
  many_kids : (k : Progress) → at rows (main n) ≡ Some k → 2 < length kids → k.room < length kids → LacksRoom rows room ran n t kids
  ran_full : room ≤ ran → LacksRoom rows room ran n t kids

-- a node's function is to be called on what its children show
pub record IsToCall (stale : NodeId → Bool) (round : ℕ) (rows : Rows Progress) (n : NodeId) (kids : List NodeId) : Type 0 where
  pub values : List Value
  pub shown : AllZip (ShowsValue rows) kids values
  pub reason : ReasonIn stale round rows n kids values

-- what lacks room where a node whose function is called is computed: a text that it gave when its function was last called, or what a call lacks that is to be made
abbrev pub CallLacks : (NodeId → Bool) → ℕ → Rows Progress → ℕ → ℕ → NodeId → Ty → List NodeId → Type 0
CallLacks stale round rows room ran n t kids =
    ((c : Call) × LastWas rows n c × (type_of c.result ≡ Text)) ⊎ (IsToCall stale round rows n kids × LacksRoom rows room ran n t kids)

-- what a live node lacks that is computed: a text that it gives, or what its function does
pub record NodeLacksRoom (G : Graph) (stale : NodeId → Bool) (round : ℕ) (rows : Rows Progress) (room ran : ℕ) (n : NodeId) : Type 0 where
  pub row : Row
  pub is_row : G.row n ≡ Some row
  pub lacks : (row.ty ≡ Text) ⊎ ((kids : List NodeId) × (taken_by G n row.def ≡ Some kids) × CallLacks stale round rows room ran n row.ty kids)

-- what a freeze lacks that keeps no value: a text that its child shows, or what a call lacks of its predicate
abbrev pub UnfrozenLacks : ℕ → Rows Progress → ℕ → ℕ → NodeId → Ty → NodeId → Type 0
UnfrozenLacks round rows room ran n t kid =
    ((v : Value) × (value_shown rows kid ≡ Some v) × (type_of v ≡ Text)) ⊎ CallLacks (λ m. false) round rows room ran n t (kid ∷ [])

-- what a freeze lacks that keeps this value, or none
abbrev pub FreezeLacksBy : Option Value → ℕ → Rows Progress → ℕ → ℕ → NodeId → Ty → NodeId → Type 0
FreezeLacksBy None round rows room ran n t kid = UnfrozenLacks round rows room ran n t kid
FreezeLacksBy (Some v) round rows room ran n t kid = type_of v ≡ Text

-- what a freeze lacks: a text that it keeps, or that
abbrev pub FreezeLacks : ℕ → Rows Progress → ℕ → ℕ → NodeId → Ty → NodeId → Type 0
FreezeLacks round rows room ran n t kid = FreezeLacksBy (kept_in (at rows (main n))) round rows room ran n t kid
