-- Which room a node lacks that finds no memory.
use Rattle.std.proofs.Common.{◌≡◌, ◌≢◌, ◌⊎◌, inl, inr, ℕ, ℤ, ◌≤◌, Bool, true, List, [], ◌∷◌, length, None, Some, refl, sym, subst, ◌∙◌, Result, Ok, Err}
use Rattle.std.specs.Prelude.{OnErr}
use Rattle.std.proofs.lemmas.Bool.{cases_lt}
use Rattle.std.specs.List.{filter_map}
use Rattle.inc_value.specs.Value.{type_of}
use Rattle.inc_value.specs.declared.node.NodeId.{NodeId}
use Rattle.inc_value.specs.declared.ty.Ty.{Ty}
use Rattle.inc_value.specs.declared.ty.Ty.TheVariants as ty
use Rattle.inc_value.specs.declared.value.Value.{Value}
use Rattle.inc_terms.specs.Clock.{clock_value, reads_clock}
use Rattle.inc_terms.specs.Graph as graph
use Rattle.inc_terms.specs.Graph.{Graph, Row, Def}
use Rattle.inc_terms.specs.Work.{taken_by}
use Rattle.point_map.specs.Rows.{Rows}
use Rattle.node_outcomes.specs.Computing.{HasNoText, IsKnown, value_shown}
use Rattle.node_outcomes.specs.Lacking.{HasText, LacksList, LacksRoom, IsToCall, CallLacks, NodeLacksRoom, gives_text, sees_text, many_kids, ran_full, sees, few}
use Rattle.node_outcomes.specs.Meaning.{WantsFollow}
use Rattle.node_outcomes.specs.Progress.{Progress}
use Rattle.node_outcomes.proofs.Computing.{filter_is_shown}
use Rattle.node_outcomes.proofs.Reasons.{reason_of, reason_with}

-- a type is Text, or it isn't
pub text_or_not : (t : Ty) → (t ≡ ty.Text) ⊎ (t ≢ ty.Text)
text_or_not ty.Int = inr (λ e. cc)
text_or_not ty.Bool = inr (λ e. cc)
text_or_not ty.Text = inl refl
text_or_not (ty.Node b) = inr (λ e. cc)

-- a value that isn't no Text is one
pub text_by : (v : Value) → (type_of v ≢ ty.Text → ⊥) → type_of v ≡ ty.Text
text_by v h = elim (text_or_not (type_of v)) [
  | inl text ↦ text
  | inr not ↦ absurd (h not)
]

-- a Text is among values, or none is
pub has_or_not : (values : List Value) → HasText values ⊎ HasNoText values
has_or_not [] = inr tt
has_or_not (v ∷ vs) = elim (text_or_not (type_of v)) [
  | inl text ↦ inl (record { value = v; among = inl refl; type = text })
  | inr not ↦ elim (has_or_not vs) [
    | inl h ↦ inl (record { value = h.value; among = inr h.among; type = h.type })
    | inr none ↦ inr (not, none)
  ]
]

-- a list of values that has room for two, and this, found none for those that children show
pub list_lacks : (rows : Rows Progress) (room : ℕ) (t : Ty) (kids : List NodeId)
    → (length kids ≤ 2 → HasNoText (filter_map (value_shown rows) kids) → ⊥)
    → (length kids ≤ room → HasNoText (filter_map (value_shown rows) kids) → ⊥) → LacksList rows room t kids
list_lacks rows room t kids two scalar = elim (has_or_not (filter_map (value_shown rows) kids)) [
  | inl text ↦ sees text
  | inr none ↦ elim (cases_lt 2 (length kids)) [
    | inl some ↦ elim (cases_lt room (length kids)) [
      | inl many ↦ few some many
      | inr enough ↦ absurd (scalar enough none)
    ]
    | inr at_most ↦ absurd (two at_most none)
  ]
]

-- where it isn't known what a node gives its function is to be called
pub to_call : (stale : Bool) (round : ℕ) (rows : Rows Progress) (n : NodeId) (kids : List NodeId) → IsKnown stale round rows n kids None
    → IsToCall (λ (m : NodeId). stale) round rows n kids
to_call stale round rows n kids unknown =
    let shown = filter_is_shown rows kids unknown.0 in
    record {
      values = filter_map (value_shown rows) kids;
      shown = shown;
      reason = reason_of round rows stale n kids (filter_map (value_shown rows) kids) shown unknown.1;
    }

-- what lacks room is another word for what does
pub lacks_as : {A B T E : Type 0} (r : Result T E) (old new : ℕ) → (A → B) → WantsFollow A r old new → WantsFollow B r old new
lacks_as (Ok v) old new turn h = h
lacks_as (Err e) old new turn (inl h) = inl (h.0, turn h.1)
lacks_as (Err e) old new turn (inr h) = inr h

-- where nothing is called the count of wants stays
pub none_wanted : {A B T E : Type 0} (r : Result T E) (wants : ℕ) → (A → B) → OnErr r A → WantsFollow B r wants wants
none_wanted (Ok v) wants turn h = refl
none_wanted (Err e) wants turn h = inl (refl, turn h)

-- what reads the clock shows a value by it
pub clock_shows : (time : ℤ) (def : Def) → reads_clock def ≡ true → (v : Value) × (clock_value time def ≡ Some v)
clock_shows time (graph.At t) h = (_, refl)
clock_shows time (graph.Steps v steps) h = (_, refl)
clock_shows time graph.Now h = (_, refl)
clock_shows time (graph.Every base span) h = (_, refl)
clock_shows time (graph.Const v) h = absurd (cc)
clock_shows time (graph.Var v) h = absurd (cc)
clock_shows time (graph.Map f ns) h = absurd (cc)
clock_shows time (graph.Fold f v ns) h = absurd (cc)
clock_shows time (graph.If t a b) h = absurd (cc)
clock_shows time (graph.Join k) h = absurd (cc)
clock_shows time (graph.Bind l f caps) h = absurd (cc)
clock_shows time (graph.Freeze k f) h = absurd (cc)
clock_shows time (graph.Expert f v ns) h = absurd (cc)

-- what is so of a node by whether it is stale alone is so by which nodes are
pub lacks_with : (stale : Bool) (others : NodeId → Bool) (round : ℕ) (rows : Rows Progress) (room ran : ℕ) (n : NodeId) (t : Ty) (kids : List NodeId)
    → stale ≡ others n → CallLacks (λ (m : NodeId). stale) round rows room ran n t kids → CallLacks others round rows room ran n t kids
lacks_with stale others round rows room ran n t kids same (inl text) = inl text
lacks_with stale others round rows room ran n t kids same (inr h) = inr (
  record {
    values = h.0.values;
    shown = h.0.shown;
    reason = reason_with round rows (λ (m : NodeId). stale) others n kids h.0.values same h.0.reason;
  },
  h.1,
)

-- of a node whose function is called it is so of the node
pub node_lacks : (G : Graph) (stale : NodeId → Bool) (round : ℕ) (rows : Rows Progress) (room ran : ℕ) (n : NodeId) (row : Row) (t : Ty) (nodes : List NodeId)
    → G.row n ≡ Some row → t ≡ row.ty → taken_by G n row.def ≡ Some nodes → CallLacks stale round rows room ran n t nodes
    → NodeLacksRoom G stale round rows room ran n
node_lacks G stale round rows room ran n row t nodes is_row type takes h = record {
  row = row;
  is_row = is_row;
  lacks = inr (nodes, takes, subst (λ (x : Ty). CallLacks stale round rows room ran n x nodes) type h);
}

-- a node that gives a Text
pub gives_lacks : (G : Graph) (stale : NodeId → Bool) (round : ℕ) (rows : Rows Progress) (room ran : ℕ) (n : NodeId) (row : Row) (v : Value) → G.row n ≡ Some row
    → type_of v ≡ row.ty → type_of v ≡ ty.Text → NodeLacksRoom G stale round rows room ran n
gives_lacks G stale round rows room ran n row v is_row type text = record { row = row; is_row = is_row; lacks = inl (sym type ∙ text) }

-- a call of a predicate, which gives a truth value, lacks what a call of a node of any type does
pub predicate_lacks : (rows : Rows Progress) (room ran : ℕ) (n : NodeId) (t : Ty) (kids : List NodeId) → LacksRoom rows room ran n ty.Bool kids
    → LacksRoom rows room ran n t kids
predicate_lacks rows room ran n t kids (gives_text e) = absurd (let bad : ty.Bool ≡ ty.Text = e in cc)
predicate_lacks rows room ran n t kids (sees_text h) = sees_text h
predicate_lacks rows room ran n t kids (many_kids k there two h) = many_kids k there two h
predicate_lacks rows room ran n t kids (ran_full h) = ran_full h
