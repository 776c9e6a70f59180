-- A call that is made on a last call which its row has lent.
use Rattle.std.proofs.Common.{◌≡◌, ◌<◌, ℕ, List, length, Option, Some, ap, subst, ◌∙◌, Result, Ok, Err}
use Rattle.std.specs.List.{filter_map}
use Rattle.inc_value.specs.declared.node.NodeId.{NodeId}
use Rattle.inc_value.specs.declared.outcome.Outcome.{Outcome}
use Rattle.inc_value.specs.declared.ty.Ty.{Ty}
use Rattle.inc_value.specs.declared.value.Value.{Value}
use Rattle.inc_terms.specs.Depend.{main}
use Rattle.point_map.specs.Rows.{Rows, at}
use Rattle.node_outcomes.specs.Computing.{Calls, IsMade, noted, value_shown}
use Rattle.node_outcomes.specs.Lacking.{HasText, LacksList, LacksRoom, gives_text, sees_text, many_kids, gives, sees, few}
use Rattle.node_outcomes.specs.LastCall.{Last}
use Rattle.node_outcomes.specs.Meaning.{WantsFollow}
use Rattle.node_outcomes.specs.Progress.{Progress}
use Rattle.node_outcomes.specs.Row.{IsRewritten, with_lent, with_none}
use Rattle.node_outcomes.proofs.Lacking.{lacks_as}
use Rattle.node_outcomes.proofs.Rewriting.{called_row, lent_shown, uncalled_row}

module _ (old mid : Rows Progress) (n : NodeId) (before : Last) (kids : List NodeId)
    (lent : (k : Progress) × (at old (main n) ≡ Some k) × (before ≡ record { call = k.last; room = k.room })) (row : IsRewritten old mid (main n) with_none) where
  shown_then : value_shown mid ≡ value_shown old
  shown_then = lent_shown old mid old (main n) lent.0 lent.1 row

  -- the children show the same values
  pub same_values : filter_map (value_shown mid) kids ≡ filter_map (value_shown old) kids
  same_values = ap (λ (f : NodeId → Option Value). filter_map f kids) shown_then

  -- what the list lacks the node does
  list_room : (room ran : ℕ) (t : Ty) → LacksList mid before.room t kids → LacksRoom old room ran n t kids
  list_room room ran t (gives e) = gives_text e
  list_room room ran t (sees h) = sees_text (subst HasText same_values h)
  list_room room ran t (few two h) = many_kids lent.0 lent.1 two (subst (λ (l : Last). l.room < length kids) lent.2 h)

  pub lent_wants : {T E : Type 0} (room ran : ℕ) (t : Ty) (r : Result T E) (wants wants' : ℕ) → WantsFollow (LacksList mid before.room t kids) r wants wants'
      → WantsFollow (LacksRoom old room ran n t kids) r wants wants'
  lent_wants room ran t r wants wants' h = lacks_as r wants wants' (list_room room ran t) h

  module _ (new : Rows Progress) (after : Last) (given : IsRewritten mid new (main n) (with_lent after)) where
    -- the call is in the row then
    pub lent_calls : {E : Type 0} (answer : List Value → Value) (t : Ty) (ran ran' : List NodeId) (calls calls' : ℕ) (values : List Value) (cost : ℕ)
        (r : Result Outcome E) → IsMade answer t before after ran ran' calls calls' n values cost r
        → Calls answer t (noted old ran calls) (noted new ran' calls') n values cost r
    lent_calls answer t ran ran' calls calls' values cost (Ok o) m = record {
      outcome = m.outcome;
      type = m.type;
      row = called_row old mid new (main n) lent.0 lent.1 row after given (record { arguments = values; result = answer values })
          (m.last ∙ ap (λ (l : Last). record { call = Some (record { arguments = values; result = answer values }); room = l.room }) lent.2);
      ran = m.ran;
      count = m.count;
    }
    lent_calls answer t ran ran' calls calls' values cost (Err e) m = record {
      rows = uncalled_row old mid new (main n) lent.0 lent.1 row after given (m.last ∙ lent.2);
      ran = m.ran;
      count = m.count;
    }
