-- A variable's value put in place of another.
use Rattle.std.proofs.Common.{◌≡◌, ◌≢◌, ℕ, List, Option, Some, None, inl, inr, refl, ap, sym, ◌∙◌, ◌⊎◌, slice_index_or, slice_set}
use Rattle.inc_value.specs.declared.node.NodeId.{NodeId}
use Rattle.inc_value.specs.declared.value.Value.{Value}
use Rattle.inc_terms.specs.Within.{Given, ValueWithin}
use Rattle.node_arena.specs.declared.arena.Entry.{Entry}
use Rattle.node_arena.specs.Arena.{Arena, row_at, row_of, IsVariable, IsSet, with_value}
use Rattle.node_arena.specs.Sound.{IsKept}
use Rattle.node_arena.specs.Typing.{FitsNode}
use Rattle.node_arena.proofs.Rows.{row_in, replaced, entry_of_row, count_replaced, same_id, told}
use Rattle.node_arena.proofs.Sound.{kept_set}

module _ (a : Arena) (id : NodeId) (e e' : Entry) (v : Value) (gen : e'.gen_ ≡ e.gen_) (row : row_of e'.row ≡ with_value (row_of e.row) v)
    (there : slice_index_or a.slots id.slot None ≡ Some e) (variable : IsVariable a id)
    (changed : slice_index_or (slice_set a.slots id.slot (Some e')) id.slot None ≡ Some e')
    (others : (j : ℕ) → j ≢ id.slot → slice_index_or (slice_set a.slots id.slot (Some e')) j None ≡ slice_index_or a.slots j None) where
  abbrev after : Arena
  after = record { slots = slice_set a.slots id.slot (Some e'); given = a.given; time = a.time }

  own : (e.gen_ ≡ id.gen_) × (row_of e.row ≡ variable.row)
  own = entry_of_row e id.gen_ variable.row (ap (λ (o : Option Entry). row_in o id.gen_) (sym there) ∙ variable.there)

  row_there : row_at a id ≡ Some (row_of e.row)
  row_there = variable.there ∙ ap Some (sym own.1)

  set : (n : NodeId) → ((n ≡ id) × (row_at after n ≡ Some (with_value (row_of e.row) v))) ⊎ (row_at after n ≡ row_at a n)
  set n = elim (replaced a after id.slot others e e' gen there changed n) [
    | inl h ↦ inl (h.0 ∙ sym (same_id id id.slot e.gen_ refl (sym own.0)), h.1 ∙ ap Some row)
    | inr same ↦ inr same
  ]

  set_at : row_at after id ≡ Some (with_value (row_of e.row) v)
  set_at = ap (λ (o : Option Entry). row_in o id.gen_) changed ∙ told e' id.gen_ (gen ∙ own.0) ∙ ap Some row

  pub is_set : IsSet a after id v
  is_set = record {
    row = row_of e.row;
    there = row_there;
    changes = record {
      changed = set_at;
      others = λ n other. elim (set n) [ inl h ↦ absurd (other h.0) | inr same ↦ same ];
      time = refl;
    };
  }

  pub is_kept : (ids : List NodeId) → IsKept a ids → ValueWithin (Given a.given) v → FitsNode a id v → IsKept after ids
  is_kept ids kept names fits =
      kept_set a after ids kept id (row_of e.row) v row_there set names fits refl refl (count_replaced a.slots id.slot e e' there)
