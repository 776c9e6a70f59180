-- What a freeze lacks that finds no memory.
use Rattle.std.proofs.Common.{◌≡◌, ◌∙◌, inl, inr, ℕ, false, List, [], ◌∷◌, Option, None, Some, refl, ap, subst}
use Rattle.inc_value.specs.declared.function.FnRef.{FnRef}
use Rattle.inc_value.specs.declared.node.NodeId.{NodeId}
use Rattle.inc_value.specs.declared.value.Value.{Value}
use Rattle.expert_nodes.specs.Experts.{ExpertPlace, is_stale_at}
use Rattle.inc_terms.specs.Depend.{main}
use Rattle.inc_terms.specs.Graph.{Graph, Row, Freeze}
use Rattle.inc_terms.specs.Term.{Functions}
use Rattle.inc_terms.specs.Work.{predicate_kids, taken_by}
use Rattle.node_arena.specs.Arena.{Arena, row_at}
use Rattle.node_arena.specs.Graph.{graph_of}
use Rattle.node_arena.specs.Sound.{IsSoundArena}
use Rattle.point_map.specs.Rows.{Rows, at}
use Rattle.node_outcomes.specs.Choosing.{held_in}
use Rattle.node_outcomes.specs.Computing.{KeepsTypes, Noted}
use Rattle.node_outcomes.specs.Lacking.{CallLacks, FreezeLacks, FreezeLacksBy, LacksRoom, NodeLacksRoom, UnfrozenLacks}
use Rattle.node_outcomes.specs.Row.{kept_in}
use Rattle.node_outcomes.proofs.Computing.{freeze_truth, kept_typed, kid_typed}
use Rattle.node_outcomes.proofs.Lacking.{gives_lacks, lacks_with, node_lacks, predicate_lacks}

module _ (F : Functions) (arena : Arena) (roots : Rows NodeId) (experts : List ExpertPlace) (round : ℕ) (old : Noted) (n : NodeId) (row : Row)
    (kept : KeepsTypes arena (held_in arena old.rows roots experts) old.rows) (sound : IsSoundArena arena) (is_row : row_at arena n ≡ Some row)
    (kid : NodeId) (f : FnRef) (is_freeze : row.def ≡ Freeze kid f) (room ran : ℕ) (marked : false ≡ is_stale_at experts n) where
  abbrev G : Graph
  G = graph_of arena (held_in arena old.rows roots experts)

  abbrev Lacks : Type 0
  Lacks = NodeLacksRoom G (is_stale_at experts) round old.rows room ran n

  -- of a call of its predicate it is so of the node
  any_type : CallLacks (λ m. false) round old.rows room ran n f.sig.gives (kid ∷ []) → CallLacks (λ m. false) round old.rows room ran n row.ty (kid ∷ [])
  any_type (inl text) = inl text
  any_type (inr h) = inr (
    h.0,
    predicate_lacks old.rows room ran n row.ty (kid ∷ [])
        (subst (λ t. LacksRoom old.rows room ran n t (kid ∷ [])) (freeze_truth F arena roots experts round old n row kept sound is_row kid f is_freeze) h.1),
  )

  unfrozen_lacks : kept_in (at old.rows (main n)) ≡ None → UnfrozenLacks round old.rows room ran n f.sig.gives kid → Lacks
  unfrozen_lacks none (inl h) = gives_lacks G (is_stale_at experts) round old.rows room ran n row h.0 is_row
      (kid_typed F arena roots experts round old n row kept sound is_row kid f is_freeze h.0 h.1).type.type h.2
  unfrozen_lacks none (inr h) = node_lacks G (is_stale_at experts) round old.rows room ran n row row.ty (kid ∷ []) is_row refl
      (ap (taken_by G n) is_freeze ∙ ap (predicate_kids kid) none)
      (lacks_with false (is_stale_at experts) round old.rows room ran n row.ty (kid ∷ []) marked (any_type h))

  pub freeze_lacks : FreezeLacks round old.rows room ran n f.sig.gives kid → Lacks
  freeze_lacks h = go (kept_in (at old.rows (main n))) refl h
    where
      go : (x : Option Value) → kept_in (at old.rows (main n)) ≡ x → FreezeLacksBy x round old.rows room ran n f.sig.gives kid → Lacks
      go None is l = unfrozen_lacks is l
      go (Some v) is l = gives_lacks G (is_stale_at experts) round old.rows room ran n row v is_row
          (kept_typed F arena roots experts round old n row kept sound is_row kid f is_freeze v is).type.type l
