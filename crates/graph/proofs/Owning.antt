-- Who stands round a node: one walks outward, from scope to scope.
use Rattle.std.proofs.Common.{◌≡◌, ◌⊎◌, inl, inr, refl, sym, ap, subst, ◌∙◌, Option, None, Some}
use Rattle.std.specs.Prelude.{IsSome, is_some}
use Rattle.inc_value.specs.declared.node.NodeId.{NodeId}
use Rattle.inc_terms.specs.Graph.{Graph, Row}
use Rattle.inc_terms.specs.Local.{Scoped}
use Rattle.inc_terms.specs.Rebuild.{Inside, direct, nested}
use Rattle.graph.specs.Standing.{IsOwner}

no_live : (x : Option Row) → x ≡ None → IsSome x → ⊥
no_live x gone live = let h = sym (ap is_some gone) ∙ live in cc

-- what stands inside a node stands inside the bind round that
pub outward : (G : Graph) (top bind n : NodeId) (r : Row) → G.row top ≡ Some r → r.scope ≡ Some bind → Inside G top n → Inside G bind n
outward G top bind n r row scope (direct is inner) = nested is inner (direct row scope)
outward G top bind n r row scope (nested {c = c} is inner rest) = nested is inner (outward G top bind c r row scope rest)

-- from a node one came outward to a live one, or stands at it still
pub record CameTo (G : Graph) (n top : NodeId) : Type 0 where
  pub round : (top ≡ n) ⊎ (Inside G top n × IsSome (G.row top))

module _ (G : Graph) (n : NodeId) where
  pub begins : CameTo G n n
  begins = record { round = inl refl }

  -- one scope further
  pub further : Scoped G → (top bind : NodeId) (r : Row) → G.row top ≡ Some r → r.scope ≡ Some bind → CameTo G n top → CameTo G n bind
  further scoped top bind r row scope came = record {
    round = inr (
      elim came.round [
        | inl e ↦ subst (Inside G bind) e (direct row scope)
        | inr h ↦ outward G top bind n r row scope h.0
      ],
      let s = scoped top r bind row scope in ap is_some s.4,
    );
  }

  -- where none is met any more, the node isn't live
  pub was_dead : (top : NodeId) → CameTo G n top → G.row top ≡ None → IsSome (G.row n) → ⊥
  was_dead top came gone live = elim came.round [
    | inl e ↦ no_live (G.row n) (subst (λ (m : NodeId). G.row m ≡ None) e gone) live
    | inr h ↦ no_live (G.row top) gone h.1
  ]

  -- outside all scopes the owner is found
  pub is_owner : (top : NodeId) (r : Row) → CameTo G n top → G.row top ≡ Some r → r.scope ≡ None → IsOwner G n top
  is_owner top r came row outside = record {
    row = r;
    is_row = row;
    outside = outside;
    round = elim came.round [ inl e ↦ inl e | inr h ↦ inr h.0 ];
  }
