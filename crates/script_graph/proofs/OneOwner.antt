-- A node has one owner, if it has any: the node outside all scopes round it.
use Rattle.std.proofs.Common.{◌≡◌, inl, inr, None, Some, IsSome, is_some, sym, ap, subst, ◌∙◌}
use Rattle.graph.specs.Standing.{IsOwner}
use Rattle.inc_value.specs.declared.node.NodeId.{NodeId}
use Rattle.inc_terms.specs.Graph.{Graph, Row}
use Rattle.inc_terms.specs.Rebuild.{Inside, direct, nested}

module _ (G : Graph) where
  -- what stands in no scope stands inside no bind
  pub outside_is_in_none : (b n : NodeId) (r : Row) → G.row n ≡ Some r → r.scope ≡ None → Inside G b n → ⊥
  outside_is_in_none b n r row outside (direct {r = q} there scope) = let e : Some r ≡ Some q = sym row ∙ there in cc
  outside_is_in_none b n r row outside (nested {r = q} there scope inside) = let e : Some r ≡ Some q = sym row ∙ there in cc

  module _ (a b : NodeId) (r q : Row) (row : G.row a ≡ Some r) (outside : r.scope ≡ None) (row' : G.row b ≡ Some q) (outside' : q.scope ≡ None) where
    one_round : (n : NodeId) → Inside G a n → Inside G b n → a ≡ b
    one_round n (direct {r = s} is scope) (direct {r = t} is' scope') = let e : Some s ≡ Some t = sym is ∙ is' in cc
    one_round n (direct {r = s} is scope) (nested {r = t} {c = c} is' scope' inside) =
        let e : Some s ≡ Some t = sym is ∙ is' in
        let same : c ≡ a = cc in
        absurd (outside_is_in_none b a r row outside (subst (Inside G b) same inside))
    one_round n (nested {r = s} {c = c} is scope inside) (direct {r = t} is' scope') =
        let e : Some s ≡ Some t = sym is ∙ is' in
        let same : c ≡ b = cc in
        absurd (outside_is_in_none a b q row' outside' (subst (Inside G a) same inside))
    one_round n (nested {r = s} {c = c} is scope inside) (nested {r = t} {c = d} is' scope' inside') =
        let e : Some s ≡ Some t = sym is ∙ is' in
        let same : d ≡ c = cc in
        one_round c inside (subst (Inside G b) same inside')

  pub one_owner : (n a b : NodeId) → IsOwner G n a → IsOwner G n b → a ≡ b
  one_owner n a b x y = elim x.round [
    | inl e ↦ elim y.round [
      | inl e' ↦ e ∙ sym e'
      | inr inside ↦ absurd (outside_is_in_none b a x.row x.is_row x.outside (subst (Inside G b) (sym e) inside))
    ]
    | inr inside ↦ elim y.round [
      | inl e' ↦ absurd (outside_is_in_none a b y.row y.is_row y.outside (subst (Inside G a) (sym e') inside))
      | inr inside' ↦ one_round a b x.row y.row x.is_row x.outside y.is_row y.outside n inside inside'
    ]
  ]

  inside_is_live : (b n : NodeId) → Inside G b n → IsSome (G.row n)
  inside_is_live b n (direct is scope) = ap is_some is
  inside_is_live b n (nested is scope inside) = ap is_some is

  -- what has an owner is live
  pub owned_is_live : (n top : NodeId) → IsOwner G n top → IsSome (G.row n)
  owned_is_live n top is = elim is.round [
    | inl e ↦ ap is_some (ap G.row (sym e) ∙ is.is_row)
    | inr inside ↦ inside_is_live top n inside
  ]
