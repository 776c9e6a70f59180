-- Binds built anew, one after the other, keep what scopes have.
use Rattle.std.proofs.Common.{◌≡◌, ◌⊎◌, inl, inr, true, false, List, Bool, Option, None, Some, refl, sym, ap, ◌∙◌}
use Rattle.std.specs.Prelude as std
use Rattle.inc_value.specs.declared.function.FnRef.{FnRef}
use Rattle.inc_value.specs.declared.node.NodeId.{NodeId}
use Rattle.inc_value.specs.declared.outcome.Outcome.{Outcome}
use Rattle.inc_value.specs.Choice.{Reaches, here, step}
use Rattle.inc_terms.specs.Graph.{Graph, Row, Built}
use Rattle.inc_terms.specs.Rebuild.{Inside, direct, nested}
use Rattle.inc_terms.specs.Rebuilding.{Moment, BuildStep, outcome_of, Dies}
use Rattle.inc_terms.specs.Same.{same_node, same_outcome}
use Rattle.inc_terms.specs.Term.{Functions}
use Rattle.inc_terms.specs.Within.{Given}
use Rattle.inc_terms.proofs.Rebuilding.{later_given, stays_dead, built_at_end, was_other, building_kills}
use Rattle.inc_terms.proofs.Same.{node_decides, outcome_decides}
use Rattle.transfer.specs.Holding.{ScopesStay}
use Rattle.transfer.specs.Laws.{BuildsKeepScopes}

node_or : (n m : NodeId) → (n ≡ m) ⊎ (n ≡ m → ⊥)
node_or n m = go (same_node n m) refl
  where
    go : (t : std.Bool) → same_node n m ≡ t → (n ≡ m) ⊎ (n ≡ m → ⊥)
    go true e = inl ((node_decides n m).0 e)
    go false e = inr (λ same. let decided = (node_decides n m).1 same in cc)

outcome_or : (a b : Option Outcome) → (a ≡ b) ⊎ (a ≡ b → ⊥)
outcome_or None None = inl refl
outcome_or None (Some p) = inr (λ e. cc)
outcome_or (Some o) None = inr (λ e. cc)
outcome_or (Some o) (Some p) = go (same_outcome o p) refl
  where
    go : (t : std.Bool) → same_outcome o p ≡ t → (Some o ≡ Some p) ⊎ (Some o ≡ Some p → ⊥)
    go true e = inl (ap (λ o. Some o) ((outcome_decides o p).0 e))
    go false e = inr (λ same. let decided = (outcome_decides o p).1 (let s : o ≡ p = cc in s) in cc)

module _ (F : Functions) (known : FnRef → Bool) (ids : FnRef → List NodeId) where
  abbrev Steps : Moment → Moment → Type 0
  Steps m end = Reaches (BuildStep F known ids) m end

  rows_stay : (m end : Moment) → Steps m end → (n : NodeId) (r : Row) → Given m.given n → m.graph.row n ≡ Some r
      → (end.graph.row n ≡ Some r) ⊎ (end.graph.row n ≡ None)
  rows_stay m end here n r p e = inl e
  rows_stay m end (step {b = next} s rest) n r p e =
      let later = later_given m.given next.given n s.step.later p in
      elim (s.step.rebuilds.rebuilt.rows n p) [
        | inl dead ↦ inr (stays_dead F known ids next end rest n later dead.1)
        | inr same ↦ rows_stay next end rest n r later (same.1 ∙ e)
      ]

  -- a bind that is built for the outcome that it was wasn't built anew
  same_built : (m end : Moment) → Steps m end → (b : NodeId) (r q : Row) (w w' : Built) → Given m.given b
      → m.graph.row b ≡ Some r → end.graph.row b ≡ Some q → m.graph.built b ≡ Some w → end.graph.built b ≡ Some w'
      → w'.outcome ≡ w.outcome → w' ≡ w
  same_built m end here b r q w w' p row live is is' same = (cc)
  same_built m end (step {b = next} s rest) b r q w w' p row live is is' same =
      let later = later_given m.given next.given b s.step.later p in
      elim (s.step.rebuilds.rebuilt.rows b p) [
        | inl dead ↦ absurd (let gone = stays_dead F known ids next end rest b later dead.1 in cc)
        | inr kept ↦ elim (node_or b s.step.bind) [
          | inl due ↦ absurd (by_due due)
          | inr other ↦
              let built = s.step.rebuilds.rebuilt.built b p other kept.0 in
              same_built next end rest b r q w w' later (kept.1 ∙ row) live (built ∙ is) is' same
        ]
      ]
    where
      by_due : b ≡ s.step.bind → ⊥
      by_due due =
          let at_end = built_at_end F known ids m next end s rest q (ap (λ n. end.graph.row n) (sym due) ∙ live) in
          let there : outcome_of (end.graph.built b) ≡ Some s.step.outcome = ap (λ n. outcome_of (end.graph.built n)) due ∙ at_end in
          let here' : Some w'.outcome ≡ Some s.step.outcome = sym (ap outcome_of is') ∙ there in
          let for : outcome_of (Some w) ≡ Some s.step.outcome = ap (λ o. Some o) (sym same) ∙ here' in
          was_other F known ids m next s (Some w) (ap (λ n. m.graph.built n) (sym due) ∙ is) for

  no_scope : (G : Graph) (c n : NodeId) (r : Row) → G.row n ≡ Some r → r.scope ≡ None → Inside G c n → ⊥
  no_scope G c n r row none (direct {r = q} e sc) = let same : r ≡ q = cc in let s = rw same at none in cc
  no_scope G c n r row none (nested {r = q} e sc i) = let same : r ≡ q = cc in let s = rw same at none in cc

  -- what any number of builds leave
  pub scopes_built : (m end : Moment) → Steps m end → ((n : NodeId) (r : Row) → m.graph.row n ≡ Some r → Given m.given n)
      → ((n : NodeId) (r : Row) (b : NodeId) → m.graph.row n ≡ Some r → r.scope ≡ Some b → (q : Row) × (m.graph.row b ≡ Some q))
      → ScopesStay m.graph end.graph
  scopes_built m end run given scoped =
      record {
        rows = λ n r u row def. rows_stay m end run n r (given n r row) row;
        tops = λ n r u row def none. elim (rows_stay m end run n r (given n r row) row) [
          | inl same ↦ same
          | inr dead ↦
              let d = (building_kills F known ids m end run n r (given n r row) row).0 dead in
              absurd (no_scope m.graph d.0 n r row none d.2)
        ];
        within = λ n b r q u row def scope live same. elim (rows_stay m end run n r (given n r row) row) [
          | inl kept ↦ kept
          | inr dead ↦
              let d = (building_kills F known ids m end run n r (given n r row) row).0 dead in
              absurd (by_round n b r q row scope live same d)
        ];
        scopes = λ n b r q u row def scope live. elim (outcome_or (outcome_of (end.graph.built b)) (outcome_of (m.graph.built b))) [
          | inl same ↦ same
          | inr other ↦
              let dead = (building_kills F known ids m end run n r (given n r row) row).1
              (b, (λ e. other (sym e)), direct row scope) in
              absurd (cc)
        ];
        roots = λ b r q w w' row live is is' same. same_built m end run b r q w w' (given b r row) row live is is' same;
      }
    where
      by_round : (n b : NodeId) (r q : Row) → m.graph.row n ≡ Some r → r.scope ≡ Some b → end.graph.row b ≡ Some q
          → outcome_of (end.graph.built b) ≡ outcome_of (m.graph.built b) → Dies m.graph end.graph n → ⊥
      by_round n b r q row scope live same (c, other, inside) = by_inside inside
        where
          by_inside : Inside m.graph c n → ⊥
          by_inside (direct {r = r'} e sc) =
              let rows : r ≡ r' = cc in
              let binds : b ≡ c = (let s = rw rows at scope in cc) in
              other (sym (rw binds at same))
          by_inside (nested {r = r'} {c = c'} e sc i) =
              let rows : r ≡ r' = cc in
              let binds : b ≡ c' = (let s = rw rows at scope in cc) in
              let bind = scoped n r b row scope in
              let dead = (building_kills F known ids m end run b bind.0 (given b bind.0 bind.1) bind.1).1
              (c, other, rw binds i) in
              cc

pub builds_keep_scopes : BuildsKeepScopes
builds_keep_scopes F known ids m end run given scoped = scopes_built F known ids m end run given scoped
