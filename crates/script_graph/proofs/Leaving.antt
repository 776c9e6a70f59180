-- What a stabilize leaves of the nodes, as scopes keep them.
use Rattle.std.proofs.Common.{◌≡◌, ◌⊎◌, inl, inr, ◌≤◌, Bool, true, false, Option, None, Some, IsSome, is_some, refl, sym, ap, ◌∙◌}
use Rattle.std.proofs.lemmas.Bool.{cases_lt}
use Rattle.inc_value.specs.declared.node.NodeId.{NodeId}
use Rattle.inc_value.specs.declared.outcome.Outcome.{Outcome}
use Rattle.inc_terms.specs.Graph.{Graph, Row, Built}
use Rattle.inc_terms.specs.Local.{Scoped}
use Rattle.inc_terms.specs.Rebuild.{Inside, direct, nested}
use Rattle.inc_terms.specs.Rebuilding.{outcome_of}
use Rattle.inc_terms.specs.Same.{same_outcome}
use Rattle.inc_terms.specs.Term.{Functions}
use Rattle.inc_terms.specs.Within.{Given}
use Rattle.inc_terms.proofs.Same.{outcome_decides}
use Rattle.graph.specs.Standing.{GraphView, graph, look}
use Rattle.observers.specs.Observers.{in_use}
use Rattle.graph.specs.Stabilizes.{LeavesNodes, left_by, died_by}
use Rattle.stabilizer.specs.Left.{IsBuiltOther, BuildsRightIn}
use Rattle.node_arena.specs.Arena.{row_at}
use Rattle.stabilize_round.specs.Laws.{GraphStays}
use Rattle.wiring.specs.Stands.{Counts}
use Rattle.script_graph.specs.Settled.{ScopesBuilt}
use Rattle.script_graph.proofs.OneOwner.{outside_is_in_none}
use Rattle.script_graph.proofs.Staying.{TopsStay}
use Rattle.transfer.specs.Holding.{ScopesStay}

-- two outcomes are the same, or others
pub outcome_or : (a b : Option Outcome) → (a ≡ b) ⊎ (a ≡ b → ⊥)
outcome_or None None = inl refl
outcome_or None (Some p) = inr (λ e. cc)
outcome_or (Some o) None = inr (λ e. cc)
outcome_or (Some o) (Some p) = go (same_outcome o p) refl
  where
    go : (t : Bool) → same_outcome o p ≡ t → (Some o ≡ Some p) ⊎ (Some o ≡ Some p → ⊥)
    go true e = inl (ap (λ o. Some o) ((outcome_decides o p).0 e))
    go false e = inr (λ same. let decided = (outcome_decides o p).1 (let s : o ≡ p = cc in s) in cc)

-- what is built isn't built for nothing
unbuilt_other : (b b' : Option Built) → b' ≡ None → IsSome b → outcome_of b' ≡ outcome_of b → ⊥
unbuilt_other None b' none some same = cc
unbuilt_other (Some w) None none some same = cc
unbuilt_other (Some w) (Some w') none some same = cc

module _ {A : Type 0} (M : Functions) (old new : GraphView A) (before after : Counts)
    (given : (n : NodeId) (r : Row) → row_at old.nodes n ≡ Some r → Given old.nodes.given n) (scoped : Scoped (graph old)) (built : ScopesBuilt (graph old))
    (stays : GraphStays old.nodes.given new.nodes.given (graph old) (left_by old new)) (left : LeavesNodes M old new before after) where
  abbrev G : Graph
  G = graph old

  abbrev G' : Graph
  G' = graph new

  -- who stands inside a bind tells that it is built
  inside_built : (c n : NodeId) → Inside G c n → IsSome (G.built c)
  inside_built c n (direct {r} e scope) = built n r c e scope
  inside_built c n (nested {r} {c = d} e scope i) = inside_built c d i

  -- who died stood inside a bind that is built for another outcome
  pub fell : (n : NodeId) (r : Row) → G.row n ≡ Some r → G'.row n ≡ None → (b : NodeId) × Inside G b n × IsBuiltOther (graph old) (graph new) b
  fell n r row dead =
      let f = left.fallen n r row dead in
      (f.0, f.1, elim f.2 [ inl none ↦ unbuilt_other (G.built f.0) (G'.built f.0) none (inside_built f.0 n f.1) | inr other ↦ other ])

  pub tops_stay : TopsStay G G'
  tops_stay n r row outside = elim (stays.rows n (given n r row)) [
    | inl same ↦ same ∙ row
    | inr dead ↦ let f = fell n r row dead in absurd (outside_is_in_none G f.0 n r row outside f.1)
  ]

  -- a row that is there was so
  pub row_was : (n : NodeId) (q : Row) → Given old.nodes.given n → G'.row n ≡ Some q → G.row n ≡ Some q
  row_was n q p row = elim (stays.rows n p) [ inl same ↦ sym same ∙ row | inr dead ↦ absurd (let clash : None ≡ Some q = sym dead ∙ row in cc) ]

  inside_dies : (n b c : NodeId) (r q : Row) → G.row n ≡ Some r → r.scope ≡ Some b → G'.row b ≡ Some q
      → outcome_of (G'.built b) ≡ outcome_of (G.built b) → Inside G c n → IsBuiltOther (graph old) (graph new) c → ⊥
  inside_dies n b c r q row scope live same (direct {r = r'} e sc) other =
      let rows : r ≡ r' = (let k : Some r ≡ Some r' = sym row ∙ e in cc) in
      let binds : b ≡ c = (let k : Some b ≡ Some c = sym scope ∙ (ap (λ (x : Row). x.scope) rows ∙ sc) in cc) in
      other (sym (ap (λ (x : NodeId). outcome_of (G'.built x)) binds) ∙ (same ∙ ap (λ (x : NodeId). outcome_of (G.built x)) binds))
  inside_dies n b c r q row scope live same (nested {r = r'} {c = d} e sc i) other =
      let rows : r ≡ r' = (let k : Some r ≡ Some r' = sym row ∙ e in cc) in
      let binds : d ≡ b = (let k : Some d ≡ Some b = sym sc ∙ (ap (λ (x : Row). x.scope) (sym rows) ∙ scope) in cc) in
      let dead = left.killed d c i other in
      let clash : None ≡ Some q = sym dead ∙ (ap G'.row binds ∙ live) in cc

  -- what scopes have stays
  pub scopes_stay : ScopesStay G G'
  scopes_stay = record {
    rows = λ n r u row def. elim (stays.rows n (given n r row)) [ inl same ↦ inl (same ∙ row) | inr dead ↦ inr dead ];
    tops = λ n r u row def scope. tops_stay n r row scope;
    within = λ n b r q u row def scope live same. elim (stays.rows n (given n r row)) [
      | inl e ↦ e ∙ row
      | inr dead ↦ let f = fell n r row dead in absurd (inside_dies n b f.0 r q row scope live same f.1 f.2)
    ];
    scopes = λ n b r q u row def scope live. elim (outcome_or (outcome_of (G'.built b)) (outcome_of (G.built b))) [
      | inl same ↦ same
      | inr other ↦ absurd (
          let dead = left.killed n b (direct row scope) other in
          let clash : None ≡ Some q = sym dead ∙ live in cc)
    ];
    roots = λ b r q w w' row live is is' same.
        let out : outcome_of (G'.built b) ≡ outcome_of (G.built b) = ap outcome_of is' ∙ (ap (λ (o : Outcome). Some o) same ∙ sym (ap outcome_of is)) in
        let e = left.roots b q (given b r row) live out in
        let s : Some w' ≡ Some w = sym is' ∙ (e ∙ is) in cc;
  }

  -- a bind in whose scope a node stands is built again
  pub scopes_built : BuildsRightIn M (left_by old new) (died_by old new) (look old) (in_use old.observers) None → Scoped G' → ScopesBuilt G'
  scopes_built builds scoped' n r b row scope = elim (cases_lt n.gen_ old.nodes.given) [
    | inr late ↦ by_built (G'.built b) refl late
    | inl low ↦ by_old low
  ]
    where
      by_built : (x : Option Built) → G'.built b ≡ x → old.nodes.given ≤ n.gen_ → IsSome (G'.built b)
      by_built None e late = absurd (let clash = builds.scoped n r b late row scope e in cc)
      by_built (Some w) e late = ap is_some e

      by_old : Given old.nodes.given n → IsSome (G'.built b)
      by_old low =
          let was = row_was n r low row in
          let some = built n r b was scope in
          let q = scoped n r b was scope in
          let q' = scoped' n r b row scope in
          elim (builds.stays b q'.0 (given b q.0 q.4) q'.4) [
            | inl same ↦ ap is_some same ∙ some
            | inr (inl met) ↦ ap is_some met.right.is_built
            | inr (inr refused) ↦ absurd (cc)
          ]
