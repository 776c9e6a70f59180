-- A scope stands where the lefts of the binds round it give the place's values, and the other way round.
use Rattle.std.proofs.Common.{◌≡◌, ℕ, zero, suc, true, false, List, [], ◌∷◌, Option, None, Some, refl, sym, ◌∙◌, cond}
use Rattle.std.specs.Prelude as std
use Rattle.inc_value.specs.declared.function.FnRef.{FnRef}
use Rattle.inc_value.specs.declared.node.NodeId.{NodeId}
use Rattle.inc_value.specs.declared.outcome.Outcome.{Outcome as GraphOutcome}
use Rattle.inc_value.specs.declared.outcome.Outcome.TheVariants as outcome
use Rattle.inc_value.specs.declared.value.Value.TheVariants as held
use Rattle.inc_value.specs.Choice.{and_then}
use Rattle.inc_terms.specs.Evaluate as engine
use Rattle.inc_terms.specs.Evaluate.{answer, Gives, Stands, Of, Around}
use Rattle.inc_terms.specs.Graph as graph
use Rattle.inc_terms.specs.Graph.{Row}
use Rattle.inc_terms.specs.Same.{same_outcome}
use Rattle.inc_terms.specs.Term as term
use Rattle.inc_terms.proofs.Same.{outcome_decides}
use Rattle.script_model.specs.Values.{Value, Outcome, Val}
use Rattle.script_model.specs.Formula.{Formula, Bind}
use Rattle.script_model.specs.Need.{Edge, Argument, Test, Then, Else, Child, Left, Inside, Place, part_at, formula_at, ItemGives, StillStands}
use Rattle.script_model.proofs.TypedCalls.{part_is}
use Rattle.transfer.specs.Both.{Both, graph_value}
use Rattle.transfer.specs.Shows.{Built, Shows, Fits}
use Rattle.transfer.specs.Items.{part_node, root_at, node_at, around, scope_at, ApartAt}
use Rattle.transfer.proofs.Places.{part_above, then_some, if_true, opened, plain_bind, place_shows}
use Rattle.transfer.proofs.Carriers.{place_agrees, outer_stands}
use Rattle.transfer.proofs.Says.{value_alone}

module _ (x : Both) (fits : Fits x) where
  -- a bind round a place, by its row, and what it is built for
  abbrev Rounds : ℕ → List Edge → Value → NodeId → Type 0
  Rounds owner path v b =
      (r : Row) × (l : NodeId) × (h : FnRef) × (caps : List NodeId) × (w : graph.Built) × (left : Formula)
      × (x.graph.row b ≡ Some r) × (r.scope ≡ scope_at x owner path) × (r.def ≡ graph.Bind l h caps)
      × (x.graph.built b ≡ Some w) × (w.outcome ≡ outcome.Val (graph_value x.nodes v))
      × (node_at x owner (Left ∷ path) ≡ Some l) × (formula_at x.state owner (Left ∷ path) ≡ Some left)

  rounds_at : (owner : ℕ) (path : List Edge) (v : Value) (f g : Formula) (b n : NodeId)
      → formula_at x.state owner path ≡ Some g → part_at g (Inside v) ≡ Some f → node_at x owner path ≡ Some b
      → and_then (x.graph.built b) (root_at x.nodes v) ≡ Some n → Rounds owner path v b
  rounds_at owner path v f (Bind left body) b n g_is part at root =
      go (place_shows x fits owner path b (Bind left body) g_is at)
    where
      by_row : (r : Row) → x.graph.row b ≡ Some r → r.scope ≡ scope_at x owner path
          → (l : NodeId) (h : FnRef) (caps : List NodeId) → r.def ≡ graph.Bind l h caps → Rounds owner path v b
      by_row r row scope l h caps def =
          let w = then_some (x.graph.built b) (root_at x.nodes v) n root in
          let t = if_true (same_outcome w.0.outcome (outcome.Val (graph_value x.nodes v))) w.0.root n w.2 in (
            r,
            l,
            h,
            caps,
            w.0,
            left,
            row,
            scope,
            def,
            w.1,
            (outcome_decides w.0.outcome (outcome.Val (graph_value x.nodes v))).0 t.0,
            rw (at, row, def) refl,
            part_is x.state owner path (Bind left body) Left g_is,
          )

      go : Shows x (Built (scope_at x owner path)) (around x owner path) (term.Ref b) (Bind left body)
          → Rounds owner path v b
      go (p, h, caps, op, sl, inner, fills, writes) =
          let o = opened x.graph (scope_at x owner path) b (term.Bind p h caps) op in
          let k = plain_bind o.0.def p h caps o.3 in
          by_row o.0 o.1 o.2 k.0 h k.1 k.2
  rounds_at owner path v f g b n g_is part at root = absurd (cc)

  -- what a bind's scope answers, over what its own scope and its left answer
  round_parts : (owner : ℕ) (path : List Edge) (v : Value) (b : NodeId) (w : Rounds owner path v b) (a : GraphOutcome)
      → Gives x.functions x.graph (Around (Some b)) a
      → (d : ℕ) × (engine.with_value (answer x.functions x.graph d (Around (scope_at x owner path)))
      (λ t. and_then (answer x.functions x.graph d (Of (term.Ref w.1))) (engine.as_built (Some w.4))) ≡ Some a)
  unfolding answer
  round_parts owner path v b w a (zero, e) = absurd (cc)
  round_parts owner path v b (r, l, h, caps, w, left, row, scope, def, built, for, at, f_is) a (suc d, e) =
      (d, rw (row, scope, def, built) at e)

  -- a place whose scope stands is one whose environment is present
  pub stands_present : (owner : ℕ) (path : List Edge) (f : Formula) (n : NodeId)
      → formula_at x.state owner path ≡ Some f → node_at x owner path ≡ Some n → ApartAt x owner path
      → Stands x.functions x.graph (scope_at x owner path) → StillStands x.meanings x.state (Place owner path)
  stands_present owner [] f n f_is at apart stands = tt
  stands_present owner (Inside v ∷ path) f n f_is at apart stands =
      let above = part_above x.state owner path (Inside v) f f_is in
      let node = then_some (node_at x owner path) (λ b. and_then (x.graph.built b) (root_at x.nodes v)) n at in
      let w = rounds_at owner path v f above.0 node.0 n above.1 above.2 node.1 node.2 in
      let here = rw node.1 at stands in
      let p = round_parts owner path v node.0 w (outcome.Val (held.Bool true)) here in
      let outer = rw w.7 at (outer_stands x node.0 w.0 w.6 here) in (
        by_outer w p.0 (answer x.functions x.graph p.0 (Around (scope_at x owner path))) p.1 outer,
        stands_present owner path above.0 node.0 above.1 node.1 apart.1 outer,
      )
    where
      by_test : {b : NodeId} (w : Rounds owner path v b) (d : ℕ) (o : GraphOutcome)
          → answer x.functions x.graph d (Of (term.Ref w.1)) ≡ Some o → (t : std.Bool)
          → same_outcome o w.4.outcome ≡ t
          → cond t (Some (outcome.Val (held.Bool true))) (Some outcome.Invalid) ≡ Some (outcome.Val (held.Bool true))
          → Stands x.functions x.graph (scope_at x owner path)
          → ItemGives x.meanings x.state (Place owner (Left ∷ path)) (Val v)
      by_test w d o is false t e outer = absurd (cc)
      by_test (r, l, h, caps, w, left, row, scope, def, built, for, l_at, l_is) d o is true t e outer =
          let g = place_agrees x fits owner (Left ∷ path) left l o l_is l_at outer (d, is) in
          let left_is : o ≡ outcome.Val (graph_value x.nodes v) = (outcome_decides o w.outcome).0 t ∙ for in
          let u = value_alone x.nodes (graph_value x.nodes v) g.0 (sym left_is ∙ g.1) in
          given_v u.0 g.0 u.1 (apart.0 u.0 (rw u.1 at g.2) (sym u.2)) g.2
        where
          given_v : (u : Value) (p : Outcome) → p ≡ Val u → u ≡ v
              → ItemGives x.meanings x.state (Place owner (Left ∷ path)) p
              → ItemGives x.meanings x.state (Place owner (Left ∷ path)) (Val v)
          given_v u p e e' g = rw (e, e') at g

      by_left : {b : NodeId} (w : Rounds owner path v b) (d : ℕ) (o : Option GraphOutcome)
          → answer x.functions x.graph d (Of (term.Ref w.1)) ≡ o
          → and_then o (engine.as_built (Some w.4)) ≡ Some (outcome.Val (held.Bool true))
          → Stands x.functions x.graph (scope_at x owner path)
          → ItemGives x.meanings x.state (Place owner (Left ∷ path)) (Val v)
      by_left w d None is e outer = absurd (cc)
      by_left w d (Some o) is e outer = by_test w d o is (same_outcome o w.4.outcome) refl e outer

      by_outer : {b : NodeId} (w : Rounds owner path v b) (d : ℕ) (o : Option GraphOutcome)
          → engine.with_value o (λ t. and_then (answer x.functions x.graph d (Of (term.Ref w.1)))
          (engine.as_built (Some w.4))) ≡ Some (outcome.Val (held.Bool true))
          → Stands x.functions x.graph (scope_at x owner path)
          → ItemGives x.meanings x.state (Place owner (Left ∷ path)) (Val v)
      by_outer w d None e outer = absurd (cc)
      by_outer w d (Some outcome.Invalid) e outer = absurd (cc)
      by_outer w d (Some (outcome.Val t)) e outer =
          by_left w d (answer x.functions x.graph d (Of (term.Ref w.1))) refl e outer
  stands_present owner (Argument k ∷ path) f n f_is at apart stands =
      let above = part_above x.state owner path (Argument k) f f_is in
      let node = then_some (node_at x owner path)
      (λ b. and_then (x.graph.row b) (λ r. part_node r.def (Argument k))) n at in
      stands_present owner path above.0 node.0 above.1 node.1 apart stands
  stands_present owner (Test ∷ path) f n f_is at apart stands =
      let above = part_above x.state owner path Test f f_is in
      let node = then_some (node_at x owner path) (λ b. and_then (x.graph.row b) (λ r. part_node r.def Test)) n at in
      stands_present owner path above.0 node.0 above.1 node.1 apart stands
  stands_present owner (Then ∷ path) f n f_is at apart stands =
      let above = part_above x.state owner path Then f f_is in
      let node = then_some (node_at x owner path) (λ b. and_then (x.graph.row b) (λ r. part_node r.def Then)) n at in
      stands_present owner path above.0 node.0 above.1 node.1 apart stands
  stands_present owner (Else ∷ path) f n f_is at apart stands =
      let above = part_above x.state owner path Else f f_is in
      let node = then_some (node_at x owner path) (λ b. and_then (x.graph.row b) (λ r. part_node r.def Else)) n at in
      stands_present owner path above.0 node.0 above.1 node.1 apart stands
  stands_present owner (Child ∷ path) f n f_is at apart stands =
      let above = part_above x.state owner path Child f f_is in
      let node = then_some (node_at x owner path) (λ b. and_then (x.graph.row b) (λ r. part_node r.def Child)) n at in
      stands_present owner path above.0 node.0 above.1 node.1 apart stands
  stands_present owner (Left ∷ path) f n f_is at apart stands =
      let above = part_above x.state owner path Left f f_is in
      let node = then_some (node_at x owner path) (λ b. and_then (x.graph.row b) (λ r. part_node r.def Left)) n at in
      stands_present owner path above.0 node.0 above.1 node.1 apart stands
