-- The rows of the nodes of declarations, and of the right sides of binds.
use Rattle.std.proofs.Common.{◌≡◌, ◌∙◌, ℕ, zero, suc, [], ◌∷◌, None, Some, refl, sym, subst, arith}
use Rattle.inc_value.specs.declared.node.NodeId.{NodeId}
use Rattle.inc_value.specs.declared.outcome.Outcome.TheVariants as outcome
use Rattle.inc_terms.proofs.Same.{outcome_decides}
use Rattle.inc_terms.specs.Graph.{Row, Built as BuiltFor}
use Rattle.inc_terms.specs.Term as term
use Rattle.script_model.specs.Formula.{Body, Formula, Kept as KeptOf, body_at, Name, Bound, Bind, Variable, Computed, Freeze, After, Every, Expert, Grab}
use Rattle.script_model.specs.Need.{Inside}
use Rattle.script_model.specs.Values.{Value}
use Rattle.script_graph.specs.Today.{AllPlain, IsDeclaredTarget, IsEarlierTarget, IsPlainBody}
use Rattle.script_graph.proofs.Owning.{HasOwnNode}
use Rattle.transfer.specs.Both.{Both, graph_value}
use Rattle.transfer.specs.Items.{node_at}
use Rattle.transfer.specs.Shows.{Built, Binding, Declares, Fits, Opens}
use Rattle.transfer.proofs.Places.{opened, place_shows}
use Rattle.transfer.proofs.Staying.{IsOther, other_row}

module _ (x : Both) (fits : Fits x) where
  -- a bind that is built for a value, and its root
  module _ (b : ℕ) (left below : Formula) (of : KeptOf) (is : body_at x.state b ≡ Some (Computed (Bind left below) of)) (w : BuiltFor) (v : Value) (root : NodeId)
      (built : x.graph.built (x.nodes b) ≡ Some w) (for : w.outcome ≡ outcome.Val (graph_value x.nodes v)) (is_root : w.root ≡ Some root) where
    root_place : node_at x b (Inside v ∷ []) ≡ Some root
    root_place =
        let whole : node_at x b [] ≡ Some (x.nodes b) = rw is refl in
        let test = (outcome_decides w.outcome (outcome.Val (graph_value x.nodes v))).1 for in
        rw (whole, built, test) is_root

    -- the root of a body that is a name is the name's node
    pub named_root : (t : ℕ) → below ≡ Name t → root ≡ x.nodes t
    named_root t e =
        let shows = place_shows x fits b (Inside v ∷ []) root (Name t) (rw (is, e) refl) root_place in
        let same : term.Ref root ≡ term.Ref (x.nodes t) = shows in cc

    -- that of another body stands in the bind's scope
    pub scoped_root : ((t : ℕ) → below ≡ Name t → ⊥) → (r : Row) × (x.graph.row root ≡ Some r) × (r.scope ≡ Some (x.nodes b))
    scoped_root no_name = by_form below refl
      where
        scope : (f : Formula) → below ≡ f → IsOther f → (r : Row) × (x.graph.row root ≡ Some r) × (r.scope ≡ Some (x.nodes b))
        scope f e other =
            let shows = place_shows x fits b (Inside v ∷ []) root f (rw (is, e) refl) root_place in
            let whole : node_at x b [] ≡ Some (x.nodes b) = rw is refl in
            let row = other_row x (node_at x b []) _ root f other shows in
            (row.0, row.2, row.3 ∙ whole)

        bound : (j : ℕ) → below ≡ Bound j → (r : Row) × (x.graph.row root ≡ Some r) × (r.scope ≡ Some (x.nodes b))
        bound zero e =
            let shows = place_shows x fits b (Inside v ∷ []) root (Bound 0) (rw (is, e) refl) root_place in
            let whole : node_at x b [] ≡ Some (x.nodes b) = rw is refl in
            let own : record { value = v; mode = Built (node_at x b []) } ≡ shows.0 = (let at = shows.1 in cc) in
            let opens = subst (λ (c : Binding). Opens x.graph c.mode (term.Ref root) (term.Const (graph_value x.nodes c.value))) (sym own) shows.2 in
            let o = opened x.graph (node_at x b []) root (term.Const (graph_value x.nodes v)) opens in
            (o.0, o.1, o.2 ∙ whole)
        bound (suc j) e =
            let shows = place_shows x fits b (Inside v ∷ []) root (Bound (suc j)) (rw (is, e) refl) root_place in
            absurd (let at = shows.1 in cc)

        by_form : (f : Formula) → below ≡ f → (r : Row) × (x.graph.row root ≡ Some r) × (r.scope ≡ Some (x.nodes b))
        by_form (Name t) e = absurd (no_name t e)
        by_form (Bound j) e = bound j e
        by_form f e = scope f e tt

  -- the node of what has one of its own, outside all scopes
  pub top_row : AllPlain x.state → (n : ℕ) (b : Body) → body_at x.state n ≡ Some b → HasOwnNode b → (r : Row) × (x.graph.row (x.nodes n) ≡ Some r) × (r.scope ≡ None)
  top_row plain n b is own = by_body b own (plain n b is) (rw is at (fits.declared n))
    where
      by_body : (c : Body) → HasOwnNode c → IsPlainBody (IsEarlierTarget x.state n) (IsDeclaredTarget x.state) c → Declares x (x.nodes n) (Some c)
          → (r : Row) × (x.graph.row (x.nodes n) ≡ Some r) × (r.scope ≡ None)
      by_body (Variable v) own fine d = (d.0, d.1, d.2)
      by_body (Computed (Name t) of) own fine d = absurd own
      by_body (Computed (Bound j) of) own fine d = absurd (let low = fine.0 in omega (arith, low))
      by_body (Computed f of) own fine d = let row = other_row x None [] (x.nodes n) f tt d in (row.0, row.2, row.3)
      by_body (Grab b v l) own fine d = absurd own
      by_body (After time) own fine d = (d.0, d.1, d.2)
      by_body (Every base span) own fine (d, alike) = (d.0, d.1, d.2)
      by_body (Freeze child predicate frozen) own fine (kid, d, shows, keeps) = (d.0, d.1, d.2)
      by_body (Expert f first links stale) own fine (kids, d, lists) = (d.0, d.1, d.2)
