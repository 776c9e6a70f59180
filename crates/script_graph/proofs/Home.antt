-- The declaration that holds an item is the first whose node isn't older than the node outside scopes round the item's.
use Rattle.std.proofs.Common.{◌≡◌, ◌⊎◌, inl, inr, ℕ, ◌<◌, true, false, List, [], ◌∷◌, length, Option, None, Some, refl, sym, ap, subst, ◌∙◌}
use Rattle.std.proofs.lemmas.Option.{slice_get_within}
use Rattle.inc_value.specs.Choice.{and_then}
use Rattle.inc_value.specs.declared.function.FnRef.{FnRef}
use Rattle.inc_value.specs.declared.node.NodeId.{NodeId}
use Rattle.inc_value.specs.declared.value.Value.{Value as GraphValue}
use Rattle.inc_terms.specs.Graph.{Graph, Row}
use Rattle.inc_terms.specs.Rebuild.{Inside as StandsInside, direct, nested}
use Rattle.inc_terms.specs.Term as term
use Rattle.graph.specs.Standing.{GraphView, IsOwner, graph}
use Rattle.script_model.specs.Blocked.{IsNoName, IsPrintedFor, own, of_bind}
use Rattle.script_model.specs.Formula.{State, Body, Formula, body_at, meanings_of, formula_of_body, Name, Bound, Bind, Variable, Computed, Freeze, After, Every, Expert, Grab}
use Rattle.script_model.specs.Need.{Edge, Argument, Test, Then, Else, Child, Left, Inside, Item, Named, Place, part_at, part_of, formula_at}
use Rattle.script_model.specs.Values.{Value}
use Rattle.script_graph.specs.Kept.{Kept, node_in}
use Rattle.script_graph.specs.Today.{IsWithin, IsPartWithin}
use Rattle.script_graph.proofs.Middle.{IsStabilize, middle, fits_then, tops, bind_node, aged_then}
use Rattle.script_graph.proofs.Owner.{IsResolved}
use Rattle.script_graph.proofs.Owning.{IsOutside, own_kid, own_name, own_part, aged_name}
use Rattle.transfer.specs.Both.{Both}
use Rattle.transfer.specs.Cycles.{IsForm}
use Rattle.transfer.specs.Items.{part_node, root_at, around, node_at, node_of, scope_at}
use Rattle.transfer.specs.Shows.{Built, Declares, IsOwn, Shows}
use Rattle.transfer.proofs.Agreement.{live_facts}
use Rattle.transfer.proofs.Going.{form_other}
use Rattle.transfer.proofs.Holding.{variable_at}
use Rattle.transfer.proofs.Places.{opened, part_above, place_shows, then_some}
use Rattle.transfer.proofs.Staying.{IsOther, other_form, other_row}
use Rattle.transfer.proofs.Typed.{body_entry}

-- what has a part into a body is a bind
inside_bind : (g f : Formula) (v : Value) → part_at g (Inside v) ≡ Some f → (left : Formula) × (body : Formula) × (g ≡ Bind left body)
inside_bind (Bind left body) f v e = (left, body, refl)
inside_bind g f v e = absurd (cc)

module _ (named : List ℕ → Option FnRef) (value : FnRef → List GraphValue → GraphValue) (s : State) (k : Kept) (g : GraphView (Unit {0}))
    (c : IsStabilize (meanings_of named value) s k g) where
  abbrev y : Both
  y = middle (meanings_of named value) s k g

  abbrev G' : Graph
  G' = graph g

  -- ---- places outside all bodies

  outside_of : (owner : ℕ) (path : List Edge) (n : NodeId) → node_at y owner path ≡ Some n → scope_at y owner path ≡ None → IsOutside path
  outside_of owner [] n at none = tt
  outside_of owner (Inside v ∷ path) n at none =
      let b = then_some (node_at y owner path) (λ b. and_then (y.graph.built b) (root_at y.nodes v)) n at in
      absurd (let clash : None ≡ Some b.0 = sym none ∙ b.1 in cc)
  outside_of owner (Argument j ∷ path) n at none =
      let b = then_some (node_at y owner path) (λ m. and_then (y.graph.row m) (λ r. part_node r.def (Argument j))) n at in outside_of owner path b.0 b.1 none
  outside_of owner (Test ∷ path) n at none =
      let b = then_some (node_at y owner path) (λ m. and_then (y.graph.row m) (λ r. part_node r.def Test)) n at in outside_of owner path b.0 b.1 none
  outside_of owner (Then ∷ path) n at none =
      let b = then_some (node_at y owner path) (λ m. and_then (y.graph.row m) (λ r. part_node r.def Then)) n at in outside_of owner path b.0 b.1 none
  outside_of owner (Else ∷ path) n at none =
      let b = then_some (node_at y owner path) (λ m. and_then (y.graph.row m) (λ r. part_node r.def Else)) n at in outside_of owner path b.0 b.1 none
  outside_of owner (Child ∷ path) n at none =
      let b = then_some (node_at y owner path) (λ m. and_then (y.graph.row m) (λ r. part_node r.def Child)) n at in outside_of owner path b.0 b.1 none
  outside_of owner (Left ∷ path) n at none =
      let b = then_some (node_at y owner path) (λ m. and_then (y.graph.row m) (λ r. part_node r.def Left)) n at in outside_of owner path b.0 b.1 none

  -- what is no bare name has a node there that was given with the declaration
  given_within : (owner : ℕ) (path : List Edge) (f : Formula) (n : NodeId) → IsOutside path → formula_at s owner path ≡ Some f → IsForm f
      → node_at y owner path ≡ Some n → IsWithin k.nodes owner n
  given_within owner (edge ∷ path) f n out is form at =
      (own_part y (IsWithin k.nodes) (IsPartWithin k.nodes) (aged_then named value s k g c) owner edge path f n out is form at).within
  given_within owner [] f n out is form at = go (body_at s owner) refl
    where
      go : (b : Option Body) → body_at s owner ≡ b → IsWithin k.nodes owner n
      go None body = absurd (let e = rw body at at in cc)
      go (Some (Computed h kept)) body =
          let node : Some (node_in k.nodes owner) ≡ Some n = rw body at at in
          let here : Some h ≡ Some f = rw body at is in
          let same : f ≡ h = cc in
          let one : node_in k.nodes owner ≡ n = cc in
          subst (IsWithin k.nodes owner) one
          (own_name y (IsWithin k.nodes) (IsPartWithin k.nodes) (aged_then named value s k g c) owner (Computed h kept) body (subst IsForm same form))
      go (Some (Variable v)) body = absurd (let e = rw body at at in cc)
      go (Some (Grab b v is_live)) body = absurd (let e = rw body at at in cc)
      go (Some (After time)) body = absurd (let e = rw body at at in cc)
      go (Some (Every base span)) body = absurd (let e = rw body at at in cc)
      go (Some (Freeze child predicate frozen)) body =
          let here : Some child ≡ Some f = rw body at is in
          let same : f ≡ child = cc in
          (own_kid y (IsWithin k.nodes) (IsPartWithin k.nodes) (aged_then named value s k g c) owner child predicate frozen body
          (subst IsForm same form) n at).within
      go (Some (Expert h first links stale)) body = absurd (let e = rw body at at in cc)

  -- ---- owners

  -- the node stands under one outside scopes that was given with the declaration
  pub record HasHome (home : ℕ) (n : NodeId) : Type 0 where
    pub top : NodeId
    pub owner : IsOwner G' n top
    pub within : IsWithin k.nodes home top

  -- who stands in the scope of such a node is such a node
  pub home_within : (home : ℕ) (b n : NodeId) (r : Row) → G'.row n ≡ Some r → r.scope ≡ Some b → HasHome home b → HasHome home n
  home_within home b n r row scope h = record {
    top = h.top;
    owner = record { row = h.owner.row; is_row = h.owner.is_row; outside = h.owner.outside; round = inr (round h.owner.round) };
    within = h.within;
  }
    where
      round : (h.top ≡ b) ⊎ StandsInside G' h.top b → StandsInside G' h.top n
      round (inl same) = direct row (scope ∙ ap (λ (m : NodeId). Some m) (sym same))
      round (inr inside) = nested row scope inside

  pub top_home : (home : ℕ) (n : NodeId) (r : Row) → G'.row n ≡ Some r → r.scope ≡ None → IsWithin k.nodes home n → HasHome home n
  top_home home n r row outside within =
      record { top = n; owner = record { row = r; is_row = row; outside = outside; round = inl refl }; within = within }

  -- so of each place's scope, and of each place of a form that is no variable
  abbrev ScopeHome : ℕ → List Edge → Type 0
  ScopeHome owner path = (f : Formula) → formula_at s owner path ≡ Some f → (n b : NodeId) → node_at y owner path ≡ Some n → scope_at y owner path ≡ Some b
      → HasHome owner b

  other_home : (owner : ℕ) (path : List Edge) → ScopeHome owner path → (f : Formula) → IsOther f → formula_at s owner path ≡ Some f
      → (n : NodeId) → node_at y owner path ≡ Some n → HasHome owner n
  other_home owner path scopes f other is n at =
      let row = other_row y (scope_at y owner path) (around y owner path) n f other (place_shows y (fits_then named value s k g c) owner path n f is at) in
      by_scope (scope_at y owner path) refl row.0 row.2 row.3
    where
      by_scope : (S : Option NodeId) → scope_at y owner path ≡ S → (r : Row) → G'.row n ≡ Some r → r.scope ≡ scope_at y owner path → HasHome owner n
      by_scope None none r row scope =
          let out = outside_of owner path n at none in
          top_home owner n r row (scope ∙ none) (given_within owner path f n out is (other_form f other) at)
      by_scope (Some b) some r row scope = home_within owner b n r row (scope ∙ some) (scopes f is n b at some)

  step_home : {n : NodeId} (owner : ℕ) (edge : Edge) (path : List Edge) (f : Formula) → formula_at s owner (edge ∷ path) ≡ Some f → ScopeHome owner path
      → ((m : NodeId) × (node_at y owner path ≡ Some m) × (and_then (y.graph.row m) (λ r. part_node r.def edge) ≡ Some n))
      → (b : NodeId) → scope_at y owner path ≡ Some b → HasHome owner b
  step_home owner edge path f is scopes step b scope =
      let above = part_above s owner path edge f is in scopes above.0 above.1 step.0 b step.1 scope

  scope_home : (owner : ℕ) (path : List Edge) → ScopeHome owner path
  scope_home owner [] f is n b at scope = absurd (cc)
  scope_home owner (Inside v ∷ path) f is n b at scope =
      let above = part_above s owner path (Inside v) f is in
      let bind = inside_bind above.0 f v above.2 in
      other_home owner path (scope_home owner path) (Bind bind.0 bind.1) tt (above.1 ∙ ap (λ (h : Formula). Some h) bind.2) b scope
  scope_home owner (Argument j ∷ path) f is n b at scope = step_home owner (Argument j) path f is (scope_home owner path)
      (then_some (node_at y owner path) (λ m. and_then (y.graph.row m) (λ r. part_node r.def (Argument j))) n at) b scope
  scope_home owner (Test ∷ path) f is n b at scope = step_home owner Test path f is (scope_home owner path)
      (then_some (node_at y owner path) (λ m. and_then (y.graph.row m) (λ r. part_node r.def Test)) n at) b scope
  scope_home owner (Then ∷ path) f is n b at scope = step_home owner Then path f is (scope_home owner path)
      (then_some (node_at y owner path) (λ m. and_then (y.graph.row m) (λ r. part_node r.def Then)) n at) b scope
  scope_home owner (Else ∷ path) f is n b at scope = step_home owner Else path f is (scope_home owner path)
      (then_some (node_at y owner path) (λ m. and_then (y.graph.row m) (λ r. part_node r.def Else)) n at) b scope
  scope_home owner (Child ∷ path) f is n b at scope = step_home owner Child path f is (scope_home owner path)
      (then_some (node_at y owner path) (λ m. and_then (y.graph.row m) (λ r. part_node r.def Child)) n at) b scope
  scope_home owner (Left ∷ path) f is n b at scope = step_home owner Left path f is (scope_home owner path)
      (then_some (node_at y owner path) (λ m. and_then (y.graph.row m) (λ r. part_node r.def Left)) n at) b scope

  -- the node of a place that is no bare name is one of its declaration's
  pub place_home : (owner : ℕ) (path : List Edge) (f : Formula) (n : NodeId) → formula_at s owner path ≡ Some f → IsForm f → node_at y owner path ≡ Some n
      → HasHome owner n
  place_home owner path f n is form at = elim (form_other f form) [
    | inr other ↦ other_home owner path (scope_home owner path) f other is n at
    | inl (j, e) ↦ by_variable j (rw e at is)
  ]
    where
      by_variable : (j : ℕ) → formula_at s owner path ≡ Some (Bound j) → HasHome owner n
      by_variable j is =
          let shows = place_shows y (fits_then named value s k g c) owner path n (Bound j) is at in
          let v = variable_at y owner path (Bound j) n j shows.0 is at shows.1 in
          let o = opened y.graph (Some v.node) n (term.Const _) (rw v.is_mode at shows.2) in
          home_within owner v.node n o.0 o.1 o.2 (other_home owner v.bind (scope_home owner v.bind) (Bind v.left v.body) tt v.is_formula v.node v.is_node)

  -- ---- items

  -- the declaration by which it is printed; its node is live, and one of that declaration's, or it is a dead grab
  pub data TellsOf (j : Item) (n : NodeId) : Type 0 where
    of_live : (home : ℕ) → home < length s.entries → HasHome home n → IsPrintedFor s home j → TellsOf j n
    of_dead : (m : ℕ) (b : Body) → G'.row n ≡ None → body_at s m ≡ Some b → IsOwn (Some b) → node_in k.nodes m ≡ n → j ≡ Named m → TellsOf j n

  body_low : (m : ℕ) (b : Body) → body_at s m ≡ Some b → m < length s.entries
  body_low m b is = let e = body_entry s m b is in slice_get_within s.entries m e.0 e.1

  formula_low : (owner : ℕ) (path : List Edge) (f : Formula) → formula_at s owner path ≡ Some f → owner < length s.entries
  formula_low owner path f is =
      let b = then_some (body_at s owner) (λ (b : Body). and_then (formula_of_body b) (λ (h : Formula). part_of h path)) f is in body_low owner b.0 b.1

  named_tells : (m : ℕ) (b : Body) (n : NodeId) → body_at s m ≡ Some b → IsOwn (Some b) → Declares y (node_in k.nodes m) (Some b) → node_in k.nodes m ≡ n
      → TellsOf (Named m) n
  named_tells m (Variable v) n is form h node =
      of_live m (body_low m (Variable v) is)
      (subst (HasHome m) node (top_home m (node_in k.nodes m) h.0 h.1 h.2 (aged_name (meanings_of named value) s k c.held m (Variable v) is tt))) (own refl tt)
  named_tells m (Computed f kept) n is form h node = by_form f (form_of f form) is h
    where
      form_of : (f : Formula) → IsOwn (Some (Computed f kept)) → IsForm f
      form_of (Name t) mine = absurd mine
      form_of f mine = tt

      by_form : (f : Formula) → IsForm f → body_at s m ≡ Some (Computed f kept) → Shows y (Built None) [] (term.Ref (node_in k.nodes m)) f → TellsOf (Named m) n
      by_form f own_form is h = elim (form_other f own_form) [
        | inl (j, e) ↦ absurd (let none = (rw e at h).1 in cc)
        | inr other ↦
            let row = other_row y None [] (node_in k.nodes m) f other h in
            of_live m (body_low m (Computed f kept) is)
            (subst (HasHome m) node (top_home m (node_in k.nodes m) row.0 row.2 row.3
            (aged_name (meanings_of named value) s k c.held m (Computed f kept) is own_form))) (own refl tt)
      ]
  named_tells m (Grab b v true) n is form (inl live) node =
      let f = live_facts y (fits_then named value s k g c) m b v is live in
      let there = bind_node named value s k g c b f.0 f.1 f.2 f.3 in
      let on = tops named value s k g c (node_in k.nodes b) there.row there.is_row there.outside in
      let home = top_home b (node_in k.nodes b) there.row on there.outside
      (aged_name (meanings_of named value) s k c.held b (Computed (Bind f.0 f.1) f.2) f.3 tt) in
      of_live b (body_low b (Computed (Bind f.0 f.1) f.2) f.3)
      (subst (HasHome b) node (home_within b (node_in k.nodes b) (node_in k.nodes m) f.5 f.6 f.7 home)) (of_bind m true v refl is)
  named_tells m (Grab b v true) n is form (inr lost) node =
      of_dead m (Grab b v true) (ap G'.row (sym node) ∙ lost.1) is form node refl
  named_tells m (Grab b v false) n is form h node = of_dead m (Grab b v false) (ap G'.row (sym node) ∙ h.0) is form node refl
  named_tells m (After time) n is form h node =
      of_live m (body_low m (After time) is)
      (subst (HasHome m) node (top_home m (node_in k.nodes m) h.0 h.1 h.2 (aged_name (meanings_of named value) s k c.held m (After time) is tt))) (own refl tt)
  named_tells m (Every base span) n is form (h, alike) node =
      of_live m (body_low m (Every base span) is)
      (subst (HasHome m) node (top_home m (node_in k.nodes m) h.0 h.1 h.2 (aged_name (meanings_of named value) s k c.held m (Every base span) is tt)))
      (own refl tt)
  named_tells m (Freeze child predicate frozen) n is form (kid, h, shows, keeps) node =
      of_live m (body_low m (Freeze child predicate frozen) is)
      (subst (HasHome m) node (top_home m (node_in k.nodes m) h.0 h.1 h.2
      (aged_name (meanings_of named value) s k c.held m (Freeze child predicate frozen) is tt))) (own refl tt)
  named_tells m (Expert f first links stale) n is form (kids, h, lists) node =
      of_live m (body_low m (Expert f first links stale) is)
      (subst (HasHome m) node (top_home m (node_in k.nodes m) h.0 h.1 h.2
      (aged_name (meanings_of named value) s k c.held m (Expert f first links stale) is tt))) (own refl tt)

  -- what an item tells of its node
  pub tells : (j : Item) (n : NodeId) → IsResolved s j → node_of y j ≡ Some n → TellsOf j n
  tells (Named m) n (b, is, form) at =
      named_tells m b n is form (rw is at ((fits_then named value s k g c).declared m)) (let e : Some (node_in k.nodes m) ≡ Some n = at in cc)
  tells (Place owner path) n (f, is, form) at =
      of_live owner (formula_low owner path f is) (place_home owner path f n is form at) (own refl (no_name f form is))
    where
      no_name : (f : Formula) → IsForm f → formula_at s owner path ≡ Some f → IsNoName s (Place owner path)
      no_name (Name t) form is u name = absurd form
      no_name f form is t name = let clash : Some f ≡ Some (Name t) = sym is ∙ name in cc
