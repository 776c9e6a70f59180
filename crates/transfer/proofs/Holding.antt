-- What was held over the graph is covered by what was held of the script.
use Rattle.std.proofs.Common.{◌≡◌, inl, inr, ℕ, zero, suc, List, [], ◌∷◌, Option, Some, refl, sym, ap, subst, ◌∙◌, slice_get}
use Rattle.inc_value.specs.declared.node.NodeId.{NodeId}
use Rattle.inc_value.specs.declared.node.Point.{Point}
use Rattle.inc_value.specs.declared.outcome.Outcome.TheVariants as outcome
use Rattle.inc_value.specs.Choice.{and_then, Reaches, here, step, Every as Each}
use Rattle.inc_terms.specs.Depend.{main, Depends, none_died}
use Rattle.inc_terms.specs.Evaluate.{Stands}
use Rattle.inc_terms.specs.Graph as graph
use Rattle.inc_terms.specs.Graph.{Graph, Row, Def, Built as BuiltFor}
use Rattle.inc_terms.specs.Need.{Beside, Observed, Linked, Held as GraphHeld}
use Rattle.inc_terms.specs.Rebuilding.{outcome_of}
use Rattle.inc_terms.specs.Same.{same_outcome}
use Rattle.inc_terms.specs.Term as term
use Rattle.inc_terms.proofs.Local.{reach_more}
use Rattle.inc_terms.proofs.Same.{outcome_decides}
use Rattle.script_model.specs.Formula.{Formula, State, Name, Bound, If, Join, Bind}
use Rattle.script_model.specs.Need.{Edge, Argument, Test, Then, Else, Child, Left, Inside, Item, Named, Place, environment, bind_around, part_at, formula_at, Held, StillStands}
use Rattle.script_model.specs.Valid.{Valid, KeepToTypes}
use Rattle.script_model.specs.Values.{Value}
use Rattle.script_model.proofs.Places.{needed_stands}
use Rattle.transfer.specs.Both.{Both, graph_value}
use Rattle.transfer.specs.Shows.{Built, Binding, Shows, plain, Fits}
use Rattle.transfer.specs.Items.{part_node, root_at, node_at, around, scope_at, IsChoice, Covers, by_main, by_choice, by_left, by_variable, Closed, GhostsCovered, GrabsBind, HeldAre}
use Rattle.transfer.specs.Keeping.{RowsStay, NodesApart}
use Rattle.transfer.specs.Holding.{ScopesStay, Later, HoldersAre, LinksDepend}
use Rattle.transfer.proofs.Carriers.{name_or, part_in, outer_stands}
use Rattle.transfer.specs.Cycles.{IsForm}
use Rattle.transfer.proofs.Enclosed.{pass, held_reads, held_enclosed}
use Rattle.transfer.proofs.Places.{binding, if_true, opened, part_above, then_some, place_shows}
use Rattle.transfer.proofs.Staying.{IsOther, part_other, other_row, IsOwnValue, stands_own, node_stands, outcome_built, standing_row, scope_on, same_row, all_alike, all_own_then, place_stays}
use Rattle.transfer.proofs.Stepping.{bound_or, reached_covered}
use Rattle.transfer.proofs.Typed.{valid_grabs}

-- ---- later pairs

-- so before what scopes keep, as commands are before a call
pub scopes_then : (G G' G'' : Graph) → RowsStay G G' → ((b : NodeId) (r : Row) → G.row b ≡ Some r → G'.built b ≡ G.built b)
    → ((n : NodeId) (r : Row) (b : NodeId) → G.row n ≡ Some r → r.scope ≡ Some b
    → (q : Row) × (u : term.Term) × (G.row b ≡ Some q) × (plain q.def ≡ Some u))
    → ((b : NodeId) (r : Row) → G.row b ≡ Some r → (w : BuiltFor) → G.built b ≡ Some w → (q : Row) × (G'.row b ≡ Some q))
    → ScopesStay G' G'' → ScopesStay G G''
scopes_then G G' G'' rows built scoped lives later =
    record {
      rows = λ n r u row def. later.rows n r u (rows n r u row def) def;
      tops = λ n r u row def scope. later.tops n r u (rows n r u row def) def scope;
      within = λ n b r q u row def scope live same.
          let s = scoped n r b row scope in
          later.within n b r q u (rows n r u row def) def scope live (same ∙ sym (ap outcome_of (built b s.0 s.2)));
      scopes = λ n b r q u row def scope live.
          let s = scoped n r b row scope in
          later.scopes n b r q u (rows n r u row def) def scope live ∙ ap outcome_of (built b s.0 s.2);
      roots = λ b r q w w' row live is is' same.
          let s = lives b r row w is in
          later.roots b s.0 q w w' s.1 live (built b r row ∙ is) is' same;
    }

-- ---- what was held

-- what was held is closed
held_closed : (x : Both) (now : State) → GrabsBind x.state → Closed x (Held x.meanings x.state now)
held_closed x now grabs =
    record {
      reads = λ i j. held_reads x.meanings x.state now i j;
      lefts = λ owner path k bind is around. ((held_enclosed x.meanings x.state now grabs (Place owner path) is).1 k
          bind around).0;
      there = λ owner path is. (held_enclosed x.meanings x.state now grabs (Place owner path) is).0;
    }

no_ghosts : (x : Both) (X : Item → Type 0) → GhostsCovered x X none_died
no_ghosts x X i p b is covers row died = absurd (cc)

-- ---- variables

-- the bind that a variable belongs to has a node, and the variable's value is what that is built for
pub record Variable (x : Both) (owner : ℕ) (path : List Edge) (k : ℕ) (c : Binding) : Type 0 where
  pub bind : List Edge
  pub left : Formula
  pub body : Formula
  pub node : NodeId
  pub built : BuiltFor
  pub is_around : bind_around k path ≡ Some bind
  pub is_formula : formula_at x.state owner bind ≡ Some (Bind left body)
  pub is_node : node_at x owner bind ≡ Some node
  pub is_mode : c.mode ≡ Built (Some node)
  pub is_built : x.graph.built node ≡ Some built
  pub for_value : built.outcome ≡ outcome.Val (graph_value x.nodes c.value)

variable_here : (x : Both) (owner : ℕ) (path : List Edge) (v : Value) (c : Binding) (f g : Formula) (b n : NodeId)
    → Some (binding v (Built (node_at x owner path))) ≡ Some c → formula_at x.state owner path ≡ Some g
    → part_at g (Inside v) ≡ Some f → node_at x owner path ≡ Some b
    → and_then (x.graph.built b) (root_at x.nodes v) ≡ Some n → Variable x owner (Inside v ∷ path) zero c
variable_here x owner path v c f (Bind l body) b n e is part at root =
    let same : binding v (Built (node_at x owner path)) ≡ c = cc in
    let values : c.value ≡ v = sym (ap (λ (c : Binding). c.value) same) in
    let modes : c.mode ≡ Built (node_at x owner path) = sym (ap (λ (c : Binding). c.mode) same) in
    let w = then_some (x.graph.built b) (root_at x.nodes v) n root in
    let t = if_true (same_outcome w.0.outcome (outcome.Val (graph_value x.nodes v))) w.0.root n w.2 in
    let for_v = (outcome_decides w.0.outcome (outcome.Val (graph_value x.nodes v))).0 t.0 in
    record {
      bind = path;
      left = l;
      body = body;
      node = b;
      built = w.0;
      is_around = refl;
      is_formula = is;
      is_node = at;
      is_mode = modes ∙ ap (λ S. Built S) at;
      is_built = w.1;
      for_value = for_v ∙ ap (λ v. outcome.Val (graph_value x.nodes v)) (sym values);
    }
variable_here x owner path v c f g b n e is part at root = absurd (cc)

variable_out : (x : Both) (owner : ℕ) (path longer : List Edge) (j k : ℕ) (c : Binding)
    → bind_around j longer ≡ bind_around k path → Variable x owner path k c → Variable x owner longer j c
variable_out x owner path longer j k c same v =
    record {
      bind = v.bind;
      left = v.left;
      body = v.body;
      node = v.node;
      built = v.built;
      is_around = same ∙ v.is_around;
      is_formula = v.is_formula;
      is_node = v.is_node;
      is_mode = v.is_mode;
      is_built = v.is_built;
      for_value = v.for_value;
    }

variable_part : (edge : Edge) (x : Both) (owner : ℕ) (path : List Edge) (f : Formula) (n : NodeId) (k : ℕ) (c : Binding)
    → bind_around k (edge ∷ path) ≡ bind_around k path → formula_at x.state owner (edge ∷ path) ≡ Some f
    → and_then (node_at x owner path) (λ n. and_then (x.graph.row n) (λ r. part_node r.def edge)) ≡ Some n
    → ((g : Formula) (m : NodeId) → formula_at x.state owner path ≡ Some g → node_at x owner path ≡ Some m
    → Variable x owner path k c) → Variable x owner (edge ∷ path) k c
variable_part edge x owner path f n k c same is at more =
    let above = part_above x.state owner path edge f is in
    let node = then_some (node_at x owner path) (λ b. and_then (x.graph.row b) (λ r. part_node r.def edge)) n at in
    variable_out x owner path (edge ∷ path) k k c same (more above.0 node.0 above.1 node.1)

pub variable_at : (x : Both) (owner : ℕ) (path : List Edge) (f : Formula) (n : NodeId) (k : ℕ) (c : Binding)
    → formula_at x.state owner path ≡ Some f → node_at x owner path ≡ Some n
    → slice_get (around x owner path) k ≡ Some c → Variable x owner path k c
variable_at x owner [] f n k c is at e = absurd (cc)
variable_at x owner (Inside v ∷ path) f n zero c is at e =
    let above = part_above x.state owner path (Inside v) f is in
    let node = then_some (node_at x owner path) (λ b. and_then (x.graph.built b) (root_at x.nodes v)) n at in
    variable_here x owner path v c f above.0 node.0 n e above.1 above.2 node.1 node.2
variable_at x owner (Inside v ∷ path) f n (suc k) c is at e =
    let above = part_above x.state owner path (Inside v) f is in
    let node = then_some (node_at x owner path) (λ b. and_then (x.graph.built b) (root_at x.nodes v)) n at in
    variable_out x owner path (Inside v ∷ path) (suc k) k c refl
    (variable_at x owner path above.0 node.0 k c above.1 node.1 e)
variable_at x owner (Argument j ∷ path) f n k c is at e =
    variable_part (Argument j) x owner path f n k c (pass k (Argument j) path tt) is at
    (λ g m g_is m_at. variable_at x owner path g m k c g_is m_at e)
variable_at x owner (Test ∷ path) f n k c is at e =
    variable_part Test x owner path f n k c (pass k Test path tt) is at
    (λ g m g_is m_at. variable_at x owner path g m k c g_is m_at e)
variable_at x owner (Then ∷ path) f n k c is at e =
    variable_part Then x owner path f n k c (pass k Then path tt) is at
    (λ g m g_is m_at. variable_at x owner path g m k c g_is m_at e)
variable_at x owner (Else ∷ path) f n k c is at e =
    variable_part Else x owner path f n k c (pass k Else path tt) is at
    (λ g m g_is m_at. variable_at x owner path g m k c g_is m_at e)
variable_at x owner (Child ∷ path) f n k c is at e =
    variable_part Child x owner path f n k c (pass k Child path tt) is at
    (λ g m g_is m_at. variable_at x owner path g m k c g_is m_at e)
variable_at x owner (Left ∷ path) f n k c is at e =
    variable_part Left x owner path f n k c (pass k Left path tt) is at
    (λ g m g_is m_at. variable_at x owner path g m k c g_is m_at e)

-- ---- what stays of what was held

module _ (x then : Both) (fits : Fits x) (keep : KeepToTypes x.meanings) (valid : Valid x.meanings x.state)
    (later : Later x then) (fits_then : Fits then) (valid_then : Valid then.meanings then.state)
    (apart : NodesApart then.state then.nodes) where
  keep_then : KeepToTypes then.meanings
  keep_then = rw later.meanings keep

  abbrev X : Item → Type 0
  X i = Held x.meanings x.state then.state i

  closed : Closed x X
  closed = held_closed x then.state (valid_grabs x.meanings x.state valid)

  held_still : (i : Item) → X i → StillStands x.meanings x.state i
  held_still i h = needed_stands x.meanings x.state i (h.root, h.was, h.reached)

  -- the values round a place that was held are of own names
  held_own : (owner : ℕ) (path : List Edge) → X (Place owner path) → Each (IsOwnValue x.state) (environment path)
  held_own owner path h =
      let there = closed.there owner path h in
      stands_own x keep valid owner path there.0 there.1 (held_still (Place owner path) h)

  -- a live node of such a place, whose scope stands
  other_stays : (owner : ℕ) (path : List Edge) (f : Formula) (n : NodeId) (q : Row)
      → Each (IsOwnValue x.state) (environment path) → formula_at x.state owner path ≡ Some f → IsOther f
      → node_at x owner path ≡ Some n → then.graph.row n ≡ Some q → Stands then.functions then.graph q.scope
      → (node_at then owner path ≡ Some n) × StillStands then.meanings then.state (Place owner path)
  other_stays owner path f n q own is form at live stands =
      let row = other_row x (scope_at x owner path) (around x owner path) n f form (place_shows x fits owner path n f is at) in
      let on = rw row.3 at (scope_on x then fits later n row.0 q row.1 row.2 row.4 live stands) in
      let stays = place_stays x then fits later owner path f n is at (all_alike x then fits later (environment path) own) on in
      let is' = later.formulas owner path f is in
      let row' = other_row then (scope_at then owner path) (around then owner path) n f form
      (place_shows then fits_then owner path n f is' stays) in
      let same : row'.0 ≡ q = (let e = row'.2 in cc) in
      let scope : q.scope ≡ scope_at then owner path = rw same at row'.3 in (
        stays,
        node_stands then fits_then keep_then valid_then apart owner path f n is' stays
            (all_own_then x then fits later (environment path) own) (rw scope at stands),
      )

  -- a point of an item that was held and still stands
  abbrev Still : Point → Type 0
  Still h = (i : Item) × X i × StillStands then.meanings then.state i × Covers then i h

  name_stays : (k : ℕ) (q : Row) → X (Named k) → then.graph.row (x.nodes k) ≡ Some q → Still (main (x.nodes k))
  name_stays k q h live = elim (later.names k) [
    | inl same ↦ (Named k, h, tt, by_main (ap (λ n. Some n) same) refl)
    | inr gone ↦ absurd (let dead = gone.1 in cc)
  ]

  -- a variable's node, by the left of its bind
  variable_stays : (owner : ℕ) (bind : List Edge) (g : Formula) (b c : NodeId) (r q : Row) (w : BuiltFor) (v : _)
      → X (Place owner (Left ∷ bind)) → formula_at x.state owner bind ≡ Some g → IsOther g
      → node_at x owner bind ≡ Some b → x.graph.row c ≡ Some r → r.scope ≡ Some b → x.graph.built b ≡ Some w
      → w.outcome ≡ outcome.Val v → r.def ≡ graph.Const v → then.graph.row c ≡ Some q
      → Stands then.functions then.graph q.scope → Still (main c)
  variable_stays owner bind g b c r q w v h is form at row scope built for def live stands =
      let kind : plain r.def ≡ Some (term.Const v) = rw def refl in
      let same = same_row x then fits later c r q (term.Const v) row kind live in
      let on = rw scope at (scope_on x then fits later c r q (term.Const v) row kind live stands) in
      let bind_row = standing b on.1 in
      let round = outer_stands then b bind_row.0 bind_row.1 on.1 in
      let own = held_own owner (Left ∷ bind) h in
      let stays = other_stays owner bind g b bind_row.0 own is form at bind_row.1 round in
      let w' = built_then (then.graph.built b) w (on.0 ∙ ap outcome_of built) in (
        Place owner (Left ∷ bind),
        h,
        stays.1,
        by_variable refl stays.0 (rw same at live) scope w'.1 (w'.2 ∙ for) def refl,
      )
    where
      standing : (b : NodeId) → Stands then.functions then.graph (Some b) → (q : Row) × (then.graph.row b ≡ Some q)
      standing b s = standing_row x then fits later b s

      built_then : (a : Option BuiltFor) (w : BuiltFor) → outcome_of a ≡ Some w.outcome
          → (w' : BuiltFor) × (a ≡ Some w') × (w'.outcome ≡ w.outcome)
      built_then a w e = outcome_built a w e

  place_still : (owner : ℕ) (path : List Edge) (f : Formula) (n : NodeId) (q : Row) → X (Place owner path)
      → formula_at x.state owner path ≡ Some f → node_at x owner path ≡ Some n → then.graph.row n ≡ Some q
      → Stands then.functions then.graph q.scope → Still (main n)
  place_still owner path f n q h is at live stands = elim (name_or f) [
    | inl (t, e) ↦
        let f_is = rw e at is in
        let shows = place_shows x fits owner path n (Name t) f_is at in
        let same : n ≡ x.nodes t = cc in
        let named : X (Named t) = part_in x fits X closed owner path (Name t) 0 (Named t) h f_is (inl refl) in
        rw same (name_stays t q named (rw same at live))
    | inr form ↦ elim (bound_or f) [
      | inl (k, e) ↦
          let f_is = rw e at is in
          bound k f_is (place_shows x fits owner path n (Bound k) f_is at)
      | inr free ↦
          let stays = other_stays owner path f n q (held_own owner path h) is (other f form free) at live stands in
          (Place owner path, h, stays.1, by_main stays.0 refl)
    ]
  ]
    where
      other : (f : Formula) → IsForm f → ((k : ℕ) → f ≡ Bound k → ⊥) → IsOther f
      other (Name t) form free = form
      other (Bound k) form free = free k refl
      other f form free = tt

      bound : (k : ℕ) → formula_at x.state owner path ≡ Some (Bound k)
          → Shows x (Built (scope_at x owner path)) (around x owner path) (term.Ref n) (Bound k) → Still (main n)
      bound k f_is (c, e, op) =
          let v = variable_at x owner path (Bound k) n k c f_is at e in
          let o = opened x.graph (Some v.node) n (term.Const (graph_value x.nodes c.value)) (rw v.is_mode at op) in
          let d = plain_const o.0.def (graph_value x.nodes c.value) o.3 in
          let left : X (Place owner (Left ∷ v.bind)) = closed.lefts owner path k v.bind h v.is_around in
          variable_stays owner v.bind (Bind v.left v.body) v.node n o.0 q v.built (graph_value x.nodes c.value) left v.is_formula
          tt v.is_node o.1 o.2 v.is_built v.for_value d live stands
        where
          plain_const : (def : Def) (g : _) → plain def ≡ Some (term.Const g) → def ≡ graph.Const g
          plain_const (graph.Const h) g e = cc
          plain_const def g e = absurd (cc)

  choice_other : (f : Formula) → IsChoice (Some f) → IsOther f
  choice_other (If t a b) c = tt
  choice_other (Join c) h = tt
  choice_other f h = absurd h

  choice_later : (owner : ℕ) (path : List Edge) (f : Formula) → formula_at x.state owner path ≡ Some f → IsChoice (Some f)
      → IsChoice (formula_at then.state owner path)
  choice_later owner path f is choice = rw (later.formulas owner path f is) choice

  -- a live point of an item that was held, whose scope stands, is of one that still stands
  covers_stay : (i : Item) (h : Point) (q : Row) → X i → Covers x i h → then.graph.row h.node ≡ Some q
      → Stands then.functions then.graph q.scope → Still h
  covers_stay (Named k) h q is (by_main {n = n} at e) live stands =
      let same : x.nodes k ≡ n = cc in
      rw (e, ← same) (name_stays k q is (rw (e, ← same) at live))
  covers_stay (Place owner path) h q is (by_main {n = n} at e) live stands =
      let f = closed.there owner path is in
      rw e (place_still owner path f.0 n q is f.1 at (rw e at live) stands)
  covers_stay i h q is (by_choice {owner = owner} {path = path} {n = n} item at choice e) live stands =
      let place = rw item at is in
      let f = closed.there owner path place in
      let is_choice = rw f.1 at choice in
      let stays = other_stays owner path f.0 n q (held_own owner path place) f.1 (choice_other f.0 is_choice) at
      (rw e at live) stands in
      (Place owner path, place, stays.1, by_choice refl stays.0 (choice_later owner path f.0 f.1 is_choice) e)
  covers_stay i h q is (by_left {owner = owner} {path = path} {b = b} item at e) live stands =
      let place = rw item at is in
      let f = closed.there owner (Left ∷ path) place in
      let above = part_above x.state owner path Left f.0 f.1 in
      let stays = other_stays owner path above.0 b q (held_own owner (Left ∷ path) place) above.1
      (part_other above.0 Left f.0 above.2) at (rw e at live) stands in
      (Place owner (Left ∷ path), place, stays.1, by_left refl stays.0 e)
  covers_stay i h q is (by_variable {owner = owner} {path = path} {b = b} {c = c} {r = r} {w = w} {v = v} item at row scope
      built for def e) live stands =
      let place = rw item at is in
      let f = closed.there owner (Left ∷ path) place in
      let above = part_above x.state owner path Left f.0 f.1 in
      rw e (variable_stays owner path above.0 b c r q w v place above.1 (part_other above.0 Left f.0 above.2) at row scope
      built for def (rw e at live) stands)

  -- a point that was held, lives and stands is one of an item that was held and stands
  pub held_are : (beside : Beside) (observers : List Observed) → HoldersAre x then beside observers
      → LinksDepend x beside observers → HeldAre then x.state (GraphHeld beside observers)
  held_are beside observers holders links h r held row stands =
      let root = holders held.holder held.node held.is_root held.still in
      let start : Item = Named root.0 in
      let found = reached_covered x fits X closed none_died (no_ghosts x X) (main held.node) h (
        start,
        record { root = start; was = root.2; is_still = root.3; reached = here },
        by_main (ap (λ n. Some n) (sym root.1)) refl,
      ) (walk (main held.node) h here held.reached) in
      let still = covers_stay found.0 h r found.1 found.2 row stands in
      (still.0, subst (λ F. Held F x.state then.state still.0) (sym later.meanings) still.1, still.2, still.3)
    where
      walk : (p q : Point) → Reaches (Linked beside) (main held.node) p → Reaches (Linked beside) p q
          → Reaches (Depends x.functions x.graph none_died) p q
      walk p q so_far here = here
      walk p q so_far (step {b = b} link on) =
          step (links p b (record {
            holder = held.holder;
            node = held.node;
            is_root = held.is_root;
            still = held.still;
            reached = so_far;
          }) link) (walk b q (reach_more (Linked beside) (main held.node) p b so_far link) on)
