-- A place whose scope stands in a later pair has there the node that it had, and one node alone.
use Rattle.std.proofs.Common.{◌≡◌, inl, inr, ℕ, zero, suc, List, [], ◌∷◌, map, length, Option, None, Some, refl, sym, ap, ◌∙◌, cond}
use Rattle.std.specs.Prelude as std
use Rattle.inc_value.specs.declared.node.NodeId.{NodeId}
use Rattle.inc_value.specs.declared.outcome.Outcome.TheVariants as outcome
use Rattle.inc_value.specs.declared.ty.Ty.{Ty}
use Rattle.inc_value.specs.declared.value.Value.{Value as GraphValue}
use Rattle.inc_value.specs.declared.value.Value.TheVariants as held
use Rattle.inc_value.specs.Choice.{and_then, Among, Every as Each}
use Rattle.inc_terms.specs.Evaluate as engine
use Rattle.inc_terms.specs.Evaluate.{answer, Stands}
use Rattle.inc_terms.specs.Graph as graph
use Rattle.inc_terms.specs.Graph.{Graph, Row, Def, Built as BuiltFor}
use Rattle.inc_terms.specs.Rebuilding.{outcome_of}
use Rattle.inc_terms.specs.Same.{same_outcome}
use Rattle.inc_terms.specs.Term as term
use Rattle.inc_terms.proofs.Same.{outcome_decides}
use Rattle.script_model.specs.Values.{Value, Int, Bool, Text, Reference, Val}
use Rattle.script_model.specs.Formula.{Formula, Body, Entry, State, entry_at, Literal, Name, Bound, Apply, Fold, If, Join, Bind, At, Steps, Now, Freeze, Expert}
use Rattle.script_model.specs.Evaluate.{Values, gathered, each_of, value_at}
use Rattle.script_model.specs.Need.{Edge, Argument, Test, Then, Else, Child, Left, Inside, Item, Named, Place, environment, part_at, formula_at, ItemGives, StillStands, Visit, IsVisit, once, formula_visits, body_visits, visits_at}
use Rattle.script_model.specs.Valid.{IsKnown, BoundsFit, HasType, BodyHasType, Valid, KeepToTypes}
use Rattle.script_model.proofs.TypedCalls.{part_is, left_gives, place_typed, visit_values}
use Rattle.script_model.proofs.TypedValues.{Has, arguments_fit, elements_fit, links_fit, joined_are, value_has}
use Rattle.transfer.specs.Both.{Both, graph_value}
use Rattle.transfer.specs.Holding.{Later}
use Rattle.transfer.specs.Items.{part_node, root_at, node_at, around, scope_at, ApartAt}
use Rattle.transfer.specs.Keeping.{NodesApart}
use Rattle.transfer.specs.Shows.{Built, Binding, plain, Opens, graph_step, Shows, Fits}
use Rattle.transfer.proofs.Carriers.{outer_stands}
use Rattle.transfer.specs.Cycles.{IsForm}
pub use Rattle.transfer.specs.Cycles.{IsOwnValue}
use Rattle.transfer.proofs.Places.{if_true, opened, part_above, then_some, place_shows}
use Rattle.transfer.proofs.Present.{stands_present}
use Rattle.transfer.proofs.Stepping.{row_scope}

-- ---- rows of forms

-- a form that is no variable of a bind
abbrev pub IsOther : Formula → Type 0
IsOther (Name t) = ⊥
IsOther (Bound k) = ⊥
IsOther f = Unit {0}

pub other_form : (f : Formula) → IsOther f → IsForm f
other_form (Name t) h = absurd h
other_form (Bound k) h = absurd h
other_form f h = tt

pub other_free : (f : Formula) → IsOther f → (k : ℕ) → f ≡ Bound k → ⊥
other_free (Bound j) h k e = h
other_free f h k e = cc

-- its node has a row of the scope, of a kind that formulas may have
abbrev pub HasRow : Graph → Option NodeId → NodeId → Type 0
HasRow G S n = (r : Row) × (u : term.Term) × (G.row n ≡ Some r) × (r.scope ≡ S) × (plain r.def ≡ Some u)

has_row : (G : Graph) (S : Option NodeId) (n : NodeId) (u : term.Term) → Opens G (Built S) (term.Ref n) u → HasRow G S n
has_row G S n u op = let o = opened G S n u op in (o.0, u, o.1, o.2, o.3)

pub other_row : (x : Both) (S : Option NodeId) (E : List Binding) (n : NodeId) (f : Formula) → IsOther f
    → Shows x (Built S) E (term.Ref n) f → HasRow x.graph S n
other_row x S E n (Name t) form shows = absurd form
other_row x S E n (Bound k) form shows = absurd form
other_row x S E n (Literal v) form shows = has_row x.graph S n (term.Const (graph_value x.nodes v)) shows
other_row x S E n (Apply g fs) form shows = has_row x.graph S n (term.Map g shows.0) shows.1
other_row x S E n (Fold g v fs) form shows = has_row x.graph S n (term.Fold g (graph_value x.nodes v) shows.0) shows.1
other_row x S E n (If t a b) form shows = has_row x.graph S n (term.If shows.0 shows.1 shows.2) shows.3
other_row x S E n (Join c) form shows = has_row x.graph S n (term.Join shows.0) shows.1
other_row x S E n (Bind l b) form shows = has_row x.graph S n (term.Bind shows.0 shows.1 shows.2) shows.3
other_row x S E n (At t) form shows = has_row x.graph S n (term.At (std.pos t)) shows
other_row x S E n (Steps v ss) form shows =
    has_row x.graph S n (term.Steps (graph_value x.nodes v) (map (graph_step x.nodes) ss)) shows
other_row x S E n Now form shows = has_row x.graph S n term.Now shows

-- what has a part is such a form
pub part_other : (g : Formula) (edge : Edge) (f : Formula) → part_at g edge ≡ Some f → IsOther g
part_other (Name t) edge f e = absurd (cc)
part_other (Bound k) edge f e = absurd (cc)
part_other g edge f e = tt

-- ---- values

pub known_own : (s : State) (below : ℕ) (v : Value) → IsKnown s below v → IsOwnValue s v
known_own s below (Int z) h = tt
known_own s below (Bool b) h = tt
known_own s below (Text bytes) h = tt
known_own s below (Reference t base) h = (h.entry, h.stands, h.own)

pub fit_own : (s : State) (vs : List Value) (tys : List Ty) → BoundsFit s vs tys → Each (IsOwnValue s) vs
fit_own s [] tys h = tt
fit_own s (v ∷ vs) [] h = absurd h
fit_own s (v ∷ vs) (t ∷ tys) h = (known_own s _ v h.0.1, fit_own s vs tys h.1)

-- where own names have nodes of their own, values with the same node are the same
pub same_own : (s : State) (nodes : ℕ → NodeId) → NodesApart s nodes → (u v : Value) → IsOwnValue s u → IsOwnValue s v
    → graph_value nodes u ≡ graph_value nodes v → u ≡ v
same_own s nodes apart (Int a) (Int b) h k e = cc
same_own s nodes apart (Int a) (Bool b) h k e = absurd (cc)
same_own s nodes apart (Int a) (Text b) h k e = absurd (cc)
same_own s nodes apart (Int a) (Reference t b) h k e = absurd (cc)
same_own s nodes apart (Bool a) (Int b) h k e = absurd (cc)
same_own s nodes apart (Bool a) (Bool b) h k e = cc
same_own s nodes apart (Bool a) (Text b) h k e = absurd (cc)
same_own s nodes apart (Bool a) (Reference t b) h k e = absurd (cc)
same_own s nodes apart (Text a) (Int b) h k e = absurd (cc)
same_own s nodes apart (Text a) (Bool b) h k e = absurd (cc)
same_own s nodes apart (Text a) (Text b) h k e = cc
same_own s nodes apart (Text a) (Reference t b) h k e = absurd (cc)
same_own s nodes apart (Reference t a) (Int b) h k e = absurd (cc)
same_own s nodes apart (Reference t a) (Bool b) h k e = absurd (cc)
same_own s nodes apart (Reference t a) (Text b) h k e = absurd (cc)
same_own s nodes apart (Reference t a) (Reference u b) h k e =
    let nodes_are : nodes t ≡ nodes u = cc in
    let bases : a ≡ b = cc in
    let names = apart t u h.0 k.0 h.1 k.1 h.2 k.2 nodes_are in
    rw (names, bases) refl

-- ---- a scope that stands round a place has the place's values given

module _ (x : Both) (keep : KeepToTypes x.meanings) (valid : Valid x.meanings x.state) where
  -- the values round a place that stands are of own names
  pub stands_own : (owner : ℕ) (path : List Edge) (f : Formula) → formula_at x.state owner path ≡ Some f
      → StillStands x.meanings x.state (Place owner path) → Each (IsOwnValue x.state) (environment path)
  stands_own owner path f is stands =
      let place = place_typed x.meanings x.state keep valid owner path f is stands in
      fit_own x.state (environment path) place.bounds place.fit

  -- what a left gives is of an own name
  left_own : (owner : ℕ) (path : List Edge) (left body : Formula) (u : Value)
      → formula_at x.state owner path ≡ Some (Bind left body) → StillStands x.meanings x.state (Place owner path)
      → ItemGives x.meanings x.state (Place owner (Left ∷ path)) (Val u) → IsOwnValue x.state u
  left_own owner path left body u is stands gives =
      let left_is = part_is x.state owner path (Bind left body) Left is in
      let place = place_typed x.meanings x.state keep valid owner (Left ∷ path) left left_is stands in
      let at = left_gives x.meanings x.state owner path left body (Val u) is gives in
      let has = value_has x.meanings x.state keep valid gives.0 owner (environment path) place.bounds left place.ty
      (Val u) place.fit place.typed at in
      known_own x.state _ u has.1

  all_have_own : (t : Ty) (vs : List Value) → Each (λ w. Has x.state w t) vs → Each (IsOwnValue x.state) vs
  all_have_own t [] h = tt
  all_have_own t (v ∷ vs) h = (known_own x.state _ v h.0.1, all_have_own t vs h.1)

  formula_visit_own : (d : ℕ) (i : Item) (n : ℕ) (E : List Value) (bounds : List Ty) (f : Formula) (t : Ty) (v : Visit)
      → BoundsFit x.state E bounds → HasType x.meanings x.state n bounds f t
      → Among v (formula_visits x.state i (value_at x.meanings x.state d E) (Some f)) → Each (IsOwnValue x.state) v.values
  formula_visit_own d i n E bounds (Apply f fs) t v fit h among =
      let all = arguments_fit x.meanings x.state keep valid (value_at x.meanings x.state d)
      (value_has x.meanings x.state keep valid d) n E bounds fit fs f.sig.takes h.1 in
      let fit = visit_values x.state i once (λ vs. BoundsFit x.state vs f.sig.takes)
      (gathered (each_of (value_at x.meanings x.state d E) fs)) v all among in
      fit_own x.state v.values f.sig.takes fit
  formula_visit_own d i n E bounds (Fold f first fs) t v fit h among =
      let all = elements_fit x.meanings x.state keep valid (value_at x.meanings x.state d)
      (value_has x.meanings x.state keep valid d) n E bounds fit fs h.0 h.4 in
      all_have_own h.0 v.values (visit_values x.state i length (Each (λ w. Has x.state w h.0))
      (gathered (each_of (value_at x.meanings x.state d E) fs)) v all among)
  formula_visit_own d i n E bounds f t v fit h among = absurd among

  place_visit_own : (d owner : ℕ) (path : List Edge) (o : Option Formula) (v : Visit) → formula_at x.state owner path ≡ o
      → StillStands x.meanings x.state (Place owner path)
      → Among v (formula_visits x.state (Place owner path) (value_at x.meanings x.state d (environment path)) o)
      → Each (IsOwnValue x.state) v.values
  place_visit_own d owner path None v is stands among = absurd among
  place_visit_own d owner path (Some f) v is stands among =
      let place = place_typed x.meanings x.state keep valid owner path f is stands in
      formula_visit_own d (Place owner path) owner (environment path) place.bounds f place.ty v place.fit place.typed among

  body_visit_own : (d : ℕ) (i : Item) (n : ℕ) (b : Body) (t : Ty) (v : Visit) → BodyHasType x.meanings x.state n b t
      → Among v (body_visits x.meanings x.state d i (Some b)) → Each (IsOwnValue x.state) v.values
  body_visit_own d i n (Freeze child p None) t v h among =
      let one = joined_are (λ vs. BoundsFit x.state vs []) (λ vs. BoundsFit x.state vs (t ∷ []))
      (value_at x.meanings x.state d [] child) (Values [])
      (λ w vs gives all. (value_has x.meanings x.state keep valid d n [] [] child t (Val w) tt h.0 gives, all)) tt in
      fit_own x.state v.values (t ∷ []) (visit_values x.state i once (λ vs. BoundsFit x.state vs (t ∷ []))
      (gathered (value_at x.meanings x.state d [] child ∷ [])) v one among)
  body_visit_own d i n (Expert f first links stale) t v h among =
      let all = links_fit x.meanings x.state keep valid (value_at x.meanings x.state d)
      (value_has x.meanings x.state keep valid d) h.0 links h.4 in
      all_have_own h.0 v.values (visit_values x.state i length (Each (λ w. Has x.state w h.0))
      (gathered (map (λ m. value_at x.meanings x.state d [] (Name m)) links)) v all among)
  body_visit_own d i n b t v h among = absurd among

  entry_visit_own : (d n : ℕ) (o : Option Entry) (v : Visit) → entry_at x.state n ≡ o
      → Among v (body_visits x.meanings x.state d (Named n) (and_then o (λ e. Some e.body)))
      → Each (IsOwnValue x.state) v.values
  entry_visit_own d n None v is among = absurd among
  entry_visit_own d n (Some e) v is among = body_visit_own d (Named n) n e.body e.ty v (valid.entries n e is).typed among

  item_visit_own : (d : ℕ) (i : Item) (v : Visit) → StillStands x.meanings x.state i
      → Among v (visits_at x.meanings x.state d i) → Each (IsOwnValue x.state) v.values
  item_visit_own d (Named n) v stands among = entry_visit_own d n (entry_at x.state n) v refl among
  item_visit_own d (Place owner path) v stands among =
      place_visit_own d owner path (formula_at x.state owner path) v refl stands among

  -- the values of a visit are of own names
  pub visit_own : (v : Visit) → IsVisit x.meanings x.state v → StillStands x.meanings x.state v.item
      → Each (IsOwnValue x.state) v.values
  visit_own v is stands = item_visit_own is.0 v.item v stands is.1

module _ (x : Both) (fits : Fits x) (keep : KeepToTypes x.meanings) (valid : Valid x.meanings x.state)
    (apart : NodesApart x.state x.nodes) where
  inside_apart : (owner : ℕ) (path : List Edge) (v : Value) (f g : Formula) (b : NodeId)
      → formula_at x.state owner path ≡ Some g → part_at g (Inside v) ≡ Some f → node_at x owner path ≡ Some b
      → IsOwnValue x.state v → Stands x.functions x.graph (Some b)
      → (Stands x.functions x.graph (scope_at x owner path) → ApartAt x owner path)
      → ApartAt x owner (Inside v ∷ path)
  inside_apart owner path v f (Bind left body) b is part at own stands outer =
      let row = other_row x (scope_at x owner path) (around x owner path) b (Bind left body) tt
      (place_shows x fits owner path b (Bind left body) is at) in
      let round = rw row.3 at (outer_stands x b row.0 row.2 stands) in
      let others = outer round in
      let still = stands_present x fits owner path (Bind left body) b is at others round in
      ((λ u gives same. same_own x.state x.nodes apart u v (left_own x keep valid owner path left body u is still gives) own same), others)
  inside_apart owner path v f g b is part at own stands outer = absurd (cc)

  part_apart : (edge : Edge) (owner : ℕ) (path : List Edge) (f : Formula) (n : NodeId)
      → formula_at x.state owner (edge ∷ path) ≡ Some f
      → and_then (node_at x owner path) (λ n. and_then (x.graph.row n) (λ r. part_node r.def edge)) ≡ Some n
      → ((g : Formula) (m : NodeId) → formula_at x.state owner path ≡ Some g → node_at x owner path ≡ Some m
      → ApartAt x owner path) → ApartAt x owner path
  part_apart edge owner path f n is at more =
      let above = part_above x.state owner path edge f is in
      let node = then_some (node_at x owner path)
      (λ b. and_then (x.graph.row b) (λ r. part_node r.def edge)) n at in
      more above.0 node.0 above.1 node.1

  pub apart_at : (owner : ℕ) (path : List Edge) (f : Formula) (n : NodeId) → formula_at x.state owner path ≡ Some f
      → node_at x owner path ≡ Some n → Each (IsOwnValue x.state) (environment path)
      → Stands x.functions x.graph (scope_at x owner path) → ApartAt x owner path
  apart_at owner [] f n is at own stands = tt
  apart_at owner (Inside v ∷ path) f n is at own stands =
      let above = part_above x.state owner path (Inside v) f is in
      let node = then_some (node_at x owner path) (λ b. and_then (x.graph.built b) (root_at x.nodes v)) n at in
      inside_apart owner path v f above.0 node.0 above.1 above.2 node.1 own.0 (rw node.1 at stands)
      (λ outer. apart_at owner path above.0 node.0 above.1 node.1 own.1 outer)
  apart_at owner (Argument k ∷ path) f n is at own stands =
      part_apart (Argument k) owner path f n is at (λ g m g_is m_at. apart_at owner path g m g_is m_at own stands)
  apart_at owner (Test ∷ path) f n is at own stands =
      part_apart Test owner path f n is at (λ g m g_is m_at. apart_at owner path g m g_is m_at own stands)
  apart_at owner (Then ∷ path) f n is at own stands =
      part_apart Then owner path f n is at (λ g m g_is m_at. apart_at owner path g m g_is m_at own stands)
  apart_at owner (Else ∷ path) f n is at own stands =
      part_apart Else owner path f n is at (λ g m g_is m_at. apart_at owner path g m g_is m_at own stands)
  apart_at owner (Child ∷ path) f n is at own stands =
      part_apart Child owner path f n is at (λ g m g_is m_at. apart_at owner path g m g_is m_at own stands)
  apart_at owner (Left ∷ path) f n is at own stands =
      part_apart Left owner path f n is at (λ g m g_is m_at. apart_at owner path g m g_is m_at own stands)

  -- so a place whose own scope stands stands
  pub node_stands : (owner : ℕ) (path : List Edge) (f : Formula) (n : NodeId) → formula_at x.state owner path ≡ Some f
      → node_at x owner path ≡ Some n → Each (IsOwnValue x.state) (environment path)
      → Stands x.functions x.graph (scope_at x owner path) → StillStands x.meanings x.state (Place owner path)
  node_stands owner path f n is at own stands =
      stands_present x fits owner path f n is at (apart_at owner path f n is at own stands) stands

-- ---- from one pair to a later one

pub outcome_built : (a : Option BuiltFor) (w : BuiltFor) → outcome_of a ≡ Some w.outcome
    → (w' : BuiltFor) × (a ≡ Some w') × (w'.outcome ≡ w.outcome)
outcome_built None w e = absurd (cc)
outcome_built (Some w') w e = (w', refl, (cc))

module _ (x then : Both) (fits : Fits x) (later : Later x then) where
  -- a node that names parts is of a kind that stays
  has_parts : (def : Def) (edge : Edge) (m : NodeId) → part_node def edge ≡ Some m → (u : term.Term) × (plain def ≡ Some u)
  has_parts (graph.Map g kids) edge m e = (_, refl)
  has_parts (graph.Fold g v kids) edge m e = (_, refl)
  has_parts (graph.If t a b) edge m e = (_, refl)
  has_parts (graph.Join k) edge m e = (_, refl)
  has_parts (graph.Bind l h caps) edge m e = (_, refl)
  has_parts def edge m e = absurd (cc)

  -- the scope stands then, and its bind is built for the outcome that it was
  abbrev pub IsOn : Option NodeId → Type 0
  IsOn None = Unit {0}
  IsOn (Some b) = (outcome_of (then.graph.built b) ≡ outcome_of (x.graph.built b))
      × Stands then.functions then.graph (Some b)

  pub standing_row : (b : NodeId) → Stands then.functions then.graph (Some b) → (q : Row) × (then.graph.row b ≡ Some q)
  unfolding answer
  standing_row b (zero, e) = absurd (cc)
  standing_row b (suc d, e) = go (then.graph.row b) refl e
    where
      go : (q : Option Row) → then.graph.row b ≡ q
          → engine.bind_holds (answer then.functions then.graph d) (then.graph.built b) q ≡ Some (outcome.Val (held.Bool std.true))
          → (q : Row) × (then.graph.row b ≡ Some q)
      go None is e = absurd (cc)
      go (Some q) is e = (q, is)

  pub row_stays : (n : NodeId) (r : Row) (u : term.Term) (S : Option NodeId) → x.graph.row n ≡ Some r
      → plain r.def ≡ Some u → r.scope ≡ S → IsOn S → then.graph.row n ≡ Some r
  row_stays n r u None row def scope on = later.scopes.tops n r u row def scope
  row_stays n r u (Some b) row def scope on =
      let q = standing_row b on.1 in later.scopes.within n b r q.0 u row def scope q.1 on.0

  pub same_row : (n : NodeId) (r q : Row) (u : term.Term) → x.graph.row n ≡ Some r → plain r.def ≡ Some u
      → then.graph.row n ≡ Some q → q ≡ r
  same_row n r q u row def live = elim (later.scopes.rows n r u row def) [
    | inl same ↦ (cc)
    | inr dead ↦ absurd (cc)
  ]

  -- where a node lives and stands, its scope is so
  pub scope_on : (n : NodeId) (r q : Row) (u : term.Term) → x.graph.row n ≡ Some r → plain r.def ≡ Some u
      → then.graph.row n ≡ Some q → Stands then.functions then.graph q.scope → IsOn r.scope
  scope_on n r q u row def live stands =
      let same = same_row n r q u row def live in go r.scope refl (rw same at stands)
    where
      go : (S : Option NodeId) → r.scope ≡ S → Stands then.functions then.graph S → IsOn S
      go None e s = tt
      go (Some b) e s = (later.scopes.scopes n b r q u row def e live, s)

  -- the values have the nodes that they had
  abbrev pub IsAlike : Value → Type 0
  IsAlike v = graph_value then.nodes v ≡ graph_value x.nodes v

  pub own_alike : (v : Value) → IsOwnValue x.state v → IsAlike v
  own_alike (Int z) h = refl
  own_alike (Bool b) h = refl
  own_alike (Text bytes) h = refl
  own_alike (Reference t base) h = elim (later.names t) [
    | inl same ↦ rw same refl
    | inr gone ↦ absurd (let none = gone.0 in let some = h.1 in cc)
  ]

  pub all_alike : (vs : List Value) → Each (IsOwnValue x.state) vs → Each IsAlike vs
  all_alike [] h = tt
  all_alike (v ∷ vs) h = (own_alike v h.0, all_alike vs h.1)

  own_then : (v : Value) → IsOwnValue x.state v → IsOwnValue then.state v
  own_then (Int z) h = tt
  own_then (Bool b) h = tt
  own_then (Text bytes) h = tt
  own_then (Reference t base) h = let d = later.targets t h.0 h.1 in (d.0, d.1, d.2 ∙ h.2)

  pub all_own_then : (vs : List Value) → Each (IsOwnValue x.state) vs → Each (IsOwnValue then.state) vs
  all_own_then [] h = tt
  all_own_then (v ∷ vs) h = (own_then v h.0, all_own_then vs h.1)

  root_alike : (v : Value) (w : BuiltFor) (n : NodeId) → IsAlike v → root_at x.nodes v w ≡ Some n
      → root_at then.nodes v w ≡ Some n
  root_alike v w n same e =
      ap (λ (g : GraphValue). cond (same_outcome w.outcome (outcome.Val g)) w.root None) same ∙ e

  inside_stays : (owner : ℕ) (path : List Edge) (v : Value) (f g : Formula) (b n : NodeId)
      → formula_at x.state owner path ≡ Some g → part_at g (Inside v) ≡ Some f → node_at x owner path ≡ Some b
      → and_then (x.graph.built b) (root_at x.nodes v) ≡ Some n → IsAlike v → IsOn (Some b)
      → (IsOn (scope_at x owner path) → node_at then owner path ≡ Some b)
      → and_then (node_at then owner path) (λ b. and_then (then.graph.built b) (root_at then.nodes v)) ≡ Some n
  inside_stays owner path v f (Bind left body) b n is part at root alike on outer =
      let row = other_row x (scope_at x owner path) (around x owner path) b (Bind left body) tt
      (place_shows x fits owner path b (Bind left body) is at) in
      let q = standing_row b on.1 in
      let round = outer_stands then b q.0 q.1 on.1 in
      let scope = rw row.3 at (scope_on b row.0 q.0 row.1 row.2 row.4 q.1 round) in
      let w = then_some (x.graph.built b) (root_at x.nodes v) n root in
      let w' = outcome_built (then.graph.built b) w.0 (on.0 ∙ ap outcome_of w.1) in
      let same = later.scopes.roots b row.0 q.0 w.0 w'.0 row.2 q.1 w.1 w'.1 w'.2 in
      rw (outer scope, w'.1, same) (root_alike v w.0 n alike w.2)
  inside_stays owner path v f g b n is part at root alike on outer = absurd (cc)

  part_stays : (edge : Edge) (owner : ℕ) (path : List Edge) (f : Formula) (n : NodeId)
      → formula_at x.state owner (edge ∷ path) ≡ Some f
      → and_then (node_at x owner path) (λ n. and_then (x.graph.row n) (λ r. part_node r.def edge)) ≡ Some n
      → IsOn (scope_at x owner path)
      → ((g : Formula) (m : NodeId) → formula_at x.state owner path ≡ Some g → node_at x owner path ≡ Some m
      → node_at then owner path ≡ Some m)
      → and_then (node_at then owner path) (λ n. and_then (then.graph.row n) (λ r. part_node r.def edge)) ≡ Some n
  part_stays edge owner path f n is at on outer =
      let above = part_above x.state owner path edge f is in
      let node = then_some (node_at x owner path)
      (λ b. and_then (x.graph.row b) (λ r. part_node r.def edge)) n at in
      let row = then_some (x.graph.row node.0) (λ r. part_node r.def edge) n node.2 in
      let kind = has_parts row.0.def edge n row.2 in
      let form = part_other above.0 edge f above.2 in
      let scope = row_scope x (scope_at x owner path) (around x owner path) node.0 above.0 row.0 (other_form above.0 form)
      (other_free above.0 form) row.1 (place_shows x fits owner path node.0 above.0 above.1 node.1) in
      let stays = row_stays node.0 row.0 kind.0 (scope_at x owner path) row.1 kind.1 scope on in
      rw (outer above.0 node.0 above.1 node.1, stays) row.2

  -- a place whose scope is so has the node that it had
  pub place_stays : (owner : ℕ) (path : List Edge) (f : Formula) (n : NodeId) → formula_at x.state owner path ≡ Some f
      → node_at x owner path ≡ Some n → Each IsAlike (environment path) → IsOn (scope_at x owner path)
      → node_at then owner path ≡ Some n
  place_stays owner [] f n is at alike on = later.wholes owner n at
  place_stays owner (Inside v ∷ path) f n is at alike on =
      let above = part_above x.state owner path (Inside v) f is in
      let node = then_some (node_at x owner path) (λ b. and_then (x.graph.built b) (root_at x.nodes v)) n at in
      inside_stays owner path v f above.0 node.0 n above.1 above.2 node.1 node.2 alike.0 (rw node.1 at on)
      (λ outer. place_stays owner path above.0 node.0 above.1 node.1 alike.1 outer)
  place_stays owner (Argument k ∷ path) f n is at alike on =
      part_stays (Argument k) owner path f n is at on (λ g m g_is m_at. place_stays owner path g m g_is m_at alike on)
  place_stays owner (Test ∷ path) f n is at alike on =
      part_stays Test owner path f n is at on (λ g m g_is m_at. place_stays owner path g m g_is m_at alike on)
  place_stays owner (Then ∷ path) f n is at alike on =
      part_stays Then owner path f n is at on (λ g m g_is m_at. place_stays owner path g m g_is m_at alike on)
  place_stays owner (Else ∷ path) f n is at alike on =
      part_stays Else owner path f n is at on (λ g m g_is m_at. place_stays owner path g m g_is m_at alike on)
  place_stays owner (Child ∷ path) f n is at alike on =
      part_stays Child owner path f n is at on (λ g m g_is m_at. place_stays owner path g m g_is m_at alike on)
  place_stays owner (Left ∷ path) f n is at alike on =
      part_stays Left owner path f n is at on (λ g m g_is m_at. place_stays owner path g m g_is m_at alike on)

  -- ---- a place has one node in both pairs

  module _ (fits_then : Fits then) where
    inside_one : (owner : ℕ) (path : List Edge) (v : Value) (f g : Formula) (b c m n : NodeId)
        → formula_at x.state owner path ≡ Some g → part_at g (Inside v) ≡ Some f → node_at x owner path ≡ Some b
        → node_at then owner path ≡ Some c → b ≡ c → and_then (x.graph.built b) (root_at x.nodes v) ≡ Some m
        → and_then (then.graph.built c) (root_at then.nodes v) ≡ Some n → IsAlike v → m ≡ n
    inside_one owner path v f (Bind left body) b c m n is part at at' same root root' alike =
        let row = other_row x (scope_at x owner path) (around x owner path) b (Bind left body) tt
        (place_shows x fits owner path b (Bind left body) is at) in
        let row' = other_row then (scope_at then owner path) (around then owner path) c (Bind left body) tt
        (place_shows then fits_then owner path c (Bind left body) (later.formulas owner path (Bind left body) is) at') in
        let w = then_some (x.graph.built b) (root_at x.nodes v) m root in
        let w' = then_some (then.graph.built c) (root_at then.nodes v) n root' in
        let t = if_true (same_outcome w.0.outcome (outcome.Val (graph_value x.nodes v))) w.0.root m w.2 in
        let t' = if_true (same_outcome w'.0.outcome (outcome.Val (graph_value then.nodes v))) w'.0.root n w'.2 in
        let o = (outcome_decides w.0.outcome (outcome.Val (graph_value x.nodes v))).0 t.0 in
        let o' = (outcome_decides w'.0.outcome (outcome.Val (graph_value then.nodes v))).0 t'.0 in
        let outcomes : w'.0.outcome ≡ w.0.outcome = o' ∙ ap (λ (g : GraphValue). outcome.Val g) alike ∙ sym o in
        let are = later.scopes.roots b row.0 row'.0 w.0 w'.0 row.2 (rw same row'.2) w.1 (rw same w'.1) outcomes in
        let roots : w'.0.root ≡ w.0.root = ap (λ (w : BuiltFor). w.root) are in
        let some : Some m ≡ Some n = sym t.1 ∙ sym roots ∙ t'.1 in cc
    inside_one owner path v f g b c m n is part at at' same root root' alike = absurd (cc)

    part_one : (edge : Edge) (owner : ℕ) (path : List Edge) (f : Formula) (m n : NodeId)
        → formula_at x.state owner (edge ∷ path) ≡ Some f
        → and_then (node_at x owner path) (λ n. and_then (x.graph.row n) (λ r. part_node r.def edge)) ≡ Some m
        → and_then (node_at then owner path) (λ n. and_then (then.graph.row n) (λ r. part_node r.def edge)) ≡ Some n
        → ((g : Formula) (b c : NodeId) → formula_at x.state owner path ≡ Some g → node_at x owner path ≡ Some b
        → node_at then owner path ≡ Some c → b ≡ c) → m ≡ n
    part_one edge owner path f m n is at at' outer =
        let above = part_above x.state owner path edge f is in
        let node = then_some (node_at x owner path)
        (λ b. and_then (x.graph.row b) (λ r. part_node r.def edge)) m at in
        let node' = then_some (node_at then owner path)
        (λ b. and_then (then.graph.row b) (λ r. part_node r.def edge)) n at' in
        let row = then_some (x.graph.row node.0) (λ r. part_node r.def edge) m node.2 in
        let row' = then_some (then.graph.row node'.0) (λ r. part_node r.def edge) n node'.2 in
        let kind = has_parts row.0.def edge m row.2 in
        let same = outer above.0 node.0 node'.0 above.1 node.1 node'.1 in
        let rows = same_row node.0 row.0 row'.0 kind.0 row.1 kind.1 (rw same row'.1) in
        let parts : part_node row'.0.def edge ≡ part_node row.0.def edge = ap (λ (r : Row). part_node r.def edge) rows in
        let some : Some m ≡ Some n = sym row.2 ∙ sym parts ∙ row'.2 in cc

    pub place_one : (owner : ℕ) (path : List Edge) (f : Formula) (m n : NodeId) → formula_at x.state owner path ≡ Some f
        → node_at x owner path ≡ Some m → node_at then owner path ≡ Some n → Each IsAlike (environment path) → m ≡ n
    place_one owner [] f m n is at at' alike =
        let there = later.wholes owner m at in let some : Some m ≡ Some n = sym there ∙ at' in cc
    place_one owner (Inside v ∷ path) f m n is at at' alike =
        let above = part_above x.state owner path (Inside v) f is in
        let node = then_some (node_at x owner path) (λ b. and_then (x.graph.built b) (root_at x.nodes v)) m at in
        let node' = then_some (node_at then owner path)
        (λ b. and_then (then.graph.built b) (root_at then.nodes v)) n at' in
        inside_one owner path v f above.0 node.0 node'.0 m n above.1 above.2 node.1 node'.1
        (place_one owner path above.0 node.0 node'.0 above.1 node.1 node'.1 alike.1) node.2 node'.2 alike.0
    place_one owner (Argument k ∷ path) f m n is at at' alike =
        part_one (Argument k) owner path f m n is at at'
        (λ g b c g_is b_at c_at. place_one owner path g b c g_is b_at c_at alike)
    place_one owner (Test ∷ path) f m n is at at' alike =
        part_one Test owner path f m n is at at' (λ g b c g_is b_at c_at. place_one owner path g b c g_is b_at c_at alike)
    place_one owner (Then ∷ path) f m n is at at' alike =
        part_one Then owner path f m n is at at' (λ g b c g_is b_at c_at. place_one owner path g b c g_is b_at c_at alike)
    place_one owner (Else ∷ path) f m n is at at' alike =
        part_one Else owner path f m n is at at' (λ g b c g_is b_at c_at. place_one owner path g b c g_is b_at c_at alike)
    place_one owner (Child ∷ path) f m n is at at' alike =
        part_one Child owner path f m n is at at' (λ g b c g_is b_at c_at. place_one owner path g b c g_is b_at c_at alike)
    place_one owner (Left ∷ path) f m n is at at' alike =
        part_one Left owner path f m n is at at' (λ g b c g_is b_at c_at. place_one owner path g b c g_is b_at c_at alike)
