-- How many functions a refused stabilize calls.
use Rattle.std.proofs.Common.{◌≡◌, ◌⊎◌, inl, inr, ℕ, pos, ◌+◌, ◌≤◌, true, List, [], ◌∷◌, map, length, Option, None, Some, refl, ap, sym, subst, ◌∙◌, arith}
use Rattle.std.specs.List.{sum_by}
use Rattle.std.proofs.lemmas.List.{length-map}
use Rattle.std.proofs.lemmas.List.Sums.{sum_by-cons}
use Rattle.inc_value.specs.Choice.{Among, NoRepeats, and_then}
use Rattle.inc_value.specs.declared.function.FnRef.{FnRef}
use Rattle.inc_value.specs.declared.node.NodeId.{NodeId}
use Rattle.inc_value.specs.declared.node.Point.{Point}
use Rattle.inc_value.specs.declared.outcome.Outcome.TheVariants as outcome
use Rattle.inc_value.specs.declared.node.Part.TheVariants.{Change as ChangePart, Main as MainPart}
use Rattle.inc_value.specs.declared.node.Point.{Point}
use Rattle.inc_value.specs.declared.value.Value.{Value as GraphValue}
use Rattle.inc_terms.specs.Depend.{main}
use Rattle.inc_terms.specs.Graph as graph
use Rattle.inc_terms.specs.Graph.{Graph, Row, Def, Built as BuiltFor}
use Rattle.inc_terms.specs.Same.{same_outcome}
use Rattle.inc_terms.specs.Term as term
use Rattle.inc_terms.specs.Term.{Term, Terms, refs}
use Rattle.inc_terms.specs.Work.{taken_by}
use Rattle.node_outcomes.specs.Computing.{IsCallerAt}
use Rattle.script_model.specs.Formula.{State, Body, Formula, Formulas, body_at, formula_of_body, Literal, Name, Bound, Apply, Fold, If, Join, Bind, At, Steps, Now, End, More, Variable, Computed, Freeze, After, Every, Expert, Grab}
use Rattle.script_model.specs.Laws.{bare}
use Rattle.script_model.specs.Need.{Edge, Inside, Item, part_of, formula_at}
use Rattle.script_model.specs.Run.{count_in, most_calls}
use Rattle.script_model.specs.Values.{Value}
use Rattle.formula_elab.specs.Today.{IsLaidOut}
use Rattle.script_graph.specs.Today.{AllPlain}
use Rattle.script_graph.proofs.Plain.{binds_round, plain_place}
use Rattle.script_graph.proofs.Spots.{Spot, spots, spots_in, most_costs, body_among, place_among}
use Rattle.stabilize_round.specs.Calling.{cost_at, costs_of}
use Rattle.stabilize_round.specs.Counts.{RoseAtMost}
use Rattle.transfer.specs.Both.{Both, graph_value}
use Rattle.transfer.specs.Cycles.{IsForm}
use Rattle.transfer.specs.Items.{part_node, root_at, around, node_at, scope_at, Closed, CoveredBy, by_main, by_choice, by_left, by_variable}
use Rattle.transfer.specs.Shows.{Binding, Built, Spelled, Declares, Fits, Mode, Opens, Shows, ShowsAll, IsTop, plain}
use Rattle.transfer.proofs.Agreement.{grab_facts}
use Rattle.transfer.proofs.Carriers.{IsForm-body, Carrier, at_name, at_place, at_grab, carrier}
use Rattle.transfer.proofs.Places.{opened, place_shows, then_some, if_true}

-- ---- lists

module _ {A : Type 0} (amount : A → ℕ) where
  -- a list without one of its elements
  without : (x : A) (ys : List A) → Among x ys → List A
  without x [] among = []
  without x (y ∷ ys) (inl e) = ys
  without x (y ∷ ys) (inr among) = y ∷ without x ys among

  without_amount : (x : A) (ys : List A) (among : Among x ys) → amount x + sum_by amount (without x ys among) ≡ sum_by amount ys
  unfolding without
  without_amount x [] among = absurd among
  without_amount x (y ∷ ys) (inl e) = let all = sum_by-cons amount y ys in let same = ap amount e in omega (arith, all, same)
  without_amount x (y ∷ ys) (inr among) =
      let all = sum_by-cons amount y ys in
      let less = sum_by-cons amount y (without x ys among) in
      let rest = without_amount x ys among in
      omega (arith, all, less, rest)

  without_has : (x : A) (ys : List A) (among : Among x ys) (z : A) → Among z ys → (z ≡ x → ⊥) → Among z (without x ys among)
  unfolding without
  without_has x [] among z is other = absurd among
  without_has x (y ∷ ys) (inl e) z (inl same) other = absurd (other (same ∙ sym e))
  without_has x (y ∷ ys) (inl e) z (inr is) other = is
  without_has x (y ∷ ys) (inr among) z (inl same) other = inl same
  without_has x (y ∷ ys) (inr among) z (inr is) other = inr (without_has x ys among z is other)

-- a list without repeats, each of whose elements has its own element in another that is as much, has no more
module _ {A B : Type 0} (cost : A → ℕ) (amount : B → ℕ) (Has : B → A → Type 0) (one : (y : B) (a b : A) → Has y a → Has y b → a ≡ b) where
  no_more : (xs : List A) (ys : List B) → NoRepeats xs → ((a : A) → Among a xs → (y : B) × Among y ys × Has y a × (cost a ≡ amount y))
      → sum_by cost xs ≤ sum_by amount ys
  no_more [] ys apart within = omega arith
  no_more (a ∷ xs) ys apart within =
      let here = within a (inl refl) in
      let rest = no_more xs (without amount here.0 ys here.1) apart.1 (λ b among.
      let there = within b (inr among) in (
        there.0,
        without_has amount here.0 ys here.1 there.0 there.1
            (λ same. apart.0 (subst (λ (c : A). Among c xs) (one here.0 b a (subst (λ (y : B). Has y b) same there.2) here.2) among)),
        there.2,
        there.3,
      )) in
      let all = sum_by-cons cost a xs in
      let size = without_amount amount here.0 ys here.1 in
      let same = here.3 in
      omega (arith, rest, all, size, same)

-- ---- what calls a function

-- a node that takes its children's values is a map or a fold, where it reads plainly
taken_plain : (G : Graph) (n : NodeId) (def : Def) (kids : List NodeId) (u : Term) → taken_by G n def ≡ Some kids → plain def ≡ Some u
    → ((f : FnRef) × (def ≡ graph.Map f kids) × (u ≡ term.Map f (refs kids)))
    ⊎ ((f : FnRef) × (v : GraphValue) × (def ≡ graph.Fold f v kids) × (u ≡ term.Fold f v (refs kids)))
taken_plain G n (graph.Map f ks) kids u takes reads = inl (f, (cc), (cc))
taken_plain G n (graph.Fold f v ks) kids u takes reads = inr (f, v, (cc), (cc))
taken_plain G n def kids u takes reads = absurd (cc)

-- as many nodes show formulas as there are
shows_count : (x : Both) (m : Mode) (E : List Binding) (kids : List NodeId) (fs : Formulas) → ShowsAll x m E (refs kids) fs → length kids ≡ count_in fs
shows_count x m E [] End shows = refl
shows_count x m E [] (More f rest) shows = absurd shows
shows_count x m E (n ∷ ns) End shows = absurd shows
shows_count x m E (n ∷ ns) (More f rest) shows = let others = shows_count x m E ns rest shows.1 in omega (arith, others)

-- ---- one place has one node

-- the node that a node leads to at an edge
abbrev step_of : Both → NodeId → Edge → Option NodeId
step_of x n (Inside v) = and_then (x.graph.built n) (root_at x.nodes v)
step_of x n edge = and_then (x.graph.row n) (λ (r : Row). part_node r.def edge)

root_same : (nodes : ℕ → NodeId) (v w : Value) (b : BuiltFor) (m n : NodeId) → root_at nodes v b ≡ Some m → root_at nodes w b ≡ Some n → m ≡ n
root_same nodes v w b m n e f =
    let first = if_true (same_outcome b.outcome (outcome.Val (graph_value nodes v))) b.root m e in
    let second = if_true (same_outcome b.outcome (outcome.Val (graph_value nodes w))) b.root n f in
    let both : Some m ≡ Some n = sym first.1 ∙ second.1 in cc

step_same : (x : Both) (k : NodeId) (d e : Edge) (m n : NodeId) → bare d ≡ bare e → step_of x k d ≡ Some m → step_of x k e ≡ Some n → m ≡ n
step_same x k (Inside v) (Inside w) m n same f g =
    let first = then_some (x.graph.built k) (root_at x.nodes v) m f in
    let second = then_some (x.graph.built k) (root_at x.nodes w) n g in
    let one : first.0 ≡ second.0 = (let b : Some first.0 ≡ Some second.0 = sym first.1 ∙ second.1 in cc) in
    root_same x.nodes v w second.0 m n (subst (λ (b : BuiltFor). root_at x.nodes v b ≡ Some m) one first.2) second.2
step_same x k (Inside v) e m n same f g = absurd (cc)
step_same x k d (Inside w) m n same f g = absurd (cc)
step_same x k d e m n same f g =
    let to = ap (λ (z : Edge). and_then (x.graph.row k) (λ (r : Row). part_node r.def z)) same in
    let both : Some m ≡ Some n = sym f ∙ (to ∙ g) in cc

node_step : (x : Both) (owner : ℕ) (edge : Edge) (path : List Edge) → node_at x owner (edge ∷ path) ≡ and_then (node_at x owner path) (λ n. step_of x n edge)
node_step x owner (Inside v) path = refl
node_step x owner edge path = refl

-- places that differ in values alone have one node
one_node : (x : Both) (owner : ℕ) (p q : List Edge) (m n : NodeId) → map bare p ≡ map bare q → node_at x owner p ≡ Some m → node_at x owner q ≡ Some n → m ≡ n
one_node x owner [] [] m n same f g = let both : Some m ≡ Some n = sym f ∙ g in cc
one_node x owner [] (e ∷ q) m n same f g = absurd (cc)
one_node x owner (d ∷ p) [] m n same f g = absurd (cc)
one_node x owner (d ∷ p) (e ∷ q) m n same f g =
    let first = then_some (node_at x owner p) (λ k. step_of x k d) m (sym (node_step x owner d p) ∙ f) in
    let second = then_some (node_at x owner q) (λ k. step_of x k e) n (sym (node_step x owner e q) ∙ g) in
    let edges : bare d ≡ bare e = cc in
    let paths : map bare p ≡ map bare q = cc in
    let one = one_node x owner p q first.0 second.0 paths first.1 second.1 in
    step_same x second.0 d e m n edges (subst (λ (k : NodeId). step_of x k d ≡ Some m) one first.2) second.2

-- ---- the place of a node that calls a function

-- the name has the node, or the place has it for some values
abbrev IsNodeOf : Both → ℕ → Option (List Edge) → NodeId → Type 0
IsNodeOf x owner None n = x.nodes owner ≡ n
IsNodeOf x owner (Some of) n = (path : List Edge) × (map bare path ≡ of) × (node_at x owner path ≡ Some n)

abbrev HasNode : Both → Spot → NodeId → Type 0
HasNode x y n = IsNodeOf x y.owner y.path n

one_node_of : (x : Both) (owner : ℕ) (of : Option (List Edge)) (m n : NodeId) → IsNodeOf x owner of m → IsNodeOf x owner of n → m ≡ n
one_node_of x owner None m n f g = sym f ∙ g
one_node_of x owner (Some of) m n f g = one_node x owner f.0 g.0 m n (f.1 ∙ sym g.1) f.2 g.2

one_of_spot : (x : Both) (y : Spot) (m n : NodeId) → HasNode x y m → HasNode x y n → m ≡ n
one_of_spot x y m n f g = one_node_of x y.owner y.path m n f g

module _ (x : Both) (fits : Fits x) (plain_state : AllPlain x.state) where
  abbrev s : State
  s = x.state

  abbrev G : Graph
  G = x.graph

  abbrev HasSpot : NodeId → Type 0
  HasSpot n = (y : Spot) × Among y (spots s) × HasNode x y n × (cost_at G n ≡ y.cost)

  module _ (n : NodeId) (r : Row) (kids : List NodeId) (row : G.row n ≡ Some r) (takes : taken_by G n r.def ≡ Some kids) where
    reads_so : (S : Option NodeId) (u : Term) → Opens G (Built S) (term.Ref n) u
        → ((f : FnRef) × (r.def ≡ graph.Map f kids) × (u ≡ term.Map f (refs kids)))
        ⊎ ((f : FnRef) × (v : GraphValue) × (r.def ≡ graph.Fold f v kids) × (u ≡ term.Fold f v (refs kids)))
    reads_so S u opens =
        let o = opened G S n u opens in
        let same : o.0 ≡ r = (let e : Some o.0 ≡ Some r = sym o.1 ∙ row in cc) in
        taken_plain G n r.def kids u takes (ap (λ (q : Row). plain q.def) (sym same) ∙ o.3)

    -- a node that reads so calls nothing
    reads_none : (S : Option NodeId) (u : Term) → Opens G (Built S) (term.Ref n) u → ((f : FnRef) (ts : Terms) → u ≡ term.Map f ts → ⊥)
        → ((f : FnRef) (v : GraphValue) (ts : Terms) → u ≡ term.Fold f v ts → ⊥) → ⊥
    reads_none S u opens no_map no_fold = elim (reads_so S u opens) [
      | inl m ↦ no_map m.0 (refs kids) m.2
      | inr m ↦ no_fold m.0 m.1 (refs kids) m.3
    ]

    const_none : (m : Mode) (w : GraphValue) → Opens G m (term.Ref n) (term.Const w) → ⊥
    const_none Spelled w opens = cc
    const_none (Built S) w opens = reads_none S (term.Const w) opens (λ f ts e. cc) (λ f v ts e. cc)

    -- the node of a formula that is no bare name is that of a place which calls as often
    formula_spot : (owner : ℕ) (path : List Edge) (S : Option NodeId) (E : List Binding) (f : Formula) → IsLaidOut (binds_round path) f → IsForm f
        → Shows x (Built S) E (term.Ref n) f
        → (y : Spot) × Among y (spots_in owner (map bare path) f) × (y.owner ≡ owner) × (y.path ≡ Some (map bare path)) × (cost_at G n ≡ y.cost)
    formula_spot owner path S E (Apply g arguments) fine own h = elim (reads_so S (term.Map g h.0) h.1) [
      | inl m ↦ (record { owner = owner; path = Some (map bare path); cost = 1 }, inl refl, refl, refl, rw (row, m.1) refl)
      | inr m ↦ let e = m.3 in absurd (cc)
    ]
    formula_spot owner path S E (Fold g first elements) fine own h = elim (reads_so S (term.Fold g (graph_value x.nodes first) h.0) h.1) [
      | inl m ↦ let e = m.2 in absurd (cc)
      | inr m ↦
          let same : h.0 ≡ refs kids = (let e = m.3 in cc) in
          let count = shows_count x (Built S) E kids elements (subst (λ (ts : Terms). ShowsAll x (Built S) E ts elements) same h.2) in
          (record { owner = owner; path = Some (map bare path); cost = count_in elements }, inl refl, refl, refl, rw (row, m.2) count)
    ]
    formula_spot owner path S E (Literal v) fine own h = absurd (const_none (Built S) _ h)
    formula_spot owner path S E (Bound k) fine own h = absurd (const_none h.0.mode _ h.2)
    formula_spot owner path S E (If test a b) fine own h = absurd (reads_none S (term.If h.0 h.1 h.2) h.3 (λ f ts e. cc) (λ f v ts e. cc))
    formula_spot owner path S E (Join child) fine own h = absurd (reads_none S (term.Join h.0) h.1 (λ f ts e. cc) (λ f v ts e. cc))
    formula_spot owner path S E (Bind left body) fine own h = absurd (reads_none S (term.Bind h.0 h.1 h.2) h.3 (λ f ts e. cc) (λ f v ts e. cc))
    formula_spot owner path S E (Name t) fine own h = absurd own
    formula_spot owner path S E (At time) fine own h = absurd (reads_none S (term.At (pos time)) h (λ f ts e. cc) (λ f v ts e. cc))
    formula_spot owner path S E (Steps v steps) fine own h = absurd (reads_none S _ h (λ f ts e. cc) (λ f v ts e. cc))
    formula_spot owner path S E Now fine own h = absurd (reads_none S term.Now h (λ f ts e. cc) (λ f v ts e. cc))

    place_spot : (owner : ℕ) (path : List Edge) (f : Formula) → formula_at s owner path ≡ Some f → IsForm f → node_at x owner path ≡ Some n → HasSpot n
    place_spot owner path f is own at =
        let y = formula_spot owner path (scope_at x owner path) (around x owner path) f
        (plain_place s plain_state owner path f is).0 own (place_shows x fits owner path n f is at) in (
          y.0,
          place_among s plain_state y.0 owner path f is y.1,
          subst (λ (of : Option (List Edge)). IsNodeOf x y.0.owner of n) (sym y.3) (path, refl, ap (λ (o : ℕ). node_at x o path) y.2 ∙ at),
          y.4,
        )

    top_none : (def : Def) → IsTop G n def → taken_by G n def ≡ None → ⊥
    top_none def top none =
        let same : top.0 ≡ r = (let e : Some top.0 ≡ Some r = sym top.1 ∙ row in cc) in
        let defs : r.def ≡ def = ap (λ (q : Row). q.def) (sym same) ∙ top.3 in
        let clash : Some kids ≡ None = sym takes ∙ (ap (taken_by G n) defs ∙ none) in cc

    -- a row that is of a node outside all scopes
    top_def : (def : Def) → IsTop G n def → r.def ≡ def
    top_def def top =
        let same : top.0 ≡ r = (let e : Some top.0 ≡ Some r = sym top.1 ∙ row in cc) in
        ap (λ (q : Row). q.def) (sym same) ∙ top.3

    -- a freeze that keeps no value calls its predicate once
    freeze_cost : (kid : NodeId) (f : FnRef) → r.def ≡ graph.Freeze kid f → cost_at G n ≡ 1
    freeze_cost kid f def = by_frozen (G.frozen n) refl
      where
        by_frozen : (v : Option GraphValue) → G.frozen n ≡ v → cost_at G n ≡ 1
        by_frozen None frozen = rw (row, def, frozen) refl
        by_frozen (Some v) frozen = absurd (let none : None ≡ Some kids = rw (def, frozen) at takes in cc)

    -- an expert calls its function for each node that it lists
    expert_cost : (f : FnRef) (v : GraphValue) (ns : List NodeId) (links : List ℕ) → r.def ≡ graph.Expert f v ns → G.lists n ≡ map x.nodes links
        → cost_at G n ≡ length links
    expert_cost f v ns links def lists = rw (row, def, lists) (length-map links x.nodes)

    name_spot : (k : ℕ) (b : Body) → body_at s k ≡ Some b → IsForm-body b → x.nodes k ≡ n → HasSpot n
    name_spot k (Freeze child predicate frozen) is form node =
        let d : Declares x (x.nodes k) (Some (Freeze child predicate frozen)) = rw is at (fits.declared k) in
        let def = top_def (graph.Freeze d.0 predicate) (subst (λ (q : NodeId). IsTop G q (graph.Freeze d.0 predicate)) node d.1) in (
          record { owner = k; path = None; cost = 1 },
          body_among s (record { owner = k; path = None; cost = 1 }) k (Freeze child predicate frozen) is (inl refl),
          node,
          freeze_cost d.0 predicate def,
        )
    name_spot k (Expert f first links stale) is form node =
        let d : Declares x (x.nodes k) (Some (Expert f first links stale)) = rw is at (fits.declared k) in
        let def = top_def (graph.Expert f (graph_value x.nodes first) d.0)
        (subst (λ (q : NodeId). IsTop G q (graph.Expert f (graph_value x.nodes first) d.0)) node d.1) in (
          record { owner = k; path = None; cost = length links },
          body_among s (record { owner = k; path = None; cost = length links }) k (Expert f first links stale) is (inl refl),
          node,
          expert_cost f (graph_value x.nodes first) d.0 links def (ap G.lists (sym node) ∙ d.2),
        )
    name_spot k (Variable v) is form node = absurd (
        top_none _ (subst (λ (q : NodeId). IsTop G q (graph.Var (graph_value x.nodes v))) node (rw is at (fits.declared k))) refl)
    name_spot k (Computed f kept) is form node = absurd form
    name_spot k (Grab b v is_live) is form node = absurd form
    name_spot k (After time) is form node = absurd (
        top_none _ (subst (λ (q : NodeId). IsTop G q (graph.At (pos time))) node (rw is at (fits.declared k))) refl)
    name_spot k (Every base span) is form node = absurd (
        let d = rw is at (fits.declared k) in
        top_none _ (subst (λ (q : NodeId). IsTop G q (graph.Every (pos base) (pos span))) node d.0) refl)

    grab_spot : (k b : ℕ) (v : Value) → body_at s k ≡ Some (Grab b v true) → x.nodes k ≡ n → HasSpot n
    grab_spot k b v is node =
        let f = grab_facts x fits k b v r (ap G.row node ∙ row) is in
        let formula : formula_at s b (Inside v ∷ []) ≡ Some f.1 =
        ap (λ (c : Option Body). and_then c (λ d. and_then (formula_of_body d) (λ h. part_of h (Inside v ∷ [])))) f.3 in
        place_spot b (Inside v ∷ []) f.1 formula (no_name_form f.1 f.4) (f.8 ∙ ap (λ (q : NodeId). Some q) node)
      where
        no_name_form : (g : Formula) → ((t : ℕ) → g ≡ Name t → ⊥) → IsForm g
        no_name_form (Name t) none = none t refl
        no_name_form g none = tt

    module _ (X : Item → Type 0) (closed : Closed x X) where
      by_carrier : Carrier x X n → HasSpot n
      by_carrier (at_name k b is node body form) = name_spot k b body form node
      by_carrier (at_place owner path f is at formula form) = place_spot owner path f formula form at
      by_carrier (at_grab k b v is node body) = grab_spot k b v body node

      covered_spot : CoveredBy x X (main n) → HasSpot n
      covered_spot (i, is, by_main {n = m} at e) =
          let same : m ≡ n = sym (ap (λ (p : Point). p.node) e) in
          by_carrier (carrier x fits X closed i n r is (at ∙ ap (λ (q : NodeId). Some q) same) row)
      covered_spot (i, is, by_choice at node choice e) = absurd (let parts : MainPart ≡ ChangePart = ap (λ (p : Point). p.part) e in cc)
      covered_spot (i, is, by_left at node e) = absurd (let parts : MainPart ≡ ChangePart = ap (λ (p : Point). p.part) e in cc)
      covered_spot (i, is, by_variable {c = c} {r = q} at node row' scope built for def e) =
          let same : c ≡ n = sym (ap (λ (p : Point). p.node) e) in
          let rows : q ≡ r = (let k : Some q ≡ Some r = sym row' ∙ (ap G.row same ∙ row) in cc) in
          let none : taken_by G n r.def ≡ None = ap (taken_by G n) (ap (λ (z : Row). z.def) (sym rows) ∙ def) in
          absurd (let clash : Some kids ≡ None = sym takes ∙ none in cc)

  -- calls of different nodes that are met are no more than one visit of each place makes
  pub calls_within : (X : Item → Type 0) → Closed x X → (nodes : List NodeId) → NoRepeats nodes → ((n : NodeId) → Among n nodes → IsCallerAt G n)
      → ((n : NodeId) → Among n nodes → CoveredBy x X (main n)) → (before after : ℕ) → RoseAtMost before (costs_of G nodes) after
      → after ≤ before + most_calls s
  calls_within X closed nodes once callers covered before after rose =
      let few = no_more (cost_at G) (λ (y : Spot). y.cost) (HasNode x) (one_of_spot x) nodes (spots s) once (λ n among.
      let c = callers n among in covered_spot n c.row c.nodes c.is_row c.takes X closed (covered n among)) in
      let most = most_costs s in
      let within = rose.within in
      omega (arith, few, most, within)
