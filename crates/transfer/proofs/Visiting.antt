-- Distinct nodes that ran are distinct visits that are due.
use Rattle.std.proofs.Common.{◌≡◌, inl, inr, ℕ, ◌≤◌, List, [], ◌∷◌, map, length, Option, None, Some, refl, ap, subst, sym, ◌∙◌}
use Rattle.std.specs.List.{sum_by}
use Rattle.std.specs.Prelude as std
use Rattle.std.proofs.lemmas.List.{length-map}
use Rattle.std.proofs.lemmas.List.Sums.{sum_by-cons}
use Rattle.inc_value.specs.declared.function.FnRef.{FnRef}
use Rattle.inc_value.specs.declared.node.NodeId.{NodeId}
use Rattle.inc_value.specs.declared.node.Part.TheVariants.{Change, Main}
use Rattle.inc_value.specs.declared.node.Point.{Point}
use Rattle.inc_value.specs.declared.value.Value.{Value as GraphValue}
use Rattle.inc_terms.specs.Depend.{main}
use Rattle.inc_terms.specs.Evaluate as engine
use Rattle.inc_terms.specs.Evaluate.{answer, Stands}
use Rattle.inc_terms.specs.Graph as graph
use Rattle.inc_terms.specs.Graph.{Row, Def}
use Rattle.inc_terms.specs.Term as term
use Rattle.inc_terms.specs.Term.{Term, Terms, refs}
use Rattle.inc_value.specs.Choice.{Among, NoRepeats, Every as Each}
use Rattle.script_model.specs.Values.{Value}
use Rattle.script_model.specs.Formula.{Formula, Formulas, Body, State, body_at, Literal, Name, Bound, Apply, Fold, If, Join, Bind, At, Steps, Now, End, More, Variable, Computed, Freeze, After, Every, Expert, Grab}
use Rattle.script_model.specs.Need.{Edge, Item, Named, Place, formula_at, Visit, visit_of, stamp_of, body_visits, IsVisit, IsDue, WithinWork, Met}
use Rattle.transfer.specs.Both.{Both, graph_value}
use Rattle.transfer.specs.Shows.{Mode, Spelled, Built, plain, Opens, graph_step, Shows, ShowsAll, IsTop, Declares, Fits}
use Rattle.transfer.specs.Items.{node_at, node_of, around, scope_at, by_main, by_choice, by_left, by_variable, CoveredBy, Closed}
use Rattle.transfer.specs.Work.{call_of, cost_of, Calls, Ran, AllRan, calls_in}
use Rattle.transfer.proofs.Places.{stands_none, plain_map, plain_fold, opened, place_shows}
use Rattle.transfer.proofs.Agreement.{gathered_agree, links_agree}
use Rattle.transfer.proofs.Carriers.{Carrier, at_name, at_place, at_grab, live_place, IsForm-body, carrier, values_around, sound_at}
use Rattle.transfer.specs.Cycles.{IsForm}

-- the visit that a node's call is
record Visited (x : Both) (X : Item → Type 0) (n : NodeId) (given : List GraphValue) (cost : ℕ) : Type 0 where
  visit : Visit
  item : X visit.item
  is_visit : IsVisit x.meanings x.state visit
  node : node_of x visit.item ≡ Some n
  same_values : given ≡ map (graph_value x.nodes) visit.values
  same_cost : cost ≡ visit.cost
  same_stamp : visit.stamp ≡ stamp_of x.state visit.item

no_call : (x : Both) (n : NodeId) (def : Def) (u : Term) (kids : List NodeId) → plain def ≡ Some u
    → ((g : FnRef) (ts : Terms) → u ≡ term.Map g ts → ⊥)
    → ((g : FnRef) (v : GraphValue) (ts : Terms) → u ≡ term.Fold g v ts → ⊥) → call_of x.graph n def ≡ Some kids → ⊥
no_call x n (graph.Map f ks) u kids e m f' c = m f (refs ks) (cc)
no_call x n (graph.Fold f v ks) u kids e m f' c = f' f v (refs ks) (cc)
no_call x n (graph.Freeze kid f) u kids e m f' c = cc
no_call x n (graph.Expert f v ks) u kids e m f' c = cc
no_call x n def u kids e m f' c = cc

module _ (x : Both) (fits : Fits x) (X : Item → Type 0) (closed : Closed x X) where
  -- of the place of an application or a fold
  apply_visited : (owner : ℕ) (path : List Edge) (g : FnRef) (fs : Formulas) (n : NodeId) (kids : List NodeId)
      (depth : ℕ) (given : List GraphValue) → X (Place owner path)
      → node_at x owner path ≡ Some n → formula_at x.state owner path ≡ Some (Apply g fs)
      → Stands x.functions x.graph (scope_at x owner path)
      → ShowsAll x (Built (scope_at x owner path)) (around x owner path) (refs kids) fs
      → engine.gathered (answer x.functions x.graph depth) (refs kids) ≡ engine.Values given → Visited x X n given 1
  apply_visited owner path g fs n kids depth given is at f_is stands all gives =
      let w = gathered_agree x fits (Built (scope_at x owner path)) (around x owner path)
      (refs kids) fs depth given all (sound_at x fits owner path (Apply g fs) f_is stands n at) gives in
      let ws = rw (values_around x owner path) at w.3 in
      record {
        visit = visit_of (Place owner path) w.0 0 1;
        item = is;
        is_visit = (w.2, rw (f_is, ws) (inl refl));
        node = at;
        same_values = w.1;
        same_cost = refl;
        same_stamp = refl;
      }

  fold_visited : (owner : ℕ) (path : List Edge) (g : FnRef) (v : Value) (fs : Formulas) (n : NodeId)
      (kids : List NodeId) (depth : ℕ) (given : List GraphValue) → X (Place owner path)
      → node_at x owner path ≡ Some n → formula_at x.state owner path ≡ Some (Fold g v fs)
      → Stands x.functions x.graph (scope_at x owner path)
      → ShowsAll x (Built (scope_at x owner path)) (around x owner path) (refs kids) fs
      → engine.gathered (answer x.functions x.graph depth) (refs kids) ≡ engine.Values given
      → Visited x X n given (length given)
  fold_visited owner path g v fs n kids depth given is at f_is stands all gives =
      let w = gathered_agree x fits (Built (scope_at x owner path)) (around x owner path)
      (refs kids) fs depth given all (sound_at x fits owner path (Fold g v fs) f_is stands n at) gives in
      let ws = rw (values_around x owner path) at w.3 in
      record {
        visit = visit_of (Place owner path) w.0 0 (length w.0);
        item = is;
        is_visit = (w.2, rw (f_is, ws) (inl refl));
        node = at;
        same_values = w.1;
        same_cost = ap length w.1 ∙ length-map w.0 (graph_value x.nodes);
        same_stamp = refl;
      }

  never : (owner : ℕ) (path : List Edge) (n : NodeId) (c : Calls x n) (u : Term)
      → Opens x.graph (Built (scope_at x owner path)) (term.Ref n) u
      → ((g : FnRef) (ts : Terms) → u ≡ term.Map g ts → ⊥)
      → ((g : FnRef) (v : GraphValue) (ts : Terms) → u ≡ term.Fold g v ts → ⊥) → ⊥
  never owner path n c u op m f =
      let o = opened x.graph (scope_at x owner path) n u op in
      let same : o.0 ≡ c.row = (let e = o.1 in let e' = c.is_row in cc) in
      no_call x n c.row.def u c.kids (rw same at o.3) m f c.is_call

  place_visited : (owner : ℕ) (path : List Edge) (f : Formula) (n : NodeId) (c : Calls x n) → X (Place owner path)
      → node_at x owner path ≡ Some n → formula_at x.state owner path ≡ Some f → IsForm f
      → Shows x (Built (scope_at x owner path)) (around x owner path) (term.Ref n) f
      → Visited x X n c.given (cost_of c.row.def c.given)
  place_visited owner path (Name t) n c is at f_is form shows = absurd form
  place_visited owner path (Apply g fs) n c is at f_is form (ts, op, all) =
      let o = opened x.graph (scope_at x owner path) n (term.Map g ts) op in
      let same : o.0 ≡ c.row = (let e = o.1 in let e' = c.is_row in cc) in
      let scope : c.row.scope ≡ scope_at x owner path = rw same at o.2 in
      let d = plain_map c.row.def g ts (rw same at o.3) in
      go d.0 d.1 (rw d.2 at all) (rw scope at c.stands)
    where
      go : (kids : List NodeId) → c.row.def ≡ graph.Map g kids
          → ShowsAll x (Built (scope_at x owner path)) (around x owner path) (refs kids) fs
          → Stands x.functions x.graph (scope_at x owner path)
          → Visited x X n c.given (cost_of c.row.def c.given)
      go kids def all stands =
          let kids_are : kids ≡ c.kids = (let e = rw def at c.is_call in cc) in
          rw def (apply_visited owner path g fs n kids c.depth c.given is at f_is stands all (rw kids_are c.gives))
  place_visited owner path (Fold g v fs) n c is at f_is form (ts, op, all) =
      let o = opened x.graph (scope_at x owner path) n (term.Fold g (graph_value x.nodes v) ts) op in
      let same : o.0 ≡ c.row = (let e = o.1 in let e' = c.is_row in cc) in
      let scope : c.row.scope ≡ scope_at x owner path = rw same at o.2 in
      let d = plain_fold c.row.def g (graph_value x.nodes v) ts (rw same at o.3) in
      go d.0 d.1 (rw d.2 at all) (rw scope at c.stands)
    where
      go : (kids : List NodeId) → c.row.def ≡ graph.Fold g (graph_value x.nodes v) kids
          → ShowsAll x (Built (scope_at x owner path)) (around x owner path) (refs kids) fs
          → Stands x.functions x.graph (scope_at x owner path)
          → Visited x X n c.given (cost_of c.row.def c.given)
      go kids def all stands =
          let kids_are : kids ≡ c.kids = (let e = rw def at c.is_call in cc) in
          rw def (fold_visited owner path g v fs n kids c.depth c.given is at f_is stands all (rw kids_are c.gives))
  place_visited owner path (Bound k) n c is at f_is form (b, e, op) =
      absurd (no_bound b.mode (graph_value x.nodes b.value) op)
    where
      no_bound : (mode : Mode) (v : GraphValue) → Opens x.graph mode (term.Ref n) (term.Const v) → ⊥
      no_bound Spelled v op = cc
      no_bound (Built S) v op =
          let o = opened x.graph S n (term.Const v) op in
          let same : o.0 ≡ c.row = (let e = o.1 in let e' = c.is_row in cc) in
          no_call x n c.row.def (term.Const v) c.kids (rw same at o.3) (λ g ts e. cc) (λ g v ts e. cc) c.is_call
  place_visited owner path (Literal v) n c is at f_is form op =
      absurd (never owner path n c (term.Const (graph_value x.nodes v)) op (λ g ts e. cc) (λ g v ts e. cc))
  place_visited owner path (If test a b) n c is at f_is form (p, q, r, op, st, sa, sb) =
      absurd (never owner path n c (term.If p q r) op (λ g ts e. cc) (λ g v ts e. cc))
  place_visited owner path (Join child) n c is at f_is form (p, op, sc) =
      absurd (never owner path n c (term.Join p) op (λ g ts e. cc) (λ g v ts e. cc))
  place_visited owner path (Bind left body) n c is at f_is form (p, h, caps, op, sl, inner, fills, writes) =
      absurd (never owner path n c (term.Bind p h caps) op (λ g ts e. cc) (λ g v ts e. cc))
  place_visited owner path (At t) n c is at f_is form op =
      absurd (never owner path n c (term.At (std.pos t)) op (λ g ts e. cc) (λ g v ts e. cc))
  place_visited owner path (Steps v ss) n c is at f_is form op =
      absurd (never owner path n c (term.Steps (graph_value x.nodes v) (map (graph_step x.nodes) ss)) op
      (λ g ts e. cc) (λ g v ts e. cc))
  place_visited owner path Now n c is at f_is form op =
      absurd (never owner path n c term.Now op (λ g ts e. cc) (λ g v ts e. cc))

  -- ---- freezes and experts

  top_no_call : (n : NodeId) (c : Calls x n) (def : Def) → IsTop x.graph n def → call_of x.graph n def ≡ None → ⊥
  top_no_call n c def (r, row, scope, is) none =
      let same : r ≡ c.row = (let e = row in let e' = c.is_row in cc) in
      let def_is : c.row.def ≡ def = rw same at is in
      let e = rw def_is at c.is_call in cc

  top_def : (n : NodeId) (c : Calls x n) (def : Def) → IsTop x.graph n def → c.row.def ≡ def
  top_def n c def (r, row, scope, is) =
      let same : r ≡ c.row = (let e = row in let e' = c.is_row in cc) in rw same at is

  freeze_visited : (k : ℕ) (child : Formula) (p : FnRef) (kid : NodeId) (depth : ℕ) (given : List GraphValue)
      → X (Named k) → body_at x.state k ≡ Some (Freeze child p None)
      → Shows x (Built None) [] (term.Ref kid) child → engine.gathered (answer x.functions x.graph depth)
      (refs (kid ∷ [])) ≡ engine.Values given → Visited x X (x.nodes k) given 1
  freeze_visited k child p kid depth given is body shows gives =
      let w = gathered_agree x fits (Built None) [] (refs (kid ∷ [])) (More child End) depth given (shows, tt)
      (stands_none x, tt) gives in
      record {
        visit = visit_of (Named k) w.0 (stamp_of x.state (Named k)) 1;
        item = is;
        is_visit = (
          w.2,
          subst (λ (b : Option Body). Among (visit_of (Named k) w.0 (stamp_of x.state (Named k)) 1)
              (body_visits x.meanings x.state w.2 (Named k) b)) (sym body) (rw w.3 (inl refl)),
        );
        node = refl;
        same_values = w.1;
        same_cost = refl;
        same_stamp = refl;
      }

  expert_visited : (k : ℕ) (g : FnRef) (first : Value) (links : List ℕ) (stale depth : ℕ) (given : List GraphValue)
      → X (Named k) → body_at x.state k ≡ Some (Expert g first links stale)
      → engine.gathered (answer x.functions x.graph depth) (refs (map x.nodes links)) ≡ engine.Values given
      → Visited x X (x.nodes k) given (length given)
  expert_visited k g first links stale depth given is body gives =
      let w = links_agree x fits links depth given gives in
      record {
        visit = visit_of (Named k) w.0 (stamp_of x.state (Named k)) (length w.0);
        item = is;
        is_visit = (
          w.2,
          subst (λ (b : Option Body). Among
              (visit_of (Named k) w.0 (stamp_of x.state (Named k)) (length w.0))
              (body_visits x.meanings x.state w.2 (Named k) b)) (sym body) (rw w.3 (inl refl)),
        );
        node = refl;
        same_values = w.1;
        same_cost = ap length w.1 ∙ length-map w.0 (graph_value x.nodes);
        same_stamp = refl;
      }

  name_visited : (k : ℕ) (body : Body) (c : Calls x (x.nodes k)) → X (Named k) → body_at x.state k ≡ Some body
      → IsForm-body body → Declares x (x.nodes k) (Some body)
      → Visited x X (x.nodes k) c.given (cost_of c.row.def c.given)
  name_visited k (Computed f kept) c is body form dec = absurd form
  name_visited k (Grab b v l) c is body form dec = absurd form
  name_visited k (Variable v) c is body form dec =
      absurd (top_no_call (x.nodes k) c (graph.Var (graph_value x.nodes v)) dec refl)
  name_visited k (After t) c is body form dec = absurd (top_no_call (x.nodes k) c (graph.At (std.pos t)) dec refl)
  name_visited k (Every t u) c is body form dec =
      absurd (top_no_call (x.nodes k) c (graph.Every (std.pos t) (std.pos u)) dec.0 refl)
  name_visited k (Freeze child p (Some v)) c is body form (kid, top, shows, frozen) =
      absurd (top_no_call (x.nodes k) c (graph.Freeze kid p) top (rw frozen refl))
  name_visited k (Freeze child p None) c is body form (kid, top, shows, frozen) =
      let def = top_def (x.nodes k) c (graph.Freeze kid p) top in
      let kids_are : (kid ∷ []) ≡ c.kids = (let e = rw (def, frozen) at c.is_call in cc) in
      rw def (freeze_visited k child p kid c.depth c.given is body shows
      (subst (λ (ks : List NodeId). engine.gathered (answer x.functions x.graph c.depth)
      (refs ks) ≡ engine.Values c.given) (sym kids_are) c.gives))
  name_visited k (Expert g first links stale) c is body form (kids, top, lists) =
      let def = top_def (x.nodes k) c (graph.Expert g (graph_value x.nodes first) kids) top in
      let kids_are : map x.nodes links ≡ c.kids = (let e = rw (def, lists) at c.is_call in cc) in
      rw def (expert_visited k g first links stale c.depth c.given is body
      (subst (λ (ks : List NodeId). engine.gathered (answer x.functions x.graph c.depth)
      (refs ks) ≡ engine.Values c.given) (sym kids_are) c.gives))

  -- ---- a node that is called

  carried : (n : NodeId) (c : Calls x n) → Carrier x X n → Visited x X n c.given (cost_of c.row.def c.given)
  carried n c (at_place owner path f is at f_is form) =
      place_visited owner path f n c is at f_is form (place_shows x fits owner path n f f_is at)
  carried n c (at_grab k b v is same body_is) =
      let w = live_place x fits X closed k b v n c.row is same body_is c.is_row c.stands in
      place_visited w.0 w.1 w.2 n c w.3 w.4 w.5 w.6 (place_shows x fits w.0 w.1 n w.2 w.5 w.4)
  carried n c (at_name k body is same body_is form) = at_node n c same
    where
      at_node : (n : NodeId) (c : Calls x n) → x.nodes k ≡ n → Visited x X n c.given (cost_of c.row.def c.given)
      at_node n c same = moved n same c
        where
          moved : (n : NodeId) → x.nodes k ≡ n → (c : Calls x n) → Visited x X n c.given (cost_of c.row.def c.given)
          moved n e = subst (λ (n : NodeId). (c : Calls x n) → Visited x X n c.given (cost_of c.row.def c.given)) e
              (λ c. name_visited k body c is body_is form (rw body_is at (fits.declared k)))

  no_variable_call : (n : NodeId) (c : Calls x n) (r : Row) (v : GraphValue) → x.graph.row n ≡ Some r
      → r.def ≡ graph.Const v → ⊥
  no_variable_call n c r v row def =
      let same : r ≡ c.row = (let e' = c.is_row in cc) in let e = rw same at def in let e'' = rw e at c.is_call in cc

  -- the call of a covered node is a visit of an item of the set
  called : (n : NodeId) (c : Calls x n) → CoveredBy x X (main n) → Visited x X n c.given (cost_of c.row.def c.given)
  called n c (i, is, by_main {n = m} node e) =
      let same : m ≡ n = sym (ap (λ (p : Point). p.node) e) in
      carried n c
      (carrier x fits X closed i n c.row is (rw same at node) c.is_row)
  called n c (i, is, by_choice item at choice e) =
      absurd (let e' : Main ≡ Change = ap (λ (p : Point). p.part) e in cc)
  called n c (i, is, by_left item at e) = absurd (let e' : Main ≡ Change = ap (λ (p : Point). p.part) e in cc)
  called n c (i, is, by_variable {c = m} {r = r} {v = v} item at row scope built for def e) =
      let same : m ≡ n = sym (ap (λ (p : Point). p.node) e) in
      absurd
      (no_variable_call n c r v (rw same at row) def)

-- ---- the work

-- for each node a visit
abbrev Visits : Both → State → List NodeId → List Visit → Type 0
Visits x before [] [] = Unit {0}
Visits x before [] (v ∷ vs) = ⊥
Visits x before (n ∷ ns) [] = ⊥
Visits x before (n ∷ ns) (v ∷ vs) = (node_of x v.item ≡ Some n) × IsDue x.meanings before x.state v
    × Visits x before ns vs

-- a visit's node is one of the nodes
node_among : (x : Both) (before : State) (ns : List NodeId) (vs : List Visit) (v : Visit) (n : NodeId)
    → Visits x before ns vs → Among v vs → node_of x v.item ≡ Some n → Among n ns
node_among x before [] [] v n all none e = absurd none
node_among x before [] (w ∷ vs) v n all among e = absurd all
node_among x before (m ∷ ns) [] v n all none e = absurd none
node_among x before (m ∷ ns) (w ∷ vs) v n all (inl same) e = let e' = rw (← same) at all.0 in inl (cc)
node_among x before (m ∷ ns) (w ∷ vs) v n all (inr later) e = inr (node_among x before ns vs v n all.2 later e)

distinct_visits : (x : Both) (before : State) (ns : List NodeId) (vs : List Visit) → NoRepeats ns
    → Visits x before ns vs → NoRepeats vs
distinct_visits x before [] [] distinct all = tt
distinct_visits x before [] (v ∷ vs) distinct all = absurd all
distinct_visits x before (n ∷ ns) [] distinct all = absurd all
distinct_visits x before (n ∷ ns) (v ∷ vs) distinct all = (
  (λ again. distinct.0 (node_among x before ns vs v n all.2 again all.0)),
  distinct_visits x before ns vs distinct.1 all.2,
)

all_due : (x : Both) (before : State) (ns : List NodeId) (vs : List Visit) → Visits x before ns vs
    → Each (IsDue x.meanings before x.state) vs
all_due x before [] [] all = tt
all_due x before [] (v ∷ vs) all = absurd all
all_due x before (n ∷ ns) [] all = absurd all
all_due x before (n ∷ ns) (v ∷ vs) all = (all.1, all_due x before ns vs all.2)

module _ (x : Both) (fits : Fits x) (before : State) (closed : Closed x (Met x.meanings before x.state)) where
  -- the call of a node that ran is a visit that is due
  due : (n : NodeId) (ran : Ran x before n) → (v : Visit) × (node_of x v.item ≡ Some n)
      × IsDue x.meanings before x.state v × (cost_of ran.calls.row.def ran.calls.given ≡ v.cost)
  due n ran =
      let w = called x fits (Met x.meanings before x.state) closed n ran.calls ran.met in (
        w.visit,
        w.node,
        record {
          visit = w.is_visit;
          met = w.item;
          fresh = λ is needed.
              ran.fresh w.visit is needed w.node w.same_stamp w.same_values;
        },
        w.same_cost,
      )

  all_visits : (ns : List NodeId) (ran : AllRan x before ns) → (vs : List Visit) × Visits x before ns vs
      × (calls_in x before ns ran ≡ sum_by (λ (v : Visit). v.cost) vs)
  all_visits [] ran = ([], tt, refl)
  all_visits (n ∷ ns) ran =
      let v = due n ran.0 in
      let rest = all_visits ns ran.1 in
      (v.0 ∷ rest.0, (v.1, v.2, rest.1), rw (v.3, rest.2) (sym (sum_by-cons (λ (v : Visit). v.cost) v.0 rest.0)))

  -- distinct nodes that ran are distinct visits that are due, and cost as much
  pub ran_within_work : (ns : List NodeId) (ran : AllRan x before ns) (calls : ℕ) → NoRepeats ns
      → calls ≤ calls_in x before ns ran → WithinWork x.meanings before x.state calls
  ran_within_work ns ran calls distinct few =
      let w = all_visits ns ran in
      record {
        visits = w.0;
        distinct = distinct_visits x before ns w.0 distinct w.1;
        due = all_due x before ns w.0 w.1;
        enough = rw w.2 at few;
      }
