-- The node of a place shows the formula that stands there.
use Rattle.std.proofs.Common.{◌≡◌, ℕ, zero, suc, true, false, List, [], ◌∷◌, Option, None, Some, refl, sym, ◌∙◌, cond, slice_get}
use Rattle.std.specs.Prelude as std
use Rattle.inc_value.specs.declared.function.FnRef.{FnRef}
use Rattle.inc_value.specs.declared.node.NodeId.{NodeId}
use Rattle.inc_value.specs.declared.outcome.Outcome.TheVariants as outcome
use Rattle.inc_value.specs.declared.value.Value.{Value as GraphValue}
use Rattle.inc_terms.specs.Depend.{subject_of}
use Rattle.inc_terms.specs.Evaluate.{answer, Stands}
use Rattle.inc_terms.specs.Graph as graph
use Rattle.inc_terms.specs.Graph.{Graph, Row, Def}
use Rattle.inc_terms.specs.Same.{same_outcome}
use Rattle.inc_terms.specs.Term as term
use Rattle.inc_terms.specs.Term.{Term, Terms, refs}
use Rattle.inc_terms.proofs.Same.{outcome_decides}
use Rattle.inc_value.specs.Choice.{and_then}
use Rattle.script_model.specs.Values.{Value}
use Rattle.script_model.specs.Formula as script
use Rattle.script_model.specs.Formula.{Formula, Formulas, Body, State, body_at, formula_of_body, Apply, Fold, If, Join, Bind, End, More}
use Rattle.script_model.specs.Need.{Edge, Argument, Test, Then, Else, Child, Left, Inside, argument_at, part_at, part_of, formula_at}
use Rattle.script_model.proofs.TypedCalls.{part_stands}
use Rattle.transfer.specs.Both.{Both, graph_value}
use Rattle.transfer.specs.Shows.{Mode, Built, Binding, plain, Opens, Shows, ShowsAll, Declares, Fits}
use Rattle.transfer.specs.Items.{part_node, root_at, whole_node, node_at, around, scope_at}
use Rattle.transfer.proofs.Spelling.{root_shows}

-- ---- kinds of nodes

pub plain_map : (def : Def) (g : FnRef) (ts : Terms) → plain def ≡ Some (term.Map g ts)
    → (kids : List NodeId) × (def ≡ graph.Map g kids) × (ts ≡ refs kids)
plain_map (graph.Map f kids) g ts e = (kids, (cc), (cc))
plain_map def g ts e = absurd (cc)

pub plain_fold : (def : Def) (g : FnRef) (v : GraphValue) (ts : Terms) → plain def ≡ Some (term.Fold g v ts)
    → (kids : List NodeId) × (def ≡ graph.Fold g v kids) × (ts ≡ refs kids)
plain_fold (graph.Fold f w kids) g v ts e = (kids, (cc), (cc))
plain_fold def g v ts e = absurd (cc)

pub plain_if : (def : Def) (p q r : Term) → plain def ≡ Some (term.If p q r)
    → (a : NodeId) × (b : NodeId) × (c : NodeId) × (def ≡ graph.If a b c) × (p ≡ term.Ref a) × (q ≡ term.Ref b)
    × (r ≡ term.Ref c)
plain_if (graph.If a b c) p q r e = (a, b, c, refl, (cc), (cc), (cc))
plain_if def p q r e = absurd (cc)

pub plain_join : (def : Def) (p : Term) → plain def ≡ Some (term.Join p) → (a : NodeId) × (def ≡ graph.Join a)
    × (p ≡ term.Ref a)
plain_join (graph.Join a) p e = (a, refl, (cc))
plain_join def p e = absurd (cc)

pub plain_bind : (def : Def) (p : Term) (g : FnRef) (ts : Terms) → plain def ≡ Some (term.Bind p g ts)
    → (a : NodeId) × (caps : List NodeId) × (def ≡ graph.Bind a g caps) × (p ≡ term.Ref a) × (ts ≡ refs caps)
plain_bind (graph.Bind a f caps) p g ts e = (a, caps, (cc), (cc), (cc))
plain_bind def p g ts e = absurd (cc)

pub map_parts : (def : Def) (g : FnRef) (kids : List NodeId) → def ≡ graph.Map g kids → (j : ℕ)
    → part_node def (Argument j) ≡ slice_get kids j
map_parts def g kids e j = rw e refl

pub fold_parts : (def : Def) (g : FnRef) (v : GraphValue) (kids : List NodeId) → def ≡ graph.Fold g v kids → (j : ℕ)
    → part_node def (Argument j) ≡ slice_get kids j
fold_parts def g v kids e j = rw e refl

pub if_subject : (def : Def) (a b c : NodeId) → def ≡ graph.If a b c → subject_of def ≡ Some a
if_subject def a b c e = rw e refl

pub join_subject : (def : Def) (a : NodeId) → def ≡ graph.Join a → subject_of def ≡ Some a
join_subject def a e = rw e refl

pub bind_subject : (def : Def) (a : NodeId) (h : FnRef) (caps : List NodeId) → def ≡ graph.Bind a h caps
    → subject_of def ≡ Some a
bind_subject def a h caps e = rw e refl

-- outside all scopes
pub stands_none : (x : Both) → Stands x.functions x.graph None
unfolding answer
stands_none x = (1, refl)

-- a variable and how it stands
abbrev pub binding : Value → Mode → Binding
binding v m = record { value = v; mode = m }

-- a live node of the scope that reads so
abbrev pub Opened : Graph → Option NodeId → NodeId → Term → Type 0
Opened G S n u = (r : Row) × (G.row n ≡ Some r) × (r.scope ≡ S) × (plain r.def ≡ Some u)

pub opened : (G : Graph) (S : Option NodeId) (n : NodeId) (u : Term) → Opens G (Built S) (term.Ref n) u
    → Opened G S n u
opened G S n u (m, r, e, row, scope, def) = let same : n ≡ m = cc in (r, rw same row, scope, def)

-- ---- paths

-- what follows from a value that is there, taken apart
pub then_some : {A B : Type 0} (a : Option A) (f : A → Option B) (b : B) → and_then a f ≡ Some b
    → (y : A) × (a ≡ Some y) × (f y ≡ Some b)
then_some None f b e = absurd (cc)
then_some (Some y) f b e = (y, refl, e)

pub part_above : (s : State) (owner : ℕ) (path : List Edge) (edge : Edge) (f : Formula)
    → formula_at s owner (edge ∷ path) ≡ Some f
    → (g : Formula) × (formula_at s owner path ≡ Some g) × (part_at g edge ≡ Some f)
part_above s owner path edge f is =
    then_some (formula_at s owner path) (λ g. part_at g edge) f (sym (part_stands s owner path edge) ∙ is)

pub if_true : {A : Type 0} (b : std.Bool) (a : Option A) (y : A) → cond b a None ≡ Some y → (b ≡ true) × (a ≡ Some y)
if_true true a y e = (refl, e)
if_true false a y e = absurd (cc)

argument_shows : (x : Both) (m : Mode) (E : List Binding) (kids : List NodeId) (fs : Formulas) (k : ℕ) (n : NodeId)
    (f : Formula) → ShowsAll x m E (refs kids) fs → slice_get kids k ≡ Some n
    → argument_at fs k ≡ Some f → Shows x m E (term.Ref n) f
argument_shows x m E [] fs k n f h e g = absurd (cc)
argument_shows x m E (c ∷ kids) End k n f h e g = absurd h
argument_shows x m E (c ∷ kids) (More h hs) zero n f all e g =
    let same : c ≡ n = cc in let same' : h ≡ f = cc in rw (same, same') at all.0
argument_shows x m E (c ∷ kids) (More h hs) (suc k) n f all e g = argument_shows x m E kids hs k n f all.1 e g

module _ (x : Both) (fits : Fits x) where
  -- the kid of a node at an edge shows the part there
  abbrev KidShows : Option NodeId → List Binding → NodeId → Formula → Edge → Type 0
  KidShows S E n g edge = (kid : NodeId) (f : Formula) → Shows x (Built S) E (term.Ref n) g
      → and_then (x.graph.row n) (λ r. part_node r.def edge) ≡ Some kid → part_at g edge ≡ Some f
      → Shows x (Built S) E (term.Ref kid) f

  argument_kid : (S : Option NodeId) (E : List Binding) (n : NodeId) (g : Formula) (k : ℕ)
      → KidShows S E n g (Argument k)
  argument_kid S E n (Apply h fs) k kid f shows is part =
      let o = opened x.graph S n (term.Map h shows.0) shows.1 in
      let d = plain_map o.0.def h shows.0 o.3 in
      argument_shows x (Built S) E d.0 fs k kid f (rw d.2 at shows.2) (rw (o.1, d.1) at is) part
  argument_kid S E n (Fold h v fs) k kid f shows is part =
      let o = opened x.graph S n (term.Fold h (graph_value x.nodes v) shows.0) shows.1 in
      let d = plain_fold o.0.def h (graph_value x.nodes v) shows.0 o.3 in
      argument_shows x (Built S) E d.0 fs k kid f (rw d.2 at shows.2) (rw (o.1, d.1) at is) part
  argument_kid S E n g k kid f shows is part = absurd (cc)

  if_kid : (S : Option NodeId) (E : List Binding) (n : NodeId) (test a b : Formula) (edge : Edge)
      → KidShows S E n (If test a b) edge
  if_kid S E n test a b edge kid f (p, q, r, op, st, sa, sb) is part =
      let o = opened x.graph S n (term.If p q r) op in
      let d = plain_if o.0.def p q r o.3 in
      go edge d.0 d.1 d.2 (rw d.4 at st) (rw d.5 at sa) (rw d.6 at sb) (rw (o.1, d.3) at is) part
    where
      go : (edge : Edge) (t y z : NodeId) → Shows x (Built S) E (term.Ref t) test → Shows x (Built S) E (term.Ref y) a
          → Shows x (Built S) E (term.Ref z) b
          → part_node (graph.If t y z) edge ≡ Some kid → part_at (If test a b) edge ≡ Some f
          → Shows x (Built S) E (term.Ref kid) f
      go Test t y z st sa sb is part = let n = (let e : t ≡ kid = cc in e) in let g : test ≡ f = cc in rw (n, g) at st
      go Then t y z st sa sb is part = let n = (let e : y ≡ kid = cc in e) in let g : a ≡ f = cc in rw (n, g) at sa
      go Else t y z st sa sb is part = let n = (let e : z ≡ kid = cc in e) in let g : b ≡ f = cc in rw (n, g) at sb
      go edge t y z st sa sb is part = absurd (cc)

  join_kid : (S : Option NodeId) (E : List Binding) (n : NodeId) (child : Formula) → KidShows S E n (Join child) Child
  join_kid S E n child kid f (p, op, sc) is part =
      let o = opened x.graph S n (term.Join p) op in
      let d = plain_join o.0.def p o.3 in
      let at = rw (o.1, d.1) at is in
      let same : d.0 ≡ kid = (let e = at in cc) in
      let same' : child ≡ f = cc in
      rw (same, same') at (rw d.2 at sc)

  left_kid : (S : Option NodeId) (E : List Binding) (n : NodeId) (left body : Formula)
      → KidShows S E n (Bind left body) Left
  left_kid S E n left body kid f (p, g, caps, op, sl, inner, fills, writes) is part =
      let o = opened x.graph S n (term.Bind p g caps) op in
      let d = plain_bind o.0.def p g caps o.3 in
      let at = rw (o.1, d.2) at is in
      let same : d.0 ≡ kid = (let e = at in cc) in
      let same' : left ≡ f = cc in
      rw (same, same') at (rw d.3 at sl)

  -- the root of a bind that is built for the value shows the body
  pub root_kid : (S : Option NodeId) (E : List Binding) (n : NodeId) (left body : Formula) (v : Value) (root : NodeId)
      → Shows x (Built S) E (term.Ref n) (Bind left body)
      → and_then (x.graph.built n) (root_at x.nodes v) ≡ Some root
      → Shows x (Built (Some n)) (record { value = v; mode = Built (Some n) } ∷ E) (term.Ref root) body
  root_kid S E n left body v root (p, g, caps, op, sl, inner, fills, writes) is =
      let o = opened x.graph S n (term.Bind p g caps) op in
      let d = plain_bind o.0.def p g caps o.3 in
      let w = then_some (x.graph.built n) (root_at x.nodes v) root is in
      let t = if_true (same_outcome w.0.outcome (outcome.Val (graph_value x.nodes v))) w.0.root root w.2 in
      let for_v = (outcome_decides w.0.outcome (outcome.Val (graph_value x.nodes v))).0 t.0 in
      let r = (fits.rooted n o.0 d.0 g d.1 w.0 o.1 d.2 w.1).unfolds (graph_value x.nodes v) for_v in
      let same : r.0 ≡ root = (let e = r.1 in let e' = t.1 in cc) in
      root_shows x E n d.1 inner g v body root (rw d.4 at fills) (writes (graph_value x.nodes v)) (rw same at r.2)

  -- ---- places

  abbrev pub PlaceShows : ℕ → List Edge → Type 0
  PlaceShows owner path = (n : NodeId) (f : Formula) → formula_at x.state owner path ≡ Some f
      → node_at x owner path ≡ Some n
      → Shows x (Built (scope_at x owner path)) (around x owner path) (term.Ref n) f

  whole_shows : (owner : ℕ) → PlaceShows owner []
  whole_shows owner n f is at = go (body_at x.state owner) (fits.declared owner) is at
    where
      go : (body : Option Body) → Declares x (x.nodes owner) body
          → and_then body (λ body. and_then (formula_of_body body) (λ f. part_of f [])) ≡ Some f
          → whole_node x.graph (x.nodes owner) body ≡ Some n → Shows x (Built None) [] (term.Ref n) f
      go (Some (script.Computed g kept)) dec is at =
          let same : g ≡ f = cc in let same' : x.nodes owner ≡ n = (let e = at in cc) in rw (same, same') at dec
      go (Some (script.Freeze child p frozen)) (kid, top, shows, fr) is at =
          let same : child ≡ f = cc in
          let at' = rw (top.1, top.3) at at in
          let same' : kid ≡ n = (let e = at' in cc) in
          rw (same, same') at shows
      go None dec is at = absurd (cc)
      go body dec is at = absurd (cc)

  test_kid : (S : Option NodeId) (E : List Binding) (n : NodeId) (g : Formula) → KidShows S E n g Test
  test_kid S E n (If test a b) = if_kid S E n test a b Test
  test_kid S E n g = λ kid f shows is part. absurd (cc)

  then_kid : (S : Option NodeId) (E : List Binding) (n : NodeId) (g : Formula) → KidShows S E n g Then
  then_kid S E n (If test a b) = if_kid S E n test a b Then
  then_kid S E n g = λ kid f shows is part. absurd (cc)

  else_kid : (S : Option NodeId) (E : List Binding) (n : NodeId) (g : Formula) → KidShows S E n g Else
  else_kid S E n (If test a b) = if_kid S E n test a b Else
  else_kid S E n g = λ kid f shows is part. absurd (cc)

  child_kid : (S : Option NodeId) (E : List Binding) (n : NodeId) (g : Formula) → KidShows S E n g Child
  child_kid S E n (Join c) = join_kid S E n c
  child_kid S E n g = λ kid f shows is part. absurd (cc)

  bind_kid : (S : Option NodeId) (E : List Binding) (n : NodeId) (g : Formula) → KidShows S E n g Left
  bind_kid S E n (Bind l b) = left_kid S E n l b
  bind_kid S E n g = λ kid f shows is part. absurd (cc)

  intest_kid : (S : Option NodeId) (E : List Binding) (n root : NodeId) (g f : Formula) (v : Value)
      → Shows x (Built S) E (term.Ref n) g → part_at g (Inside v) ≡ Some f
      → and_then (x.graph.built n) (root_at x.nodes v) ≡ Some root
      → Shows x (Built (Some n)) (record { value = v; mode = Built (Some n) } ∷ E) (term.Ref root) f
  intest_kid S E n root (Bind l b) f v shows part is =
      let same : b ≡ f = cc in rw same at (root_kid S E n l b v root shows is)
  intest_kid S E n root g f v shows part is = absurd (cc)

  -- the node of a place shows the formula that stands there, in the scope of the innermost bind round it
  pub place_shows : (owner : ℕ) (path : List Edge) → PlaceShows owner path
  place_shows owner [] n f is at = whole_shows owner n f is at
  place_shows owner (Inside v ∷ path) n f is at =
      let above = part_above x.state owner path (Inside v) f is in
      let node = then_some (node_at x owner path) (λ b. and_then (x.graph.built b) (root_at x.nodes v)) n at in
      rw node.1 (intest_kid (scope_at x owner path) (around x owner path) node.0 n above.0 f v
      (place_shows owner path node.0 above.0 above.1 node.1) above.2 node.2)
  place_shows owner (Argument k ∷ path) n f is at =
      let above = part_above x.state owner path (Argument k) f is in
      let node = then_some (node_at x owner path)
      (λ b. and_then (x.graph.row b) (λ r. part_node r.def (Argument k))) n at in
      argument_kid (scope_at x owner path) (around x owner path) node.0 above.0 k n f
      (place_shows owner path node.0 above.0 above.1 node.1) node.2 above.2
  place_shows owner (Test ∷ path) n f is at =
      let above = part_above x.state owner path Test f is in
      let node = then_some (node_at x owner path) (λ b. and_then (x.graph.row b) (λ r. part_node r.def Test)) n at in
      test_kid (scope_at x owner path) (around x owner path) node.0 above.0 n f
      (place_shows owner path node.0 above.0 above.1 node.1) node.2 above.2
  place_shows owner (Then ∷ path) n f is at =
      let above = part_above x.state owner path Then f is in
      let node = then_some (node_at x owner path) (λ b. and_then (x.graph.row b) (λ r. part_node r.def Then)) n at in
      then_kid (scope_at x owner path) (around x owner path) node.0 above.0 n f
      (place_shows owner path node.0 above.0 above.1 node.1) node.2 above.2
  place_shows owner (Else ∷ path) n f is at =
      let above = part_above x.state owner path Else f is in
      let node = then_some (node_at x owner path) (λ b. and_then (x.graph.row b) (λ r. part_node r.def Else)) n at in
      else_kid (scope_at x owner path) (around x owner path) node.0 above.0 n f
      (place_shows owner path node.0 above.0 above.1 node.1) node.2 above.2
  place_shows owner (Child ∷ path) n f is at =
      let above = part_above x.state owner path Child f is in
      let node = then_some (node_at x owner path) (λ b. and_then (x.graph.row b) (λ r. part_node r.def Child)) n at in
      child_kid (scope_at x owner path) (around x owner path) node.0 above.0 n f
      (place_shows owner path node.0 above.0 above.1 node.1) node.2 above.2
  place_shows owner (Left ∷ path) n f is at =
      let above = part_above x.state owner path Left f is in
      let node = then_some (node_at x owner path) (λ b. and_then (x.graph.row b) (λ r. part_node r.def Left)) n at in
      bind_kid (scope_at x owner path) (around x owner path) node.0 above.0 n f
      (place_shows owner path node.0 above.0 above.1 node.1) node.2 above.2
