-- Long walks of a script are long walks of the graph, once the graph is right.
use Rattle.std.proofs.Common.{◌≡◌, ◌⊎◌, inl, inr, ℕ, zero, suc, ◌+◌, true, false, ◌&&◌, List, [], ◌∷◌, ◌++◌, map, length, Option, None, Some, refl, sym, ap, subst, ◌∙◌, arith, slice_get}
use Rattle.std.specs.Prelude as std
use Rattle.inc_value.specs.declared.function.FnRef.{FnRef}
use Rattle.inc_value.specs.declared.node.NodeId.{NodeId}
use Rattle.inc_value.specs.declared.node.Part.{Part}
use Rattle.inc_value.specs.declared.node.Part.TheVariants.{Main as MainPart}
use Rattle.inc_value.specs.declared.node.Point.{Point as GraphPoint}
use Rattle.inc_value.specs.declared.outcome.Outcome.{Outcome as GraphOutcome}
use Rattle.inc_value.specs.declared.outcome.Outcome.TheVariants as outcome
use Rattle.inc_value.specs.declared.value.Value.{Value as GraphValue}
use Rattle.inc_value.specs.Choice.{and_then, Among}
use Rattle.inc_value.specs.Walk.{IsWalk as IsGraphWalk, IsDeep}
use Rattle.inc_terms.specs.Depend.{main, change, Depends as GraphDepends, gate, ghost, fixed, right, subject_of, right_of, fixed_reads}
use Rattle.inc_terms.specs.Evaluate.{NodeGives, Of}
use Rattle.inc_terms.specs.Graph as graph
use Rattle.inc_terms.specs.Graph.{Graph, Row, Def}
use Rattle.inc_terms.specs.Local.{Exact}
use Rattle.inc_terms.specs.Need.{Needed as GraphNeeded}
use Rattle.inc_terms.specs.Same.{same_outcome}
use Rattle.inc_terms.specs.Term as term
use Rattle.inc_terms.proofs.Evaluation.{one_outcome as engine_one}
use Rattle.inc_terms.proofs.Local.{needed_more, main_sees}
use Rattle.inc_terms.proofs.Same.{outcome_decides}
use Rattle.script_model.specs.Depth.{Point, Main, Change, node_of_body, node_of_formula, mains, change_of, stands_at, main_points, change_points, scoped_points, body_points, points_at, Depends, IsWalk, points_of, TooDeep}
use Rattle.script_model.specs.Depth as depth
use Rattle.script_model.specs.Evaluate.{chosen, value_at}
use Rattle.script_model.specs.Formula as script
use Rattle.script_model.specs.Formula.{Formula, Formulas, Body, State, body_at, Literal, Name, Bound, Apply, Fold, If, Join, Bind, At, Steps, Now, End, More, Variable, Computed, Freeze, After, Every, Expert, Grab}
use Rattle.script_model.specs.Need.{Edge, Argument, Test, Then, Else, Child, Left, Inside, Item, Named, Place, rounds, environment, bind_around, argument_at, part_at, formula_at, outcome_at, argument_places, chosen_place, named_place, inside_place, Needed}
use Rattle.script_model.specs.Values as script_value
use Rattle.script_model.specs.Values.{Value, Outcome, Val, Invalid, same_value}
use Rattle.transfer.specs.Both.{Both, graph_value, graph_outcome}
use Rattle.transfer.specs.Shows.{Built, Shows, ShowsAll, Declares, Lost, Fits}
use Rattle.transfer.specs.Items.{part_node, node_at, around, scope_at, GrabsBind}
use Rattle.transfer.specs.Laws.{NeededIsOnNoCycle, NeededIsShallow}
use Rattle.script_model.proofs.Evaluation.{one_outcome}
use Rattle.script_model.proofs.Given.{given_is_on_no_cycle}
use Rattle.script_model.proofs.Places.{same_values}
use Rattle.script_model.proofs.TypedCalls.{part_is}
use Rattle.transfer.proofs.Agreement.{live_facts, name_agrees}
use Rattle.transfer.proofs.Having.{kid_there, subject_has, right_then, right_else, right_named, bind_built, bind_round, scope_is, needed_has_points}
use Rattle.transfer.proofs.Holding.{variable_at}
use Rattle.transfer.proofs.Places.{if_subject, join_subject, bind_subject, map_parts, fold_parts, opened, then_some, plain_map, plain_fold, plain_if, plain_join, plain_bind, place_shows}
use Rattle.transfer.proofs.Staying.{IsOther, other_row}
use Rattle.transfer.proofs.Typed.{valid_grabs}
use Rattle.transfer.proofs.Reaching.{needed_closed}

-- ---- lists

mains_among : (s : State) (items : List Item) (q : Point) → Among q (mains s items) → (i : Item) × Among i items
    × (q ≡ Main (depth.node_of s i))
mains_among s [] q none = absurd none
mains_among s (i ∷ items) q (inl e) = (i, inl refl, e)
mains_among s (i ∷ items) q (inr later) = let r = mains_among s items q later in (r.0, inr r.1, r.2)

place_among : (owner : ℕ) (path : List Edge) (k : ℕ) (fs : Formulas) (i : Item)
    → Among i (argument_places owner path k fs)
    → (j : ℕ) × (f : Formula) × (i ≡ Place owner (Argument (k + j) ∷ path)) × (argument_at fs j ≡ Some f)
place_among owner path k End i none = absurd none
place_among owner path k (More f fs) i (inl e) =
    let first : k ≡ k + 0 = omega arith in (0, f, e ∙ ap (λ n. Place owner (Argument n ∷ path)) first, refl)
place_among owner path k (More f fs) i (inr later) =
    let r = place_among owner path (suc k) fs i later in
    let next : suc k + r.0 ≡ k + suc r.0 = omega arith in
    (suc r.0, r.1, r.2 ∙ ap (λ n. Place owner (Argument n ∷ path)) next, r.3)

among_first : (owner : ℕ) (path : List Edge) (fs : Formulas) (i : Item) → Among i (argument_places owner path 0 fs)
    → (j : ℕ) × (f : Formula) × (i ≡ Place owner (Argument j ∷ path)) × (argument_at fs j ≡ Some f)
among_first owner path fs i among =
    let r = place_among owner path 0 fs i among in
    let same : 0 + r.0 ≡ r.0 = omega arith in
    (r.0, r.1, r.2 ∙ ap (λ n. Place owner (Argument n ∷ path)) same, r.3)

kid_among : (kids : List NodeId) (j : ℕ) (m : NodeId) → slice_get kids j ≡ Some m → Among (main m) (map main kids)
kid_among [] j m e = absurd (cc)
kid_among (n ∷ kids) zero m e = let same : n ≡ m = cc in inl (ap main (sym same))
kid_among (n ∷ kids) (suc j) m e = inr (kid_among kids j m e)

link_among : (nodes : ℕ → NodeId) (links : List ℕ) (m : ℕ) → Among (Named m) (map (λ k. Named k) links)
    → Among (main (nodes m)) (map main (map nodes links))
link_among nodes [] m none = absurd none
link_among nodes (k ∷ links) m (inl e) = let same : m ≡ k = cc in inl (ap (λ k. main (nodes k)) same)
link_among nodes (k ∷ links) m (inr later) = inr (link_among nodes links m later)

pub is_named : (links : List ℕ) (i : Item) → Among i (map (λ k. Named k) links) → (m : ℕ) × (i ≡ Named m)
is_named [] i none = absurd none
is_named (k ∷ links) i (inl e) = (k, e)
is_named (k ∷ links) i (inr later) = is_named links i later

pub map_reads : (G : Graph) (n : NodeId) (def : Def) (g : FnRef) (kids : List NodeId) → def ≡ graph.Map g kids
    → fixed_reads G n def MainPart ≡ map main kids
map_reads G n def g kids e = rw e refl

pub fold_reads : (G : Graph) (n : NodeId) (def : Def) (g : FnRef) (v : GraphValue) (kids : List NodeId)
    → def ≡ graph.Fold g v kids
    → fixed_reads G n def MainPart ≡ map main kids
fold_reads G n def g v kids e = rw e refl

pub freeze_reads : (G : Graph) (n kid : NodeId) (def : Def) (p : FnRef) → def ≡ graph.Freeze kid p → G.frozen n ≡ None
    → fixed_reads G n def MainPart ≡ main kid ∷ []
freeze_reads G n kid def p e frozen = rw (e, frozen) refl

pub expert_reads : (G : Graph) (n : NodeId) (def : Def) (g : FnRef) (v : GraphValue) (kids list : List NodeId)
    → def ≡ graph.Expert g v kids
    → G.lists n ≡ list → fixed_reads G n def MainPart ≡ map main list
expert_reads G n def g v kids list e lists = rw (e, lists) refl

-- what is among points that stand or don't is among them
among_chosen : (b : std.Bool) (points : List Point) (q : Point) → Among q (chosen b points []) → Among q points
among_chosen true points q among = among
among_chosen false points q none = absurd none

-- what is among the points of a place is the change of the innermost bind, or of those of its formula
pub among_scoped : (owner : ℕ) (around : Option (List Edge)) (b : std.Bool) (points : List Point) (q : Point)
    → Among q (change_of owner around ++ chosen b points [])
    → ((bind : List Edge) × (around ≡ Some bind) × (q ≡ Change (Place owner bind))) ⊎ Among q points
among_scoped owner None b points q among = inr (among_chosen b points q among)
among_scoped owner (Some bind) b points q (inl e) = inl (bind, refl, e)
among_scoped owner (Some bind) b points q (inr among) = inr (among_chosen b points q among)

-- ---- points of a script and of its graph

-- the point of the graph that a point of the script is. A name stands unresolved at a whole formula alone; the points of a
-- grab that died in the call are the main of its dead node
pub data AtPoint (x : Both) (p : Point) (P : GraphPoint) : Type 0 where
  at_name : (k : ℕ) → p ≡ Main (Named k) → P ≡ main (x.nodes k) → AtPoint x p P
  at_main : (owner : ℕ) (path : List Edge) (f : Formula) (n : NodeId) → p ≡ Main (Place owner path)
      → formula_at x.state owner path ≡ Some f → ((t : ℕ) → f ≡ Name t → path ≡ []) → node_at x owner path ≡ Some n
      → P ≡ main n → AtPoint x p P
  at_change : (owner : ℕ) (path : List Edge) (f : Formula) (points : List Point) (n : NodeId)
      → p ≡ Change (Place owner path) → formula_at x.state owner path ≡ Some f
      → change_points x.state owner path f ≡ Some points → node_at x owner path ≡ Some n → P ≡ change n → AtPoint x p P
  at_lost : (k b : ℕ) (v : Value)
      → (p ≡ Main (Place b (Inside v ∷ []))) ⊎ (p ≡ Change (Place b (Inside v ∷ [])))
      → body_at x.state k ≡ Some (Grab b v true) → Lost x (x.nodes k) b v → P ≡ main (x.nodes k) → AtPoint x p P

pub same_point : (x : Both) (p q : Point) (P : GraphPoint) → p ≡ q → AtPoint x q P → AtPoint x p P
same_point x p q P e h = subst (λ r. AtPoint x r P) (sym e) h

module _ (x : Both) (fits : Fits x) where
  -- ---- the node of an item is that of the item that computes it

  pub own_named : (k : ℕ) (b : Option Body) → body_at x.state k ≡ b
      → AtPoint x (Main (node_of_body k b)) (main (x.nodes k))
  own_named k None is = at_name k refl refl
  own_named k (Some (Variable v)) is = at_name k refl refl
  own_named k (Some (Computed f kept)) is =
      at_main k [] f (x.nodes k) refl (rw is refl) (λ t e. refl) (rw is refl) refl
  own_named k (Some (Freeze child p frozen)) is = at_name k refl refl
  own_named k (Some (After t)) is = at_name k refl refl
  own_named k (Some (Every t u)) is = at_name k refl refl
  own_named k (Some (Expert g v links stale)) is = at_name k refl refl
  own_named k (Some (Grab b v false)) is = at_name k refl refl
  own_named k (Some (Grab b v true)) is = elim (rw is at (fits.declared k)) [
    | inl live ↦
        let g = live_facts x fits k b v is live in by_facts g.0 g.1 g.2 g.3 g.4 g.8
    | inr lost ↦ at_lost k b v (inl refl) is lost refl
  ]
    where
      by_facts : (left body : Formula) (kept : script.Kept)
          → body_at x.state b ≡ Some (Computed (Bind left body) kept) → ((t : ℕ) → body ≡ Name t → ⊥)
          → node_at x b (Inside v ∷ []) ≡ Some (x.nodes k)
          → AtPoint x (Main (Place b (Inside v ∷ []))) (main (x.nodes k))
      by_facts left body kept bind_is named at =
          at_main b (Inside v ∷ []) body (x.nodes k) refl (rw bind_is refl) (λ t e. absurd (named t e)) at refl

  pub own_place : (owner : ℕ) (path : List Edge) (f : Formula) (n : NodeId) → formula_at x.state owner path ≡ Some f
      → node_at x owner path ≡ Some n → AtPoint x (Main (node_of_formula x.state (Place owner path) (Some f))) (main n)
  own_place owner path (Name t) n is at =
      let shows = place_shows x fits owner path n (Name t) is at in
      let same : n ≡ x.nodes t = cc in
      rw same (own_named t (body_at x.state t) refl)
  own_place owner path f n is at = at_main owner path f n refl is (λ t e. absurd (cc)) at refl

  pub own_at : (owner : ℕ) (path : List Edge) (f : Formula) (n : NodeId) → formula_at x.state owner path ≡ Some f
      → node_at x owner path ≡ Some n → AtPoint x (Main (depth.node_of x.state (Place owner path))) (main n)
  own_at owner path f n is at =
      subst (λ (o : Option Formula). AtPoint x (Main (node_of_formula x.state (Place owner path) o)) (main n)) (sym is)
      (own_place owner path f n is at)

  module _ (grabs : GrabsBind x.state) (out : GraphPoint → Option GraphOutcome) (Y : GraphPoint → Type 0)
      (on : (p q : GraphPoint) → Y p → GraphDepends x.functions x.graph x.died p q → Y q)
      (exact : (p : GraphPoint) → Y p → Exact x.functions x.graph out p) where
    abbrev D : GraphPoint → GraphPoint → Type 0
    D p q = GraphDepends x.functions x.graph x.died p q

    -- a point of the graph that the one point depends on and the other point is
    abbrev Next : GraphPoint → Point → Type 0
    Next P q = (Q : GraphPoint) × AtPoint x q Q × D P Q

    -- the bind's change, for a node that stands in its scope
    gate_next : (owner : ℕ) (path bind : List Edge) (f : Formula) (n : NodeId) (part : Part) (q : Point)
        → formula_at x.state owner path ≡ Some f → IsOther f → node_at x owner path ≡ Some n
        → bind_around 0 path ≡ Some bind → q ≡ Change (Place owner bind) → Next (record { node = n; part = part }) q
    gate_next owner path bind f n part q is form at is_around q_is =
        let row = other_row x (scope_at x owner path) (around x owner path) n f form (place_shows x fits owner path n f is at) in
        let b = bind_round x owner path bind f n at is is_around in
        let scope : row.0.scope ≡ Some b.0 = row.3 ∙ scope_is x owner path bind is_around ∙ b.3 in
        (change b.0, at_change owner bind (Bind b.1 b.2) _ b.0 q_is b.4 refl b.3 refl, gate row.2 scope refl)

    bound_next : (owner : ℕ) (path : List Edge) (k : ℕ) (n : NodeId) (q : Point)
        → formula_at x.state owner path ≡ Some (Bound k) → node_at x owner path ≡ Some n
        → Among q (change_of owner (bind_around k path)) → Next (main n) q
    bound_next owner path k n q is at among = go (place_shows x fits owner path n (Bound k) is at)
      where
        go : Shows x (Built (scope_at x owner path)) (around x owner path) (term.Ref n) (Bound k) → Next (main n) q
        go (c, e, op) =
            let v = variable_at x owner path (Bound k) n k c is at e in
            let o = opened x.graph (Some v.node) n (term.Const (graph_value x.nodes c.value)) (rw v.is_mode at op) in
            let q_is : q ≡ Change (Place owner v.bind) = one (rw v.is_around at among) in (
              change v.node,
              at_change owner v.bind (Bind v.left v.body) _ v.node q_is v.is_formula refl v.is_node refl,
              gate o.1 o.2 refl,
            )
          where
            one : {bind : List Edge} → Among q (Change (Place owner bind) ∷ []) → q ≡ Change (Place owner bind)
            one (inl e) = e
            one (inr none) = absurd none

    to_kid : (n m : NodeId) (r : Row) → x.graph.row n ≡ Some r → Y (main n)
        → Among (main m) (fixed_reads x.graph n r.def MainPart) → D (main n) (main m)
    to_kid n m r row y among = fixed row ((exact (main n) y r row).0) among

    argument_next : (owner : ℕ) (path : List Edge) (fs : Formulas) (f : Formula) (n : NodeId) (r : Row)
        (kids : List NodeId) (q : Point) → formula_at x.state owner path ≡ Some f
        → ((j : ℕ) → part_at f (Argument j) ≡ argument_at fs j)
        → node_at x owner path ≡ Some n → x.graph.row n ≡ Some r → Y (main n)
        → ((i : ℕ) → part_node r.def (Argument i) ≡ slice_get kids i)
        → fixed_reads x.graph n r.def MainPart ≡ map main kids
        → ShowsAll x (Built (scope_at x owner path)) (around x owner path) (term.refs kids) fs
        → Among q (mains x.state (argument_places owner path 0 fs)) → Next (main n) q
    argument_next owner path fs f n r kids q is parts_are at row y parts reads shows among =
        let item = mains_among x.state (argument_places owner path 0 fs) q among in
        let place = among_first owner path fs item.0 item.1 in
        let kid = kid_there x (Built (scope_at x owner path)) (around x owner path) kids fs place.0 place.1 shows place.3 in
        let node : node_at x owner (Argument place.0 ∷ path) ≡ Some kid.0 = rw (at, row, parts place.0) kid.1 in
        let part = part_is x.state owner path f (Argument place.0) is ∙ parts_are place.0 ∙ place.3 in
        let own = own_at owner (Argument place.0 ∷ path) place.1 kid.0 part node in
        let q_is : q ≡ Main (depth.node_of x.state (Place owner (Argument place.0 ∷ path))) =
        item.2 ∙ ap (λ i. Main (depth.node_of x.state i)) place.2 in
        (main kid.0, same_point x q _ (main kid.0) q_is own, to_kid n kid.0 r row y (rw reads (kid_among kids place.0 kid.0 kid.1)))

    one_main : (i : Item) (q : Point) → Among q (mains x.state (i ∷ [])) → q ≡ Main (depth.node_of x.state i)
    one_main i q (inl e) = e
    one_main i q (inr none) = absurd none

    to_change : (n s : NodeId) (r : Row) → x.graph.row n ≡ Some r → Y (main n) → subject_of r.def ≡ Some s
        → D (main n) (change n)
    to_change n s r row y sub = fixed row ((exact (main n) y r row).0) (rw sub (inl refl))

    to_subject : (n s : NodeId) (r : Row) → x.graph.row n ≡ Some r → Y (change n) → subject_of r.def ≡ Some s
        → D (change n) (main s)
    to_subject n s r row y sub = fixed row ((exact (change n) y r row).0) (rw sub (inl refl))

    to_right : (n s m : NodeId) (r : Row) (o : GraphOutcome) → x.graph.row n ≡ Some r → Y (main n)
        → subject_of r.def ≡ Some s → NodeGives x.functions x.graph s o → right_of x.graph n r.def o ≡ Some m
        → D (main n) (main m)
    to_right n s m r o row y sub gives is =
        right row ((exact (main n) y r row).0) refl sub gives (rw is (inl refl)) refl

    -- the subject's outcome, as the item gives it
    subject : (owner : ℕ) (path : List Edge) (f g : Formula) (edge : Edge) (n s : NodeId) (r : Row) (d : ℕ)
        (p : Outcome) → formula_at x.state owner path ≡ Some f → part_at f edge ≡ Some g
        → node_at x owner (edge ∷ path) ≡ Some s → scope_at x owner (edge ∷ path) ≡ r.scope
        → environment (edge ∷ path) ≡ environment path → x.graph.row n ≡ Some r → subject_of r.def ≡ Some s
        → Y (change n) → value_at x.meanings x.state d (environment path) g ≡ Some p
        → (o : GraphOutcome) × NodeGives x.functions x.graph s o × (o ≡ graph_outcome x.nodes p)
    subject = subject_has x fits grabs x.died out Y on exact (λ n b e. e)

    side_next : (owner : ℕ) (path : List Edge) (test a b : Formula) (n : NodeId) (r : Row) (t y z : NodeId) (d : ℕ)
        (o : Option Outcome) (q : Point) → node_at x owner path ≡ Some n
        → formula_at x.state owner path ≡ Some (If test a b) → x.graph.row n ≡ Some r → r.scope ≡ scope_at x owner path
        → r.def ≡ graph.If t y z → Y (main n) → Y (change n)
        → value_at x.meanings x.state d (environment path) test ≡ o
        → Among q (mains x.state (chosen_place owner path o)) → Next (main n) q
    side_next owner path test a b n r t y z d (Some (Val (script_value.Bool true))) q at is row scope def m c gives among =
        let g = subject owner path (If test a b) test Test n t r d (Val (script_value.Bool true)) is refl
        (rw (at, row, def) refl) (sym scope) refl row (rw def refl) c gives in
        let own = own_at owner (Then ∷ path) a y (part_is x.state owner path (If test a b) Then is) (rw (at, row, def) refl) in (
          main y,
          same_point x q _ _ (one_main (Place owner (Then ∷ path)) q among) own,
          to_right n t y r g.0 row m (rw def refl) g.1 (right_then x n t y z r.def g.0 def g.2),
        )
    side_next owner path test a b n r t y z d (Some (Val (script_value.Bool false))) q at is row scope def m c gives among =
        let g = subject owner path (If test a b) test Test n t r d (Val (script_value.Bool false)) is refl
        (rw (at, row, def) refl) (sym scope) refl row (rw def refl) c gives in
        let own = own_at owner (Else ∷ path) b z (part_is x.state owner path (If test a b) Else is) (rw (at, row, def) refl) in (
          main z,
          same_point x q _ _ (one_main (Place owner (Else ∷ path)) q among) own,
          to_right n t z r g.0 row m (rw def refl) g.1 (right_else x n t y z r.def g.0 def g.2),
        )
    side_next owner path test a b n r t y z d o q at is row scope def m c gives none = absurd none

    named_next : (owner : ℕ) (path : List Edge) (child : Formula) (n : NodeId) (r : Row) (k : NodeId) (d : ℕ)
        (o : Option Outcome) (q : Point) → node_at x owner path ≡ Some n
        → formula_at x.state owner path ≡ Some (Join child) → x.graph.row n ≡ Some r → r.scope ≡ scope_at x owner path
        → r.def ≡ graph.Join k → Y (main n) → Y (change n)
        → value_at x.meanings x.state d (environment path) child ≡ o
        → Among q (mains x.state (named_place o)) → Next (main n) q
    named_next owner path child n r k d (Some (Val (script_value.Reference t b))) q at is row scope def m c gives among =
        let g = subject owner path (Join child) child Child n k r d (Val (script_value.Reference t b)) is refl
        (rw (at, row, def) refl) (sym scope) refl row (rw def refl) c gives in (
          main (x.nodes t),
          same_point x q _ _ (one_main (Named t) q among) (own_named t (body_at x.state t) refl),
          to_right n k (x.nodes t) r g.0 row m (rw def refl) g.1 (right_named x n k r.def g.0 t b def g.2),
        )
    named_next owner path child n r k d o q at is row scope def m c gives none = absurd none

    inside_next : (owner : ℕ) (path : List Edge) (left body : Formula) (n : NodeId) (r : Row) (l : NodeId) (h : FnRef)
        (caps : List NodeId) (d : ℕ) (o : Option Outcome) (q : Point) → node_at x owner path ≡ Some n
        → formula_at x.state owner path ≡ Some (Bind left body) → x.graph.row n ≡ Some r
        → r.scope ≡ scope_at x owner path → r.def ≡ graph.Bind l h caps → Y (main n) → Y (change n)
        → value_at x.meanings x.state d (environment path) left ≡ o
        → Among q (mains x.state (inside_place owner path o)) → Next (main n) q
    inside_next owner path left body n r l h caps d None q at is row scope def m c gives none = absurd none
    inside_next owner path left body n r l h caps d (Some Invalid) q at is row scope def m c gives none = absurd none
    inside_next owner path left body n r l h caps d (Some (Val v)) q at is row scope def m c gives among =
        let g = subject owner path (Bind left body) left Left n l r d (Val v) is refl (rw (at, row, def) refl)
        (sym scope) refl row (rw def refl) c gives in
        let run = (exact (change n) c r row).1 l (rw def refl) in
        let built = bind_built x n l h caps r.def run.0 def run.3 in
        let same : run.0 ≡ g.0 = engine_one x.functions x.graph (Of (term.Ref l)) run.0 g.0 run.2 g.1 in
        let for_v : built.0.outcome ≡ outcome.Val (graph_value x.nodes v) = built.2 ∙ same ∙ g.2 in
        let root = built.3.unfolds (graph_value x.nodes v) for_v in
        by_root g.0 g.1 g.2 built.0 built.1 for_v root.0 root.1
      where
        same_v : same_outcome (outcome.Val (graph_value x.nodes v)) (outcome.Val (graph_value x.nodes v)) ≡ true
        same_v = (outcome_decides (outcome.Val (graph_value x.nodes v)) (outcome.Val (graph_value x.nodes v))).1 refl

        by_root : (o : GraphOutcome) → NodeGives x.functions x.graph l o → o ≡ outcome.Val (graph_value x.nodes v)
            → (w : graph.Built) → x.graph.built n ≡ Some w → w.outcome ≡ outcome.Val (graph_value x.nodes v)
            → (root : NodeId) → w.root ≡ Some root → Next (main n) q
        by_root o gives o_is w built for root is_root =
            let own = own_at owner (Inside v ∷ path) body root (part_is x.state owner path (Bind left body) (Inside v) is)
            (rw (at, built, for, same_v, is_root) refl) in (
              main root,
              same_point x q _ _ (one_main (Place owner (Inside v ∷ path)) q among) own,
              to_right n l root r o row m (rw def refl) gives (rw (def, built, o_is, for, same_v, is_root) refl),
            )

    -- ---- one step

    -- the change of a node of two points, or a point of its right side
    either_next : (owner : ℕ) (path : List Edge) (f : Formula) (points right_points : List Point) (n s : NodeId) (r : Row)
        (q : Point) → formula_at x.state owner path ≡ Some f → change_points x.state owner path f ≡ Some points
        → node_at x owner path ≡ Some n → x.graph.row n ≡ Some r → subject_of r.def ≡ Some s → Y (main n)
        → (Y (change n) → Among q right_points → Next (main n) q)
        → Among q (Change (Place owner path) ∷ right_points) → Next (main n) q
    either_next owner path f points right_points n s r q is two at row sub y next (inl e) =
        (change n, at_change owner path f points n e is two at refl, to_change n s r row y sub)
    either_next owner path f points right_points n s r q is two at row sub y next (inr among) =
        next (on (main n) (change n) y (to_change n s r row y sub)) among

    form_next : (owner : ℕ) (path : List Edge) (d : ℕ) (f : Formula) (n : NodeId) (q : Point)
        → formula_at x.state owner path ≡ Some f → IsOther f → node_at x owner path ≡ Some n → Y (main n)
        → Shows x (Built (scope_at x owner path)) (around x owner path) (term.Ref n) f
        → Among q (main_points x.state (value_at x.meanings x.state d (environment path)) owner path f) → Next (main n) q
    form_next owner path d (Name t) n q is form at y shows among = absurd form
    form_next owner path d (Bound k) n q is form at y shows among = absurd form
    form_next owner path d (Apply g fs) n q is form at y (ts, op, all) among =
        let o = opened x.graph (scope_at x owner path) n (term.Map g ts) op in
        let kids = plain_map o.0.def g ts o.3 in
        argument_next owner path fs (Apply g fs) n o.0 kids.0 q is (λ j. refl) at o.1 y
        (λ i. map_parts o.0.def g kids.0 kids.1 i) (map_reads x.graph n o.0.def g kids.0 kids.1) (rw kids.2 at all) among
    form_next owner path d (Fold g v fs) n q is form at y (ts, op, all) among =
        let o = opened x.graph (scope_at x owner path) n (term.Fold g (graph_value x.nodes v) ts) op in
        let kids = plain_fold o.0.def g (graph_value x.nodes v) ts o.3 in
        argument_next owner path fs (Fold g v fs) n o.0 kids.0 q is (λ j. refl) at o.1 y
        (λ i. fold_parts o.0.def g (graph_value x.nodes v) kids.0 kids.1 i)
        (fold_reads x.graph n o.0.def g (graph_value x.nodes v) kids.0 kids.1) (rw kids.2 at all) among
    form_next owner path d (If test a b) n q is form at y (p, s, t, op, st, sa, sb) among =
        let o = opened x.graph (scope_at x owner path) n (term.If p s t) op in
        let k = plain_if o.0.def p s t o.3 in
        if_next o.0 o.1 o.2 k.0 k.1 k.2 k.3
      where
        if_next : (r : Row) → x.graph.row n ≡ Some r → r.scope ≡ scope_at x owner path → (t u z : NodeId)
            → r.def ≡ graph.If t u z → Next (main n) q
        if_next r row scope t u z def =
            either_next owner path (If test a b) _ _ n t r q is refl at row (rw def refl) y
            (λ c in_. side_next owner path test a b n r t u z d (value_at x.meanings x.state d (environment path) test) q at is
            row scope def y c refl in_) among
    form_next owner path d (Join child) n q is form at y (p, op, sc) among =
        let o = opened x.graph (scope_at x owner path) n (term.Join p) op in
        let k = plain_join o.0.def p o.3 in
        join_next o.0 o.1 o.2 k.0 k.1
      where
        join_next : (r : Row) → x.graph.row n ≡ Some r → r.scope ≡ scope_at x owner path → (t : NodeId)
            → r.def ≡ graph.Join t → Next (main n) q
        join_next r row scope t def =
            either_next owner path (Join child) _ _ n t r q is refl at row (rw def refl) y
            (λ c in_. named_next owner path child n r t d (value_at x.meanings x.state d (environment path) child) q at is
            row scope def y c refl in_) among
    form_next owner path d (Bind left body) n q is form at y (p, h, caps, op, sl, inner, fills, writes) among =
        let o = opened x.graph (scope_at x owner path) n (term.Bind p h caps) op in
        let k = plain_bind o.0.def p h caps o.3 in
        bind_next o.0 o.1 o.2 k.0 k.1 k.2
      where
        bind_next : (r : Row) → x.graph.row n ≡ Some r → r.scope ≡ scope_at x owner path → (l : NodeId)
            (caps : List NodeId) → r.def ≡ graph.Bind l h caps → Next (main n) q
        bind_next r row scope l caps def =
            either_next owner path (Bind left body) _ _ n l r q is refl at row (rw def refl) y
            (λ c in_. inside_next owner path left body n r l h caps d
            (value_at x.meanings x.state d (environment path) left) q at is row scope def y c refl in_) among
    form_next owner path d f n q is form at y shows none = absurd none

    scoped_next : (owner : ℕ) (path : List Edge) (d : ℕ) (f : Formula) (n : NodeId) (q : Point) (part : Part) (points : List Point)
        → formula_at x.state owner path ≡ Some f → IsOther f → node_at x owner path ≡ Some n
        → (Among q points → Next (record { node = n; part = part }) q)
        → Among q (change_of owner (bind_around 0 path) ++ chosen (stands_at x.meanings x.state d owner (rounds path)) points [])
        → Next (record { node = n; part = part }) q
    scoped_next owner path d f n q part points is form at next among =
        elim (among_scoped owner (bind_around 0 path) (stands_at x.meanings x.state d owner (rounds path)) points q among) [
          | inl (bind, is_around, q_is) ↦ gate_next owner path bind f n part q is form at is_around q_is
          | inr own ↦ next own
        ]

    main_next : (owner : ℕ) (path : List Edge) (d : ℕ) (f : Formula) (n : NodeId) (q : Point)
        → formula_at x.state owner path ≡ Some f → ((t : ℕ) → f ≡ Name t → path ≡ []) → node_at x owner path ≡ Some n
        → Y (main n)
        → Among q (scoped_points x.meanings x.state d owner path
        (main_points x.state (value_at x.meanings x.state d (environment path)) owner path f) f)
        → Next (main n) q
    main_next owner path d (Bound k) n q is whole at y among = bound_next owner path k n q is at among
    main_next owner path d (Name t) n q is whole at y among =
        elim (among_scoped owner (bind_around 0 path) (stands_at x.meanings x.state d owner (rounds path)) [] q among) [
          | inl (bind, is_around, q_is) ↦ absurd (let top = whole t refl in let e = rw top at is_around in cc)
          | inr none ↦ absurd none
        ]
    main_next owner path d (Literal v) n q is whole at y among =
        scoped_next owner path d (Literal v) n q MainPart [] is tt at (λ none. absurd none) among
    main_next owner path d (Apply g fs) n q is whole at y among =
        scoped_next owner path d (Apply g fs) n q MainPart _ is tt at
        (λ in_. form_next owner path d (Apply g fs) n q is tt at y (place_shows x fits owner path n (Apply g fs) is at) in_) among
    main_next owner path d (Fold g v fs) n q is whole at y among =
        scoped_next owner path d (Fold g v fs) n q MainPart _ is tt at
        (λ in_. form_next owner path d (Fold g v fs) n q is tt at y (place_shows x fits owner path n (Fold g v fs) is at) in_) among
    main_next owner path d (If t a b) n q is whole at y among =
        scoped_next owner path d (If t a b) n q MainPart _ is tt at
        (λ in_. form_next owner path d (If t a b) n q is tt at y (place_shows x fits owner path n (If t a b) is at) in_) among
    main_next owner path d (Join c) n q is whole at y among =
        scoped_next owner path d (Join c) n q MainPart _ is tt at
        (λ in_. form_next owner path d (Join c) n q is tt at y (place_shows x fits owner path n (Join c) is at) in_) among
    main_next owner path d (Bind l b) n q is whole at y among =
        scoped_next owner path d (Bind l b) n q MainPart _ is tt at
        (λ in_. form_next owner path d (Bind l b) n q is tt at y (place_shows x fits owner path n (Bind l b) is at) in_) among
    main_next owner path d (At t) n q is whole at y among =
        scoped_next owner path d (At t) n q MainPart [] is tt at (λ none. absurd none) among
    main_next owner path d (Steps v ss) n q is whole at y among =
        scoped_next owner path d (Steps v ss) n q MainPart [] is tt at (λ none. absurd none) among
    main_next owner path d Now n q is whole at y among =
        scoped_next owner path d Now n q MainPart [] is tt at (λ none. absurd none) among

    -- the change's subject
    change_next : (owner : ℕ) (path : List Edge) (d : ℕ) (f : Formula) (points : List Point) (n : NodeId) (q : Point)
        → formula_at x.state owner path ≡ Some f → change_points x.state owner path f ≡ Some points
        → node_at x owner path ≡ Some n → Y (change n)
        → Among q (scoped_points x.meanings x.state d owner path points f) → Next (change n) q
    change_next owner path d (If test a b) points n q is two at y among =
        let same : mains x.state (Place owner (Test ∷ path) ∷ []) ≡ points = cc in
        go (place_shows x fits owner path n (If test a b) is at)
        (subst (λ (ps : List Point). Among q (scoped_points x.meanings x.state d owner path ps (If test a b))) (sym same) among)
      where
        go : Shows x (Built (scope_at x owner path)) (around x owner path) (term.Ref n) (If test a b)
            → Among q (scoped_points x.meanings x.state d owner path (mains x.state (Place owner (Test ∷ path) ∷ [])) (If test a b))
            → Next (change n) q
        go (p, s, t, op, st, sa, sb) among =
            let o = opened x.graph (scope_at x owner path) n (term.If p s t) op in
            let k = plain_if o.0.def p s t o.3 in
            by_row o.0 o.1 k.0 k.1 k.2 k.3 among
          where
            by_row : (r : Row) → x.graph.row n ≡ Some r → (t u z : NodeId) → r.def ≡ graph.If t u z
                → Among q (scoped_points x.meanings x.state d owner path (mains x.state (Place owner (Test ∷ path) ∷ [])) (If test a b)) → Next (change n) q
            by_row r row t u z def among =
                let node : node_at x owner (Test ∷ path) ≡ Some t = rw (at, row, def) refl in
                let own = own_at owner (Test ∷ path) test t (part_is x.state owner path (If test a b) Test is) node in
                scoped_next owner path d (If test a b) n q _ _ is tt at
                (λ in_. (
                  main t,
                  same_point x q _ (main t) (one_main (Place owner (Test ∷ path)) q in_) own,
                  to_subject n t r row y (if_subject r.def t u z def),
                )) among
    change_next owner path d (Join child) points n q is two at y among =
        let same : mains x.state (Place owner (Child ∷ path) ∷ []) ≡ points = cc in
        go (place_shows x fits owner path n (Join child) is at)
        (subst (λ (ps : List Point). Among q (scoped_points x.meanings x.state d owner path ps (Join child))) (sym same) among)
      where
        go : Shows x (Built (scope_at x owner path)) (around x owner path) (term.Ref n) (Join child)
            → Among q (scoped_points x.meanings x.state d owner path (mains x.state (Place owner (Child ∷ path) ∷ [])) (Join child))
            → Next (change n) q
        go (p, op, sc) among =
            let o = opened x.graph (scope_at x owner path) n (term.Join p) op in
            let k = plain_join o.0.def p o.3 in
            by_row o.0 o.1 k.0 k.1 among
          where
            by_row : (r : Row) → x.graph.row n ≡ Some r → (t : NodeId) → r.def ≡ graph.Join t
                → Among q (scoped_points x.meanings x.state d owner path (mains x.state (Place owner (Child ∷ path) ∷ [])) (Join child)) → Next (change n) q
            by_row r row t def among =
                let node : node_at x owner (Child ∷ path) ≡ Some t = rw (at, row, def) refl in
                let own = own_at owner (Child ∷ path) child t (part_is x.state owner path (Join child) Child is) node in
                scoped_next owner path d (Join child) n q _ _ is tt at
                (λ in_. (
                  main t,
                  same_point x q _ (main t) (one_main (Place owner (Child ∷ path)) q in_) own,
                  to_subject n t r row y (join_subject r.def t def),
                )) among
    change_next owner path d (Bind left body) points n q is two at y among =
        let same : mains x.state (Place owner (Left ∷ path) ∷ []) ≡ points = cc in
        go (place_shows x fits owner path n (Bind left body) is at)
        (subst (λ (ps : List Point). Among q (scoped_points x.meanings x.state d owner path ps (Bind left body))) (sym same) among)
      where
        go : Shows x (Built (scope_at x owner path)) (around x owner path) (term.Ref n) (Bind left body)
            → Among q (scoped_points x.meanings x.state d owner path (mains x.state (Place owner (Left ∷ path) ∷ [])) (Bind left body))
            → Next (change n) q
        go (p, h, caps, op, sl, inner, fills, writes) among =
            let o = opened x.graph (scope_at x owner path) n (term.Bind p h caps) op in
            let k = plain_bind o.0.def p h caps o.3 in
            by_row h o.0 o.1 k.0 k.1 k.2 among
          where
            by_row : (h : FnRef) (r : Row) → x.graph.row n ≡ Some r → (t : NodeId) (caps : List NodeId) → r.def ≡ graph.Bind t h caps
                → Among q (scoped_points x.meanings x.state d owner path (mains x.state (Place owner (Left ∷ path) ∷ [])) (Bind left body)) → Next (change n) q
            by_row h r row t caps def among =
                let node : node_at x owner (Left ∷ path) ≡ Some t = rw (at, row, def) refl in
                let own = own_at owner (Left ∷ path) left t (part_is x.state owner path (Bind left body) Left is) node in
                scoped_next owner path d (Bind left body) n q _ _ is tt at
                (λ in_. (
                  main t,
                  same_point x q _ (main t) (one_main (Place owner (Left ∷ path)) q in_) own,
                  to_subject n t r row y (bind_subject r.def t h caps def),
                )) among
    change_next owner path d f points n q is two at y among = absurd (cc)

    name_next : (k : ℕ) (b : Option Body) (q : Point) → body_at x.state k ≡ b → Declares x (x.nodes k) b
        → Y (main (x.nodes k)) → Among q (body_points x.state k b) → Next (main (x.nodes k)) q
    name_next k (Some (Freeze child p None)) q is (kid, top, shows, frozen) y among =
        let node : node_at x k [] ≡ Some kid = rw (is, top.1, top.3) refl in
        let formula : formula_at x.state k [] ≡ Some child = rw is refl in (
          main kid,
          same_point x q _ _ (one_main (Place k []) q among) (own_at k [] child kid formula node),
          to_kid (x.nodes k) kid top.0 top.1 y (rw (freeze_reads x.graph (x.nodes k) kid top.0.def p top.3 frozen) (inl refl)),
        )
    name_next k (Some (Expert g first links stale)) q is (kids, top, lists) y among =
        let item = mains_among x.state (map (λ m. Named m) links) q among in
        let name = is_named links item.0 item.1 in
        let listed = rw name.1 at item.1 in
        let q_is : q ≡ Main (depth.node_of x.state (Named name.0)) =
        item.2 ∙ ap (λ i. Main (depth.node_of x.state i)) name.1 in (
          main (x.nodes name.0),
          same_point x q _ (main (x.nodes name.0)) q_is (own_named name.0 (body_at x.state name.0) refl),
          to_kid (x.nodes k) (x.nodes name.0) top.0 top.1 y
              (rw (expert_reads x.graph (x.nodes k) top.0.def g (graph_value x.nodes first) kids
              (map x.nodes links) top.3 lists) (link_among x.nodes links name.0 listed)),
        )
    name_next k b q is declares y none = absurd none

    -- ---- a grab that died

    both_false : (b : std.Bool) → b ≡ false → (b && true) ≡ false
    both_false true e = absurd (cc)
    both_false false e = refl

    lost_stands : (k b : ℕ) (v : Value) (d : ℕ) → body_at x.state k ≡ Some (Grab b v true) → Lost x (x.nodes k) b v
        → stands_at x.meanings x.state d b (rounds (Inside v ∷ [])) ≡ false
    lost_stands k b v d is (p, gone, died, other, gives, elsewhere) =
        let g = fits.grabbed k b v is in by_left g.left g.body g.kept g.is_bind
      where
        by_test : (left body : Formula) (kept : script.Kept) → body_at x.state b ≡ Some (Computed (Bind left body) kept)
            → (w : Value) → value_at x.meanings x.state d [] left ≡ Some (Val w) → (t : std.Bool) → same_value v w ≡ t
            → same_value v w ≡ false
        by_test left body kept bind_is w at true test =
            let same : v ≡ w = same_values v w test in
            let p_is : p ≡ Val w = one_outcome x.meanings x.state [] left p (Val w) (gives left body kept bind_is) (d, at) in
            absurd (other (rw same p_is))
        by_test left body kept bind_is w at false test = test

        by_left : (left body : Formula) (kept : script.Kept) → body_at x.state b ≡ Some (Computed (Bind left body) kept)
            → stands_at x.meanings x.state d b (rounds (Inside v ∷ [])) ≡ false
        by_left left body kept bind_is = go (outcome_at x.meanings x.state d (Place b (Left ∷ []))) refl
          where
            go : (o : Option Outcome) → outcome_at x.meanings x.state d (Place b (Left ∷ [])) ≡ o
                → (elim o [ Some (Val w) ↦ same_value v w && true | _ ↦ false ]) ≡ false
            go None e = refl
            go (Some Invalid) e = refl
            go (Some (Val w)) e =
                both_false (same_value v w) (by_test left body kept bind_is w (rw bind_is at e) (same_value v w) refl)

    lost_next : (k b : ℕ) (v : Value) (q : Point) → body_at x.state k ≡ Some (Grab b v true) → Lost x (x.nodes k) b v
        → q ≡ Change (Place b []) → Next (main (x.nodes k)) q
    lost_next k b v q is (p, gone, died, other, gives, elsewhere) q_is =
        let g = fits.grabbed k b v is in (
          change (x.nodes b),
          at_change b [] (Bind g.left g.body) _ (x.nodes b) q_is (rw g.is_bind refl) refl (rw g.is_bind refl) refl,
          ghost gone died refl,
        )

    lost_scoped : (k b : ℕ) (v : Value) (d : ℕ) (f : Formula) (points : List Point) (q : Point)
        → body_at x.state k ≡ Some (Grab b v true) → Lost x (x.nodes k) b v
        → Among q (scoped_points x.meanings x.state d b (Inside v ∷ []) points f) → Next (main (x.nodes k)) q
    lost_scoped k b v d f points q is lost among = by_form f among
      where
        one : Among q (Change (Place b []) ∷ []) → Next (main (x.nodes k)) q
        one (inl e) = lost_next k b v q is lost e
        one (inr none) = absurd none

        rest : Among q (change_of b (Some []) ++ chosen (stands_at x.meanings x.state d b (rounds (Inside v ∷ []))) points [])
            → Next (main (x.nodes k)) q
        rest among =
            one (subst (λ (t : std.Bool). Among q (change_of b (Some []) ++ chosen t points []))
            (lost_stands k b v d is lost) among)

        outer : (j : ℕ) → bind_around j [] ≡ None
        outer zero = refl
        outer (suc j) = refl

        by_form : (f : Formula) → Among q (scoped_points x.meanings x.state d b (Inside v ∷ []) points f)
            → Next (main (x.nodes k)) q
        by_form (Bound zero) among = one among
        by_form (Bound (suc j)) among = absurd (subst (λ (o : Option (List Edge)). Among q (change_of b o)) (outer j) among)
        by_form (Literal u) among = rest among
        by_form (Name t) among = rest among
        by_form (Apply g fs) among = rest among
        by_form (Fold g u fs) among = rest among
        by_form (If t y z) among = rest among
        by_form (Join c) among = rest among
        by_form (Bind l y) among = rest among
        by_form (At t) among = rest among
        by_form (Steps u ss) among = rest among
        by_form Now among = rest among

    at_place_main : (owner : ℕ) (path : List Edge) (d : ℕ) (f : Formula) (q : Point) → formula_at x.state owner path ≡ Some f
        → Among q (points_at x.meanings x.state d (Main (Place owner path)))
        → Among q (scoped_points x.meanings x.state d owner path
        (main_points x.state (value_at x.meanings x.state d (environment path)) owner path f) f)
    at_place_main owner path d f q is among =
        subst (λ (o : Option Formula). Among q (elim o [
          | None ↦ []
          | Some f ↦ scoped_points x.meanings x.state d owner path
              (main_points x.state (value_at x.meanings x.state d (environment path)) owner path f) f
        ])) is among

    at_place_change : (owner : ℕ) (path : List Edge) (d : ℕ) (f : Formula) (q : Point)
        → formula_at x.state owner path ≡ Some f
        → Among q (points_at x.meanings x.state d (Change (Place owner path)))
        → (points : List Point) × (change_points x.state owner path f ≡ Some points)
        × Among q (scoped_points x.meanings x.state d owner path points f)
    at_place_change owner path d f q is among =
        go (change_points x.state owner path f) refl (subst (λ (o : Option Formula). Among q (elim o [
          | None ↦ []
          | Some f ↦ elim (change_points x.state owner path f) [
            | None ↦ []
            | Some points ↦ scoped_points x.meanings x.state d owner path points f
          ]
        ])) is among)
      where
        go : (c : Option (List Point)) → change_points x.state owner path f ≡ c → Among q (elim c [
          | None ↦ []
          | Some points ↦ scoped_points x.meanings x.state d owner path points f
        ])
            → (points : List Point) × (change_points x.state owner path f ≡ Some points)
            × Among q (scoped_points x.meanings x.state d owner path points f)
        go None two none = absurd none
        go (Some points) two among = (points, two, among)

    -- what a point depends on, its point of the graph does
    pub point_next : (p q : Point) (P : GraphPoint) → AtPoint x p P → Y P → Depends x.meanings x.state p q → Next P q
    point_next p q P (at_name k p_is P_is) y (d, among) =
        rw P_is (name_next k (body_at x.state k) q refl (fits.declared k) (rw P_is at y) (rw p_is at among))
    point_next p q P (at_main owner path f n p_is is whole at P_is) y (d, among) =
        rw P_is (main_next owner path d f n q is whole at (rw P_is at y)
        (at_place_main owner path d f q is (rw p_is at among)))
    point_next p q P (at_change owner path f points n p_is is two at P_is) y (d, among) =
        let c = at_place_change owner path d f q is (rw p_is at among) in
        rw P_is (change_next owner path d f c.0 n q is c.1 at (rw P_is at y) c.2)
    point_next p q P (at_lost k b v (inl p_is) is lost P_is) y (d, among) =
        let g = fits.grabbed k b v is in
        let body : formula_at x.state b (Inside v ∷ []) ≡ Some g.body = rw g.is_bind refl in
        rw P_is (lost_scoped k b v d g.body _ q is lost (at_place_main b (Inside v ∷ []) d g.body q body (rw p_is at among)))
    point_next p q P (at_lost k b v (inr p_is) is lost P_is) y (d, among) =
        let g = fits.grabbed k b v is in
        let body : formula_at x.state b (Inside v ∷ []) ≡ Some g.body = rw g.is_bind refl in
        let c = at_place_change b (Inside v ∷ []) d g.body q body (rw p_is at among) in
        rw P_is (lost_scoped k b v d g.body c.0 q is lost c.2)

    -- ---- walks

    pub walk : (p : Point) (P : GraphPoint) (points : List Point) → AtPoint x p P → Y P
        → IsWalk x.meanings x.state p points
        → (rest : List GraphPoint) × (length rest ≡ length points) × IsGraphWalk D (P ∷ rest)
    walk p P [] at y w = ([], refl, tt)
    walk p P (q ∷ points) at y w =
        let s = point_next p q P at y w.0 in
        let more = walk q s.0 points s.1 (on P s.0 y s.2) w.1 in
        (s.0 ∷ more.0, ap (λ k. suc k) more.1, (s.2, more.2))

    -- a place of two points whose main is needed has its change needed
    two_points : (owner : ℕ) (path : List Edge) (f : Formula) (points : List Point) (n : NodeId)
        → formula_at x.state owner path ≡ Some f → change_points x.state owner path f ≡ Some points
        → node_at x owner path ≡ Some n → Y (main n) → Y (change n)
    two_points owner path (If test a b) points n is two at y = go (place_shows x fits owner path n (If test a b) is at)
      where
        go : Shows x (Built (scope_at x owner path)) (around x owner path) (term.Ref n) (If test a b) → Y (change n)
        go (p, s, t, op, st, sa, sb) =
            let o = opened x.graph (scope_at x owner path) n (term.If p s t) op in
            let k = plain_if o.0.def p s t o.3 in on (main n) (change n) y (to_change n k.0 o.0 o.1 y (if_subject o.0.def k.0 k.1 k.2 k.3))
    two_points owner path (Join child) points n is two at y = go (place_shows x fits owner path n (Join child) is at)
      where
        go : Shows x (Built (scope_at x owner path)) (around x owner path) (term.Ref n) (Join child) → Y (change n)
        go (p, op, sc) =
            let o = opened x.graph (scope_at x owner path) n (term.Join p) op in
            let k = plain_join o.0.def p o.3 in on (main n) (change n) y (to_change n k.0 o.0 o.1 y (join_subject o.0.def k.0 k.1))
    two_points owner path (Bind left body) points n is two at y = go (place_shows x fits owner path n (Bind left body) is at)
      where
        go : Shows x (Built (scope_at x owner path)) (around x owner path) (term.Ref n) (Bind left body) → Y (change n)
        go (p, h, caps, op, sl, inner, fills, writes) =
            let o = opened x.graph (scope_at x owner path) n (term.Bind p h caps) op in
            let k = plain_bind o.0.def p h caps o.3 in on (main n) (change n) y (to_change n k.0 o.0 o.1 y (bind_subject o.0.def k.0 h k.1 k.2))
    two_points owner path f points n is two at y = absurd (cc)

    -- a point of an item whose main is so is a point of the graph
    begins : (i : Item) (P : GraphPoint) (p : Point) → AtPoint x (Main i) P → Y P → Among p (points_of x.state i)
        → (Q : GraphPoint) × AtPoint x p Q × Y Q
    begins (Named k) P p at y (inl e) = (P, rw e at, y)
    begins (Named k) P p at y (inr none) = absurd none
    begins (Place owner path) P p at y among = go (and_then (formula_at x.state owner path) (change_points x.state owner path)) refl among
      where
        by_change : (points : List Point) → and_then (formula_at x.state owner path) (change_points x.state owner path) ≡ Some points
            → p ≡ Change (Place owner path) → AtPoint x (Main (Place owner path)) P → Y P
            → (Q : GraphPoint) × AtPoint x p Q × Y Q
        by_change points two e (at_name k p_is P_is) y = absurd (cc)
        by_change points two e (at_main o q f n p_is is whole at P_is) y =
            let owners : owner ≡ o = cc in
            let paths : path ≡ q = cc in
            let c = then_some (formula_at x.state owner path) (change_points x.state owner path) points two in
            let at' : node_at x owner path ≡ Some n =
            subst (λ (k : ℕ). node_at x k path ≡ Some n) (sym owners) (subst (λ (r : List Edge). node_at x o r ≡ Some n) (sym paths) at) in (
              change n,
              at_change owner path c.0 points n e c.1 c.2 at' refl,
              two_points owner path c.0 points n c.1 c.2 at' (rw P_is at y),
            )
        by_change points two e (at_change o q f ps n p_is is t at P_is) y = absurd (cc)
        by_change points two e (at_lost k b v (inl p_is) is lost P_is) y =
            let item : Place owner path ≡ Place b (Inside v ∷ []) = cc in
            (P, at_lost k b v (inr (e ∙ ap (λ (i : Item). Change i) item)) is lost P_is, y)
        by_change points two e (at_lost k b v (inr p_is) is lost P_is) y = absurd (cc)

        go : (c : Option (List Point)) → and_then (formula_at x.state owner path) (change_points x.state owner path) ≡ c
            → Among p (elim c [
              | None ↦ Main (Place owner path) ∷ []
              | Some points ↦ Main (Place owner path) ∷ Change (Place owner path) ∷ []
            ]) → (Q : GraphPoint) × AtPoint x p Q × Y Q
        go None two (inl e) = (P, rw e at, y)
        go None two (inr none) = absurd none
        go (Some points) two (inl e) = (P, rw e at, y)
        go (Some points) two (inr (inl e)) = by_change points two e at y
        go (Some points) two (inr (inr none)) = absurd none

    -- an item that has a needed node and is too deep has a needed point that begins a long walk
    pub deep_is_deep : (i : Item) (P : GraphPoint) → AtPoint x (Main (depth.node_of x.state i)) P → Y P
        → TooDeep x.meanings x.state i → (Q : GraphPoint) × Y Q × IsDeep D Q
    deep_is_deep i P at y deep =
        let first = begins (depth.node_of x.state i) P deep.first at y deep.begins in
        let w = walk deep.first first.0 deep.rest first.1 first.2 deep.walk in
        (first.0, first.2, (w.0, w.1 ∙ deep.long, w.2))

pub needed_is_shallow : NeededIsShallow
needed_is_shallow x fits valid observed have out exact shallow i needed deep =
    let grabs = valid_grabs x.meanings x.state valid in
    let found = by_item i needed grabs in
    let long = deep_is_deep x fits grabs out (λ p. GraphNeeded x.functions x.graph x.died observed p)
    (needed_more x.functions x.graph x.died observed) exact i (main found.0) found.1 found.2 deep in
    shallow long.0 long.1 long.2
  where
    by_item : (i : Item) → Needed x.meanings x.state i → GrabsBind x.state
        → (n : NodeId) × AtPoint x (Main (depth.node_of x.state i)) (main n)
        × GraphNeeded x.functions x.graph x.died observed (main n)
    by_item (Named k) is grabs =
        (x.nodes k, own_named x fits k (body_at x.state k) refl, needed_has_points x fits grabs x.died (λ n b e. e) out observed have exact (Named k) is)
    by_item (Place owner path) is grabs =
        let has = (needed_has_points x fits grabs x.died (λ n b e. e) out observed have exact (Place owner path) is).0 in
        let there = (needed_closed x grabs).there owner path is in
        (has.0, own_at x fits owner path there.0 has.0 there.1 has.1, has.2)

-- what is needed gives an outcome, and what does is on no cycle
pub needed_is_on_no_cycle : NeededIsOnNoCycle
needed_is_on_no_cycle x fits grabs observed have out exact n is cycle =
    let need = needed_has_points x fits grabs x.died (λ n b e. e) out observed have exact (Named n) is in
    let seen = main_sees x.functions x.graph out (x.nodes n) (exact (main (x.nodes n)) need) in
    let gives = name_agrees x fits n seen.0 seen.2 in
    given_is_on_no_cycle x.meanings x.state n gives.0 gives.2 cycle
