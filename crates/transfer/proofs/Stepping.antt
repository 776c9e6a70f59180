-- What a covered point depends on is covered.
use Rattle.std.proofs.Common.{◌≡◌, ◌⊎◌, inl, inr, ℕ, zero, suc, ◌+◌, true, false, List, [], ◌∷◌, map, Option, None, Some, refl, sym, ap, ◌∙◌, subst, arith, cond, slice_get}
use Rattle.std.specs.Prelude as std
use Rattle.inc_value.specs.declared.function.FnRef.{FnRef}
use Rattle.inc_value.specs.declared.node.NodeId.{NodeId}
use Rattle.inc_value.specs.declared.node.Part.TheVariants.{Change, Main}
use Rattle.inc_value.specs.declared.node.Point.{Point}
use Rattle.inc_value.specs.declared.outcome.Outcome.{Outcome as GraphOutcome}
use Rattle.inc_value.specs.declared.outcome.Outcome.TheVariants as outcome
use Rattle.inc_value.specs.declared.value.Value.{Value as GraphValue}
use Rattle.inc_value.specs.Choice.{Among, Reaches, here, step}
use Rattle.inc_terms.specs.Depend as depend
use Rattle.inc_terms.specs.Depend.{main, change, Depends, subject_of, fixed_reads, root_for, right_of, rights_of, at_most_one}
use Rattle.inc_terms.specs.Evaluate.{NodeGives, Stands}
use Rattle.inc_terms.specs.Graph as graph
use Rattle.inc_terms.specs.Graph.{Graph, Row, Def}
use Rattle.inc_terms.specs.Same.{same_outcome}
use Rattle.inc_terms.specs.Term as term
use Rattle.inc_terms.specs.Term.{Term, Terms, refs}
use Rattle.inc_terms.proofs.Same.{outcome_decides}
use Rattle.script_model.specs.Values as script_value
use Rattle.script_model.specs.Values.{Value, Outcome, Val, Invalid}
use Rattle.script_model.specs.Formula as script
use Rattle.script_model.specs.Formula.{Formula, Formulas, Body, body_at, Literal, Name, Bound, Apply, Fold, If, Join, Bind, At, Steps, Now, End, More, Variable, Computed, Freeze, After, Every, Expert, Grab}
use Rattle.script_model.specs.Evaluate.{value_at}
use Rattle.script_model.specs.Need.{Edge, Argument, Test, Then, Else, Child, Left, Inside, Item, Named, Place, environment, bind_around, argument_at, part_at, formula_at, outcome_at, ItemGives, argument_places, part_reads}
use Rattle.script_model.proofs.TypedCalls.{part_is}
use Rattle.transfer.specs.Both.{Both, graph_value, graph_outcome}
use Rattle.transfer.specs.Shows.{Mode, Spelled, Built, Binding, plain, Opens, graph_step, Shows, ShowsAll, IsTop, Declares, Fits}
use Rattle.transfer.specs.Items.{part_node, node_at, node_of, around, scope_at, Covers, by_main, by_choice, by_left, by_variable, IsChoice, CoveredBy, Closed, GhostsCovered}
use Rattle.transfer.proofs.Places.{binding, map_parts, fold_parts, plain_map, plain_fold, plain_if, plain_join, plain_bind, opened, part_above, place_shows}
use Rattle.transfer.proofs.Enclosed.{pass, grab_left}
use Rattle.transfer.proofs.Agreement.{grab_facts}
use Rattle.transfer.proofs.Carriers.{Carrier, at_name, at_place, at_grab, live_place, IsForm-body, part_in, carrier, place_agrees}
use Rattle.transfer.specs.Cycles.{IsForm}

-- ---- parts

-- a point of the mains of nodes
pub main_among : (q : Point) (ns : List NodeId) → Among q (map main ns) → (j : ℕ) × (m : NodeId)
    × (slice_get ns j ≡ Some m) × (q ≡ main m)
main_among q [] h = absurd h
main_among q (n ∷ ns) (inl e) = (0, n, refl, e)
main_among q (n ∷ ns) (inr h) = let r = main_among q ns h in (suc r.0, r.1, r.2, r.3)

pub argument_there : (x : Both) (m : Mode) (E : List Binding) (kids : List NodeId) (fs : Formulas) (j : ℕ)
    (n : NodeId)
    → ShowsAll x m E (refs kids) fs → slice_get kids j ≡ Some n
    → (f : Formula) × (argument_at fs j ≡ Some f)
argument_there x m E [] fs j n h e = absurd (cc)
argument_there x m E (c ∷ kids) End j n h e = absurd h
argument_there x m E (c ∷ kids) (More f fs) zero n h e = (f, refl)
argument_there x m E (c ∷ kids) (More f fs) (suc j) n h e = argument_there x m E kids fs j n h.1 e

argument_among : (owner : ℕ) (path : List Edge) (k : ℕ) (fs : Formulas) (j : ℕ) (f : Formula)
    → argument_at fs j ≡ Some f → Among (Place owner (Argument (k + j) ∷ path)) (argument_places owner path k fs)
argument_among owner path k End j f e = absurd (cc)
argument_among owner path k (More g fs) zero f e =
    let same : k + 0 ≡ k = omega arith in inl (ap (λ i. Place owner (Argument i ∷ path)) same)
argument_among owner path k (More g fs) (suc j) f e =
    let same : suc k + j ≡ k + suc j = omega arith in
    inr (subst (λ (i : ℕ). Among (Place owner (Argument i ∷ path)) (argument_places owner path (suc k) fs)) same
    (argument_among owner path (suc k) fs j f e))

pub argument_first : (owner : ℕ) (path : List Edge) (fs : Formulas) (j : ℕ) (f : Formula) → argument_at fs j ≡ Some f
    → Among (Place owner (Argument j ∷ path)) (argument_places owner path 0 fs)
argument_first owner path fs j f e =
    let same : 0 + j ≡ j = omega arith in
    subst (λ (i : ℕ). Among (Place owner (Argument i ∷ path)) (argument_places owner path 0 fs)) same
    (argument_among owner path 0 fs j f e)

-- the bind that a variable belongs to, or a scope
around_bind : (x : Both) (owner : ℕ) (path : List Edge) (k : ℕ) (b : Binding) (n : NodeId)
    → slice_get (around x owner path) k ≡ Some b → b.mode ≡ Built (Some n)
    → (bind : List Edge) × (bind_around k path ≡ Some bind) × (node_at x owner bind ≡ Some n)
around_bind x owner [] k b n e m = absurd (cc)
around_bind x owner (Inside v ∷ path) zero b n e m = (path, refl, mode_is (node_at x owner path) e)
  where
    mode_is : (s : Option NodeId) → Some (binding v (Built s)) ≡ Some b → s ≡ Some n
    mode_is s e =
        let e' : binding v (Built s) ≡ b = cc in
        let e'' : Built s ≡ Built (Some n) = ap (λ (c : Binding). c.mode) e' ∙ m in cc
around_bind x owner (Inside v ∷ path) (suc k) b n e m = around_bind x owner path k b n e m
around_bind x owner (Argument j ∷ path) k b n e m =
    rw (pass k (Argument j) path tt) (around_bind x owner path k b n e m)
around_bind x owner (Test ∷ path) k b n e m = rw (pass k Test path tt) (around_bind x owner path k b n e m)
around_bind x owner (Then ∷ path) k b n e m = rw (pass k Then path tt) (around_bind x owner path k b n e m)
around_bind x owner (Else ∷ path) k b n e m = rw (pass k Else path tt) (around_bind x owner path k b n e m)
around_bind x owner (Child ∷ path) k b n e m = rw (pass k Child path tt) (around_bind x owner path k b n e m)
around_bind x owner (Left ∷ path) k b n e m = rw (pass k Left path tt) (around_bind x owner path k b n e m)

pub scope_bind : (x : Both) (owner : ℕ) (path : List Edge) (n : NodeId) → scope_at x owner path ≡ Some n
    → (bind : List Edge) × (bind_around 0 path ≡ Some bind) × (node_at x owner bind ≡ Some n)
scope_bind x owner [] n e = absurd (cc)
scope_bind x owner (Inside v ∷ path) n e = (path, refl, e)
scope_bind x owner (Argument j ∷ path) n e = scope_bind x owner path n e
scope_bind x owner (Test ∷ path) n e = scope_bind x owner path n e
scope_bind x owner (Then ∷ path) n e = scope_bind x owner path n e
scope_bind x owner (Else ∷ path) n e = scope_bind x owner path n e
scope_bind x owner (Child ∷ path) n e = scope_bind x owner path n e
scope_bind x owner (Left ∷ path) n e = scope_bind x owner path n e

pub same_scope : (x : Both) (S : Option NodeId) (n : NodeId) (r : Row) (u : Term) → x.graph.row n ≡ Some r
    → Opens x.graph (Built S) (term.Ref n) u → r.scope ≡ S
same_scope x S n r u row op =
    let o = opened x.graph S n u op in let same : o.0 ≡ r = (let e = o.1 in cc) in rw same at o.2

-- the row of a form
pub row_scope : (x : Both) (S : Option NodeId) (E : List Binding) (n : NodeId) (f : Formula) (r : Row) → IsForm f
    → ((k : ℕ) → f ≡ Bound k → ⊥) → x.graph.row n ≡ Some r → Shows x (Built S) E (term.Ref n) f
    → r.scope ≡ S
row_scope x S E n (Name t) r form not row shows = absurd form
row_scope x S E n (Bound k) r form not row shows = absurd (not k refl)
row_scope x S E n (Literal v) r form not row shows = same_scope x S n r (term.Const (graph_value x.nodes v)) row shows
row_scope x S E n (Apply g fs) r form not row shows = same_scope x S n r (term.Map g shows.0) row shows.1
row_scope x S E n (Fold g v fs) r form not row shows =
    same_scope x S n r (term.Fold g (graph_value x.nodes v) shows.0) row shows.1
row_scope x S E n (If t a b) r form not row shows = same_scope x S n r (term.If shows.0 shows.1 shows.2) row shows.3
row_scope x S E n (Join c) r form not row shows = same_scope x S n r (term.Join shows.0) row shows.1
row_scope x S E n (Bind l b) r form not row shows = same_scope x S n r (term.Bind shows.0 shows.1 shows.2) row shows.3
row_scope x S E n (At t) r form not row shows = same_scope x S n r (term.At (std.pos t)) row shows
row_scope x S E n (Steps v ss) r form not row shows =
    same_scope x S n r (term.Steps (graph_value x.nodes v) (map (graph_step x.nodes) ss)) row shows
row_scope x S E n Now r form not row shows = same_scope x S n r term.Now row shows

pub bound_or : (f : Formula) → ((k : ℕ) × (f ≡ Bound k)) ⊎ ((k : ℕ) → f ≡ Bound k → ⊥)
bound_or (Bound k) = inl (k, refl)
bound_or f = inr (λ k e. absurd (cc))

link_there : (nodes : ℕ → NodeId) (links : List ℕ) (j : ℕ) (m : NodeId) → slice_get (map nodes links) j ≡ Some m
    → (l : ℕ) × (nodes l ≡ m) × Among (Named l) (map (λ l. Named l) links)
link_there nodes [] j m e = absurd (cc)
link_there nodes (l ∷ links) zero m e = (l, (cc), inl refl)
link_there nodes (l ∷ links) (suc j) m e = let r = link_there nodes links j m e in (r.0, r.1, inr r.2)

module _ (x : Both) (fits : Fits x) (X : Item → Type 0) (closed : Closed x X) where
  -- ---- a form of one point

  -- what the main of such a place depends on whatever its scope
  argument_covered : (owner : ℕ) (path : List Edge) (f : Formula) (n : NodeId) (r : Row) (kids : List NodeId)
      (fs : Formulas) (j : ℕ) (m : NodeId) → X (Place owner path)
      → formula_at x.state owner path ≡ Some f
      → part_reads (value_at x.meanings x.state 0 (environment path)) owner path f ≡ argument_places owner path 0 fs
      → node_at x owner path ≡ Some n → x.graph.row n ≡ Some r → part_node r.def (Argument j) ≡ Some m → (g : Formula)
      → argument_at fs j ≡ Some g → CoveredBy x X (main m)
  argument_covered owner path f n r kids fs j m is f_is reads at row part g arg =
      let item : X (Place owner (Argument j ∷ path)) =
      part_in x fits X closed owner path f 0 (Place owner (Argument j ∷ path)) is f_is
      (rw reads (argument_first owner path fs j g arg)) in
      (Place owner (Argument j ∷ path), item, by_main (rw (at, row) part) refl)

  kids_covered : (owner : ℕ) (path : List Edge) (f : Formula) (n : NodeId) (r : Row) (kids : List NodeId)
      (fs : Formulas) (q : Point) → X (Place owner path)
      → formula_at x.state owner path ≡ Some f
      → part_reads (value_at x.meanings x.state 0 (environment path)) owner path f ≡ argument_places owner path 0 fs
      → node_at x owner path ≡ Some n → x.graph.row n ≡ Some r
      → ((j : ℕ) → part_node r.def (Argument j) ≡ slice_get kids j)
      → ShowsAll x (Built (scope_at x owner path)) (around x owner path) (refs kids) fs → Among q (map main kids)
      → CoveredBy x X q
  kids_covered owner path f n r kids fs q is f_is reads at row part all among =
      let kid = main_among q kids among in
      let arg = argument_there x (Built (scope_at x owner path))
      (around x owner path) kids fs kid.0 kid.1 all kid.2 in
      rw kid.3 (argument_covered owner path f n r kids fs kid.0 kid.1 is f_is reads at row
      (part kid.0 ∙ kid.2) arg.0 arg.1)

  const_leaf : (G : Graph) (n : NodeId) (def : Def) (v : GraphValue) (q : Point) → plain def ≡ Some (term.Const v)
      → Among q (fixed_reads G n def Main) → CoveredBy x X q
  const_leaf G n (graph.Const w) v q e among = absurd among
  const_leaf G n def v q e among = absurd (cc)

  at_leaf : (G : Graph) (n : NodeId) (def : Def) (t : _) (q : Point) → plain def ≡ Some (term.At t)
      → Among q (fixed_reads G n def Main) → CoveredBy x X q
  at_leaf G n (graph.At w) v q e among = absurd among
  at_leaf G n def v q e among = absurd (cc)

  steps_leaf : (G : Graph) (n : NodeId) (def : Def) (v : GraphValue) (steps : List term.Step) (q : Point)
      → plain def ≡ Some (term.Steps v steps) → Among q (fixed_reads G n def Main) → CoveredBy x X q
  steps_leaf G n (graph.Steps w ss) v steps q e among = absurd among
  steps_leaf G n def v steps q e among = absurd (cc)

  now_leaf : (G : Graph) (n : NodeId) (def : Def) (q : Point) → plain def ≡ Some term.Now
      → Among q (fixed_reads G n def Main) → CoveredBy x X q
  now_leaf G n graph.Now q e among = absurd among
  now_leaf G n def q e among = absurd (cc)

  fixed_covered : (owner : ℕ) (path : List Edge) (f : Formula) (n : NodeId) (r : Row) (q : Point)
      → X (Place owner path) → node_at x owner path ≡ Some n → formula_at x.state owner path ≡ Some f → IsForm f
      → x.graph.row n ≡ Some r → Shows x (Built (scope_at x owner path)) (around x owner path) (term.Ref n) f
      → Among q (fixed_reads x.graph n r.def Main) → CoveredBy x X q
  fixed_covered owner path (Name t) n r q is at f_is form row shows among = absurd form
  fixed_covered owner path (Literal v) n r q is at f_is form row shows among =
      let o = opened x.graph (scope_at x owner path) n (term.Const (graph_value x.nodes v)) shows in
      let same : o.0 ≡ r = (let e = o.1 in cc) in const_leaf x.graph n r.def (graph_value x.nodes v) q
      (rw same at o.3) among
  fixed_covered owner path (Bound k) n r q is at f_is form row (b, e, op) among =
      bound_leaf b.mode (graph_value x.nodes b.value) op
    where
      bound_leaf : (m : Mode) (v : GraphValue) → Opens x.graph m (term.Ref n) (term.Const v) → CoveredBy x X q
      bound_leaf Spelled v op = absurd (cc)
      bound_leaf (Built S) v op =
          let o = opened x.graph S n (term.Const v) op in
          let same : o.0 ≡ r = (let e = o.1 in cc) in const_leaf x.graph n r.def v q (rw same at o.3) among
  fixed_covered owner path (Apply g fs) n r q is at f_is form row (ts, op, all) among =
      let o = opened x.graph (scope_at x owner path) n (term.Map g ts) op in
      let same : o.0 ≡ r = (let e = o.1 in cc) in
      let d = plain_map r.def g ts (rw same at o.3) in
      kids_covered owner path (Apply g fs) n r d.0 fs q is f_is refl at row (map_parts r.def g d.0 d.1)
      (rw d.2 at all) (rw d.1 at among)
  fixed_covered owner path (Fold g v fs) n r q is at f_is form row (ts, op, all) among =
      let o = opened x.graph (scope_at x owner path) n (term.Fold g (graph_value x.nodes v) ts) op in
      let same : o.0 ≡ r = (let e = o.1 in cc) in
      let d = plain_fold r.def g (graph_value x.nodes v) ts (rw same at o.3) in
      kids_covered owner path (Fold g v fs) n r d.0 fs q is f_is refl at row
      (fold_parts r.def g (graph_value x.nodes v) d.0 d.1) (rw d.2 at all) (rw d.1 at among)
  fixed_covered owner path (If test a b) n r q is at f_is form row (p, y, z, op, st, sa, sb) among =
      let o = opened x.graph (scope_at x owner path) n (term.If p y z) op in
      let same : o.0 ≡ r = (let e = o.1 in cc) in
      let d = plain_if r.def p y z (rw same at o.3) in
      elim (rw d.3 at among) [
        | inl e ↦ rw e (Place owner path, is, by_choice refl at (rw f_is tt) refl)
        | inr none ↦
            absurd none
      ]
  fixed_covered owner path (Join child) n r q is at f_is form row (p, op, shows) among =
      let o = opened x.graph (scope_at x owner path) n (term.Join p) op in
      let same : o.0 ≡ r = (let e = o.1 in cc) in
      let d = plain_join r.def p (rw same at o.3) in
      elim (rw d.1 at among) [
        | inl e ↦ rw e (Place owner path, is, by_choice refl at (rw f_is tt) refl)
        | inr none ↦
            absurd none
      ]
  fixed_covered owner path (Bind left body) n r q is at f_is form row
      (p, g, caps, op, sl, inner, fills, writes) among =
      let o = opened x.graph (scope_at x owner path) n (term.Bind p g caps) op in
      let same : o.0 ≡ r = (let e = o.1 in cc) in
      let d = plain_bind r.def p g caps (rw same at o.3) in
      let left_is : X (Place owner (Left ∷ path)) =
      part_in x fits X closed owner path (Bind left body) 0 (Place owner (Left ∷ path)) is f_is (inl refl) in
      elim (rw d.2 at among) [
        | inl e ↦ rw e (Place owner (Left ∷ path), left_is, by_left refl at refl)
        | inr none ↦
            absurd none
      ]
  fixed_covered owner path (At t) n r q is at f_is form row op among =
      let o = opened x.graph (scope_at x owner path) n (term.At (std.pos t)) op in
      let same : o.0 ≡ r = (let e = o.1 in cc) in at_leaf x.graph n r.def (std.pos t) q (rw same at o.3) among
  fixed_covered owner path (Steps v steps) n r q is at f_is form row op among =
      let o = opened x.graph (scope_at x owner path) n
      (term.Steps (graph_value x.nodes v) (map (graph_step x.nodes) steps)) op in
      let same : o.0 ≡ r = (let e = o.1 in cc) in steps_leaf x.graph n r.def (graph_value x.nodes v)
      (map (graph_step x.nodes) steps) q (rw same at o.3) among
  fixed_covered owner path Now n r q is at f_is form row op among =
      let o = opened x.graph (scope_at x owner path) n term.Now op in
      let same : o.0 ≡ r = (let e = o.1 in cc) in now_leaf x.graph n r.def q (rw same at o.3) among

  -- ---- gates

  left_covers : (owner : ℕ) (path bind : List Edge) (k : ℕ) (b : NodeId) → X (Place owner path)
      → bind_around k path ≡ Some bind → node_at x owner bind ≡ Some b → CoveredBy x X (change b)
  left_covers owner path bind k b is around at =
      (Place owner (Left ∷ bind), closed.lefts owner path k bind is around, by_left refl at refl)

  scope_covered : (owner : ℕ) (path : List Edge) (b : NodeId) → X (Place owner path) → scope_at x owner path ≡ Some b
      → CoveredBy x X (change b)
  scope_covered owner path b is scope =
      let w = scope_bind x owner path b scope in left_covers owner path w.0 0 b is w.1 w.2

  place_gate : (owner : ℕ) (path : List Edge) (f : Formula) (n b : NodeId) (r : Row) → X (Place owner path) → IsForm f
      → x.graph.row n ≡ Some r → r.scope ≡ Some b
      → Shows x (Built (scope_at x owner path)) (around x owner path) (term.Ref n) f → CoveredBy x X (change b)
  place_gate owner path f n b r is form row scope shows = elim (bound_or f) [
    | inl (k, e) ↦ variable_gate k (rw e at shows)
    | inr not ↦ scope_covered owner path b is
        (let e = row_scope x (scope_at x owner path) (around x owner path) n f r form not row shows in cc)
  ]
    where
      by_mode : (k : ℕ) (c : Binding) (m : Mode) → c.mode ≡ m → slice_get (around x owner path) k ≡ Some c
          → Opens x.graph m (term.Ref n) (term.Const (graph_value x.nodes c.value)) → CoveredBy x X (change b)
      by_mode k c Spelled m e op = absurd (cc)
      by_mode k c (Built S) m e op =
          let same : S ≡ Some b = (let s = same_scope x S n r (term.Const (graph_value x.nodes c.value)) row op in
          cc) in
          let w = around_bind x owner path k c b e (rw same at m) in
          left_covers owner path w.0 k b is w.1 w.2

      variable_gate : (k : ℕ) → Shows x (Built (scope_at x owner path)) (around x owner path) (term.Ref n) (Bound k)
          → CoveredBy x X (change b)
      variable_gate k (c, e, op) = by_mode k c c.mode refl e op

  top_gate : (n b : NodeId) (r : Row) (def : Def) → x.graph.row n ≡ Some r → r.scope ≡ Some b → IsTop x.graph n def
      → CoveredBy x X (change b)
  top_gate n b r def row scope (r', row', scope', def') =
      absurd (let same : r' ≡ r = cc in let s = rw same at scope' in cc)

  name_gate : (n b : NodeId) (r : Row) (body : Body) → IsForm-body body → x.graph.row n ≡ Some r → r.scope ≡ Some b
      → Declares x n (Some body) → CoveredBy x X (change b)
  name_gate n b r (Computed f kept) form row scope dec = absurd form
  name_gate n b r (Grab c v l) form row scope dec = absurd form
  name_gate n b r (Variable v) form row scope dec = top_gate n b r (graph.Var (graph_value x.nodes v)) row scope dec
  name_gate n b r (Freeze c p v) form row scope dec = top_gate n b r (graph.Freeze dec.0 p) row scope dec.1
  name_gate n b r (After t) form row scope dec = top_gate n b r (graph.At (std.pos t)) row scope dec
  name_gate n b r (Every t u) form row scope dec =
      top_gate n b r (graph.Every (std.pos t) (std.pos u)) row scope dec.0
  name_gate n b r (Expert g v l s) form row scope dec =
      top_gate n b r (graph.Expert g (graph_value x.nodes v) dec.0) row scope dec.1

  -- a live grab's node stands in its bind's scope, and the grab reads the bind's left
  grab_gate : (k c : ℕ) (v : Value) (n b : NodeId) (r : Row) → X (Named k) → x.nodes k ≡ n
      → body_at x.state k ≡ Some (Grab c v true) → x.graph.row n ≡ Some r → r.scope ≡ Some b
      → CoveredBy x X (change b)
  grab_gate k c v n b r named same body_is row scope =
      let g = grab_facts x fits k c v r (rw same row) body_is in
      by_facts g.0 g.1 g.2 g.3 g.5 (rw same at g.6) g.7
    where
      left_read : X (Place c (Left ∷ []))
      left_read = closed.reads (Named k) (Place c (Left ∷ [])) named
          (0, rw body_is (grab_left x.meanings x.state X c v (outcome_at x.meanings x.state 0 (Place c (Left ∷ [])))))

      by_facts : (left body : Formula) (kept : script.Kept)
          → body_at x.state c ≡ Some (Computed (Bind left body) kept) → (r' : Row) → x.graph.row n ≡ Some r'
          → r'.scope ≡ Some (x.nodes c) → CoveredBy x X (change b)
      by_facts left body kept bind_is r' row' scope' =
          let rows : r' ≡ r = cc in
          let bind : x.nodes c ≡ b = (let e = rw rows at scope' in cc) in
          let at : node_at x c [] ≡ Some (x.nodes c) = rw bind_is refl in
          rw (← bind) (Place c (Left ∷ []), left_read, by_left refl at refl)

  -- ---- what declarations read

  top_leaf : (n : NodeId) (r : Row) (def : Def) (q : Point) → x.graph.row n ≡ Some r → IsTop x.graph n def
      → (Among q (fixed_reads x.graph n def Main) → CoveredBy x X q)
      → Among q (fixed_reads x.graph n r.def Main) → CoveredBy x X q
  top_leaf n r def q row (r', row', scope', def') next among =
      let same : r ≡ r' = cc in next (rw (same, def') at among)

  name_fixed : (k : ℕ) (r : Row) (body : Body) (q : Point) → X (Named k) → body_at x.state k ≡ Some body
      → IsForm-body body → x.graph.row (x.nodes k) ≡ Some r → Declares x (x.nodes k) (Some body)
      → Among q (fixed_reads x.graph (x.nodes k) r.def Main) → CoveredBy x X q
  name_fixed k r (Computed f kept) q is body form row dec among = absurd form
  name_fixed k r (Grab c v l) q is body form row dec among = absurd form
  name_fixed k r (Variable v) q is body form row dec among =
      top_leaf (x.nodes k) r (graph.Var (graph_value x.nodes v)) q row dec (λ none. absurd none) among
  name_fixed k r (After t) q is body form row dec among =
      top_leaf (x.nodes k) r (graph.At (std.pos t)) q row dec (λ none. absurd none) among
  name_fixed k r (Every t u) q is body form row dec among =
      top_leaf (x.nodes k) r (graph.Every (std.pos t) (std.pos u)) q row dec.0 (λ none. absurd none) among
  name_fixed k r (Freeze c p (Some v)) q is body form row dec among =
      top_leaf (x.nodes k) r (graph.Freeze dec.0 p) q row dec.1 (λ some. absurd (rw dec.3 at some)) among
  name_fixed k r (Freeze c p None) q is body form row (kid, top, shows, none) among =
      top_leaf (x.nodes k) r (graph.Freeze kid p) q row top kid_covered among
    where
      at_kid : node_at x k [] ≡ Some kid
      at_kid = rw (body, top.1, top.3) refl

      kid_covered : Among q (fixed_reads x.graph (x.nodes k) (graph.Freeze kid p) Main) → CoveredBy x X q
      kid_covered among =
          elim (rw none at among) [
            | inl e ↦ rw e (
              Place k [],
              closed.reads (Named k) (Place k []) is
                  (0, rw body (inl refl)),
              by_main at_kid refl,
            )
            | inr absent ↦ absurd absent
          ]
  name_fixed k r (Expert g v links s) q is body form row (kids, top, lists) among =
      top_leaf (x.nodes k) r (graph.Expert g (graph_value x.nodes v) kids) q row top linked among
    where
      linked : Among q (fixed_reads x.graph (x.nodes k) (graph.Expert g (graph_value x.nodes v) kids) Main)
          → CoveredBy x X q
      linked among =
          let m = main_among q (map x.nodes links) (rw lists at among) in
          let l = link_there x.nodes links m.0 m.1 m.2 in
          rw m.3 (Named l.0, closed.reads (Named k) (Named l.0) is (0, rw body l.2), by_main (ap Some l.1) refl)

  name_subject : (n s : NodeId) (r : Row) (body : Body) → IsForm-body body → x.graph.row n ≡ Some r
      → Declares x n (Some body) → subject_of r.def ≡ Some s → ⊥
  name_subject n s r (Computed f kept) form row dec e = form
  name_subject n s r (Grab c v l) form row dec e = form
  name_subject n s r (Variable v) form row (r', row', scope', def') e =
      let same : r' ≡ r = cc in let e' = rw (← same, def') at e in cc
  name_subject n s r (Freeze c p v) form row (kid, (r', row', scope', def'), rest, fr) e =
      let same : r' ≡ r = cc in let e' = rw (← same, def') at e in cc
  name_subject n s r (After t) form row (r', row', scope', def') e =
      let same : r' ≡ r = cc in let e' = rw (← same, def') at e in cc
  name_subject n s r (Every t u) form row ((r', row', scope', def'), q) e =
      let same : r' ≡ r = cc in let e' = rw (← same, def') at e in cc
  name_subject n s r (Expert g v l st) form row (kids, (r', row', scope', def'), lists) e =
      let same : r' ≡ r = cc in let e' = rw (← same, def') at e in cc

  -- ---- the right side

  given_part : (owner : ℕ) (path : List Edge) (f g : Formula) (edge : Edge) (p : Outcome)
      → formula_at x.state owner path ≡ Some f → part_at f edge ≡ Some g
      → environment (edge ∷ path) ≡ environment path
      → ItemGives x.meanings x.state (Place owner (edge ∷ path)) p
      → (d : ℕ) × (value_at x.meanings x.state d (environment path) g ≡ Some p)
  given_part owner path f g edge p f_is part same (d, gives) =
      (d, rw (part_is x.state owner path f edge f_is, part, same) at gives)

  -- what the test, the child or the left of a place gives, where its scope holds
  subject_gives : (owner : ℕ) (path : List Edge) (f g : Formula) (edge : Edge) (n s : NodeId) (r : Row)
      (o : GraphOutcome) → formula_at x.state owner path ≡ Some f → part_at f edge ≡ Some g
      → node_at x owner (edge ∷ path) ≡ Some s → Stands x.functions x.graph (scope_at x owner (edge ∷ path))
      → environment (edge ∷ path) ≡ environment path → NodeGives x.functions x.graph s o
      → (p : Outcome) × (o ≡ graph_outcome x.nodes p) × (d : ℕ)
      × (value_at x.meanings x.state d (environment path) g ≡ Some p)
  subject_gives owner path f g edge n s r o f_is part at stands same gives =
      let w = place_agrees x fits owner (edge ∷ path) g s o
      (part_is x.state owner path f edge f_is ∙ part) at stands gives in
      let d = given_part owner path f g edge w.0 f_is part same w.2 in
      (w.0, w.1, d.0, d.1)

  side_covered : (owner : ℕ) (path : List Edge) (test a b : Formula) (n : NodeId) (r : Row) (t y z : NodeId)
      (p : Outcome) (d : ℕ) (m : NodeId) → X (Place owner path)
      → formula_at x.state owner path ≡ Some (If test a b) → node_at x owner path ≡ Some n → x.graph.row n ≡ Some r
      → r.def ≡ graph.If t y z → value_at x.meanings x.state d (environment path) test ≡ Some p
      → Among m (at_most_one (right_of x.graph n (graph.If t y z) (graph_outcome x.nodes p))) → CoveredBy x X (main m)
  side_covered owner path test a b n r t y z (Val (script_value.Bool true)) d m is f_is at row def gives (inl e) = (
    Place owner (Then ∷ path),
    part_in x fits X closed owner path (If test a b) d
        (Place owner (Then ∷ path)) is f_is (inr (rw gives (inl refl))),
    by_main (rw (at, row, def, e) refl) refl,
  )
  side_covered owner path test a b n r t y z (Val (script_value.Bool false)) d m is f_is at row def gives (inl e) = (
    Place owner (Else ∷ path),
    part_in x fits X closed owner path (If test a b) d
        (Place owner (Else ∷ path)) is f_is (inr (rw gives (inl refl))),
    by_main (rw (at, row, def, e) refl) refl,
  )
  side_covered owner path test a b n r t y z (Val (script_value.Bool true)) d m is f_is at row def gives (inr none) =
      absurd none
  side_covered owner path test a b n r t y z (Val (script_value.Bool false)) d m is f_is at row def gives (inr none) =
      absurd none
  side_covered owner path test a b n r t y z (Val (script_value.Int v)) d m is f_is at row def gives none =
      absurd none
  side_covered owner path test a b n r t y z (Val (script_value.Text v)) d m is f_is at row def gives none =
      absurd none
  side_covered owner path test a b n r t y z (Val (script_value.Reference v u)) d m is f_is at row def gives none =
      absurd none
  side_covered owner path test a b n r t y z Invalid d m is f_is at row def gives none = absurd none

  named_covered : (owner : ℕ) (path : List Edge) (child : Formula) (n c : NodeId) (p : Outcome) (d : ℕ) (m : NodeId)
      → X (Place owner path) → formula_at x.state owner path ≡ Some (Join child)
      → value_at x.meanings x.state d (environment path) child ≡ Some p
      → Among m (at_most_one (right_of x.graph n (graph.Join c) (graph_outcome x.nodes p))) → CoveredBy x X (main m)
  named_covered owner path child n c (Val (script_value.Reference v u)) d m is f_is gives (inl e) = (
    Named v,
    part_in x fits X closed owner path (Join child) d (Named v) is f_is (inr (rw gives (inl refl))),
    by_main (rw e refl) refl,
  )
  named_covered owner path child n c (Val (script_value.Reference v u)) d m is f_is gives (inr none) = absurd none
  named_covered owner path child n c (Val (script_value.Bool v)) d m is f_is gives none = absurd none
  named_covered owner path child n c (Val (script_value.Int v)) d m is f_is gives none = absurd none
  named_covered owner path child n c (Val (script_value.Text v)) d m is f_is gives none = absurd none
  named_covered owner path child n c Invalid d m is f_is gives none = absurd none

  -- a bind's root, where it is built for the outcome
  rooted_at : (w : Option graph.Built) (o : GraphOutcome) (m : NodeId) → Among m (at_most_one (root_for w o))
      → (v : graph.Built) × (w ≡ Some v) × (v.outcome ≡ o) × (v.root ≡ Some m)
  rooted_at None o m none = absurd none
  rooted_at (Some w) o m among = go (same_outcome o w.outcome) refl w.root refl among
    where
      go : (b : std.Bool) → same_outcome o w.outcome ≡ b → (root : Option NodeId) → w.root ≡ root
          → Among m (at_most_one (cond b root None)) → (v : graph.Built) × (Some w ≡ Some v) × (v.outcome ≡ o)
          × (v.root ≡ Some m)
      go false e root r none = absurd none
      go true e None r none = absurd none
      go true e (Some k) r (inr none) = absurd none
      go true e (Some k) r (inl same) = (w, refl, sym ((outcome_decides o w.outcome).0 e), rw same r)

  root_covered : (owner : ℕ) (path : List Edge) (left body : Formula) (n : NodeId) (p : Outcome) (d : ℕ) (m : NodeId)
      → X (Place owner path) → formula_at x.state owner path ≡ Some (Bind left body)
      → node_at x owner path ≡ Some n → value_at x.meanings x.state d (environment path) left ≡ Some p
      → (w : graph.Built) → x.graph.built n ≡ Some w → (w.outcome ≡ outcome.Invalid → w.root ≡ None)
      → w.outcome ≡ graph_outcome x.nodes p → w.root ≡ Some m
      → CoveredBy x X (main m)
  root_covered owner path left body n Invalid d m is f_is at gives w built rootless for root =
      absurd (let none = rootless for in cc)
  root_covered owner path left body n (Val v) d m is f_is at gives w built rootless for root = (
    Place owner (Inside v ∷ path),
    part_in x fits X closed owner path (Bind left body) d
        (Place owner (Inside v ∷ path)) is f_is (inr (rw gives (inl refl))),
    by_main
        (rw (at, built, for, same, root) refl) refl,
  )
    where
      same : same_outcome (outcome.Val (graph_value x.nodes v)) (outcome.Val (graph_value x.nodes v)) ≡ true
      same = (outcome_decides (outcome.Val (graph_value x.nodes v)) (outcome.Val (graph_value x.nodes v))).1 refl

  no_subject : (def : Def) (u : Term) (s : NodeId) → plain def ≡ Some u
      → ((p : Term) (q : Term) (r : Term) → u ≡ term.If p q r → ⊥) → ((p : Term) → u ≡ term.Join p → ⊥)
      → ((p : Term) (g : FnRef) (ts : Terms) → u ≡ term.Bind p g ts → ⊥) → subject_of def ≡ Some s → ⊥
  no_subject (graph.If a b c) u s e i j k h = i (term.Ref a) (term.Ref b) (term.Ref c) (cc)
  no_subject (graph.Join a) u s e i j k h = j (term.Ref a) (cc)
  no_subject (graph.Bind a f caps) u s e i j k h = k (term.Ref a) f (refs caps) (cc)
  no_subject def u s e i j k h = cc

  -- what a place's main depends on by what its subject gives
  right_covered : (owner : ℕ) (path : List Edge) (f : Formula) (n s m : NodeId) (r : Row) (o : GraphOutcome)
      → X (Place owner path) → node_at x owner path ≡ Some n → formula_at x.state owner path ≡ Some f
      → IsForm f → x.graph.row n ≡ Some r → Stands x.functions x.graph r.scope
      → Shows x (Built (scope_at x owner path)) (around x owner path) (term.Ref n) f → subject_of r.def ≡ Some s
      → NodeGives x.functions x.graph s o
      → Among m (rights_of x.graph n r.def o) → CoveredBy x X (main m)
  right_covered owner path (Name t) n s m r o is at f_is form row stands shows sub gives among = absurd form
  right_covered owner path (Literal v) n s m r o is at f_is form row stands shows sub gives among =
      let p = opened x.graph (scope_at x owner path) n (term.Const (graph_value x.nodes v)) shows in
      let same : p.0 ≡ r = (let e = p.1 in cc) in
      absurd (no_subject r.def (term.Const (graph_value x.nodes v)) s (rw same at p.3) (λ a b c e. cc) (λ a e. cc)
      (λ a g ts e. cc) sub)
  right_covered owner path (Bound k) n s m r o is at f_is form row stands (b, e, op) sub gives among =
      absurd (no_bound b.mode (graph_value x.nodes b.value) op)
    where
      no_bound : (mode : Mode) (v : GraphValue) → Opens x.graph mode (term.Ref n) (term.Const v) → ⊥
      no_bound Spelled v op = cc
      no_bound (Built S) v op =
          let p = opened x.graph S n (term.Const v) op in let same : p.0 ≡ r = (let e = p.1 in cc) in
          no_subject r.def (term.Const v) s (rw same at p.3) (λ a b c e. cc) (λ a e. cc) (λ a g ts e. cc) sub
  right_covered owner path (Apply g fs) n s m r o is at f_is form row stands (ts, op, all) sub gives among =
      let p = opened x.graph (scope_at x owner path) n (term.Map g ts) op in
      let same : p.0 ≡ r = (let e = p.1 in cc) in
      absurd (no_subject r.def (term.Map g ts) s (rw same at p.3) (λ a b c e. cc) (λ a e. cc) (λ a g ts e. cc) sub)
  right_covered owner path (Fold g v fs) n s m r o is at f_is form row stands (ts, op, all) sub gives among =
      let p = opened x.graph (scope_at x owner path) n (term.Fold g (graph_value x.nodes v) ts) op in
      let same : p.0 ≡ r = (let e = p.1 in cc) in
      absurd (no_subject r.def (term.Fold g (graph_value x.nodes v) ts) s (rw same at p.3) (λ a b c e. cc) (λ a e. cc)
      (λ a g ts e. cc) sub)
  right_covered owner path (At t) n s m r o is at f_is form row stands op sub gives among =
      let p = opened x.graph (scope_at x owner path) n (term.At (std.pos t)) op in
      let same : p.0 ≡ r = (let e = p.1 in cc) in
      absurd (no_subject r.def (term.At (std.pos t)) s (rw same at p.3) (λ a b c e. cc) (λ a e. cc)
      (λ a g ts e. cc) sub)
  right_covered owner path (Steps v ss) n s m r o is at f_is form row stands op sub gives among =
      let p = opened x.graph (scope_at x owner path) n
      (term.Steps (graph_value x.nodes v) (map (graph_step x.nodes) ss)) op in
      let same : p.0 ≡ r = (let e = p.1 in cc) in
      absurd (no_subject r.def (term.Steps (graph_value x.nodes v) (map (graph_step x.nodes) ss)) s (rw same at p.3)
      (λ a b c e. cc) (λ a e. cc) (λ a g ts e. cc) sub)
  right_covered owner path Now n s m r o is at f_is form row stands op sub gives among =
      let p = opened x.graph (scope_at x owner path) n term.Now op in let same : p.0 ≡ r = (let e = p.1 in cc) in
      absurd (no_subject r.def term.Now s (rw same at p.3) (λ a b c e. cc) (λ a e. cc) (λ a g ts e. cc) sub)
  right_covered owner path (If test a b) n s m r o is at f_is form row stands
      (p, y, z, op, st, sa, sb) sub gives among =
      let w = opened x.graph (scope_at x owner path) n (term.If p y z) op in
      let same : w.0 ≡ r = (let e = w.1 in cc) in
      let d = plain_if r.def p y z (rw same at w.3) in
      let scope : r.scope ≡ scope_at x owner path = rw same at w.2 in
      if_right d.0 d.1 d.2 d.3 scope
    where
      if_right : (t y z : NodeId) → r.def ≡ graph.If t y z → r.scope ≡ scope_at x owner path → CoveredBy x X (main m)
      if_right t y z def scope =
          let subject : t ≡ s = (let e = rw def at sub in cc) in
          let g = subject_gives owner path (If test a b) test Test n s r o f_is refl (rw (at, row, def, subject) refl)
          (rw scope at stands) refl gives in
          side_covered owner path test a b n r t y z g.0 g.2 m is f_is at row def g.3 (rw (def, g.1) at among)
  right_covered owner path (Join child) n s m r o is at f_is form row stands (p, op, sc) sub gives among =
      let w = opened x.graph (scope_at x owner path) n (term.Join p) op in
      let same : w.0 ≡ r = (let e = w.1 in cc) in
      let d = plain_join r.def p (rw same at w.3) in
      let scope : r.scope ≡ scope_at x owner path = rw same at w.2 in
      join_right d.0 d.1 scope
    where
      join_right : (c : NodeId) → r.def ≡ graph.Join c → r.scope ≡ scope_at x owner path → CoveredBy x X (main m)
      join_right c def scope =
          let subject : c ≡ s = (let e = rw def at sub in cc) in
          let g = subject_gives owner path (Join child) child Child n s r o f_is refl
          (rw (at, row, def, subject) refl) (rw scope at stands) refl gives in
          named_covered owner path child n c g.0 g.2 m is f_is g.3 (rw (def, g.1) at among)
  right_covered owner path (Bind left body) n s m r o is at f_is form row stands
      (p, h, caps, op, sl, inner, fills, writes) sub gives among =
      let w = opened x.graph (scope_at x owner path) n (term.Bind p h caps) op in
      let same : w.0 ≡ r = (let e = w.1 in cc) in
      let d = plain_bind r.def p h caps (rw same at w.3) in
      let scope : r.scope ≡ scope_at x owner path = rw same at w.2 in
      bind_right d.0 d.1 d.2 scope
    where
      bind_right : (l : NodeId) (caps : List NodeId) → r.def ≡ graph.Bind l h caps → r.scope ≡ scope_at x owner path
          → CoveredBy x X (main m)
      bind_right l caps def scope =
          let subject : l ≡ s = (let e = rw def at sub in cc) in
          let g = subject_gives owner path (Bind left body) left Left n s r o f_is refl
          (rw (at, row, def, subject) refl) (rw scope at stands) refl gives in
          let w = rooted_at (x.graph.built n) o m (rw def at among) in
          root_covered owner path left body n g.0 g.2 m is f_is at g.3 w.0 w.1
          (fits.rooted n r l h caps w.0 row def w.1).rootless (w.2 ∙ g.1) w.3

  -- ---- changes

  choice_covered : (owner : ℕ) (path : List Edge) (f : Formula) (n : NodeId) (r : Row) (q : Point)
      → X (Place owner path) → node_at x owner path ≡ Some n → formula_at x.state owner path ≡ Some f
      → IsChoice (Some f)
      → x.graph.row n ≡ Some r → Shows x (Built (scope_at x owner path)) (around x owner path) (term.Ref n) f
      → Among q (fixed_reads x.graph n r.def Change) → CoveredBy x X q
  choice_covered owner path (If test a b) n r q is at f_is choice row (p, y, z, op, st, sa, sb) among =
      let w = opened x.graph (scope_at x owner path) n (term.If p y z) op in
      let same : w.0 ≡ r = (let e = w.1 in cc) in
      let d = plain_if r.def p y z (rw same at w.3) in
      if_test d.0 d.1 d.2 d.3
    where
      if_test : (t y z : NodeId) → r.def ≡ graph.If t y z → CoveredBy x X q
      if_test t y z def = elim (rw def at among) [
        | inl e ↦ rw e (
          Place owner (Test ∷ path),
          part_in x fits X closed owner path (If test a b) 0
              (Place owner (Test ∷ path)) is f_is (inl refl),
          by_main {n = t} (rw (at, row, def) refl) refl,
        )
        | inr none ↦ absurd none
      ]
  choice_covered owner path (Join child) n r q is at f_is choice row (p, op, sc) among =
      let w = opened x.graph (scope_at x owner path) n (term.Join p) op in
      let same : w.0 ≡ r = (let e = w.1 in cc) in
      let d = plain_join r.def p (rw same at w.3) in
      join_child d.0 d.1
    where
      join_child : (c : NodeId) → r.def ≡ graph.Join c → CoveredBy x X q
      join_child c def = elim (rw def at among) [
        | inl e ↦ rw e (
          Place owner (Child ∷ path),
          part_in x fits X closed owner path (Join child) 0
              (Place owner (Child ∷ path)) is f_is (inl refl),
          by_main {n = c} (rw (at, row, def) refl) refl,
        )
        | inr none ↦ absurd none
      ]
  choice_covered owner path f n r q is at f_is choice row shows among = absurd choice

  left_covered : (owner : ℕ) (path : List Edge) (left body : Formula) (b : NodeId) (r : Row) (q : Point)
      → X (Place owner (Left ∷ path)) → node_at x owner path ≡ Some b
      → formula_at x.state owner path ≡ Some (Bind left body) → x.graph.row b ≡ Some r
      → Shows x (Built (scope_at x owner path)) (around x owner path) (term.Ref b) (Bind left body)
      → Among q (fixed_reads x.graph b r.def Change) → CoveredBy x X q
  left_covered owner path left body b r q is at f_is row (p, h, caps, op, sl, inner, fills, writes) among =
      let w = opened x.graph (scope_at x owner path) b (term.Bind p h caps) op in
      let same : w.0 ≡ r = (let e = w.1 in cc) in
      let d = plain_bind r.def p h caps (rw same at w.3) in
      bind_left d.0 d.1 d.2
    where
      bind_left : (l : NodeId) (caps : List NodeId) → r.def ≡ graph.Bind l h caps → CoveredBy x X q
      bind_left l caps def =
          elim (rw def at among) [
            | inl e ↦ rw e (
              Place owner (Left ∷ path),
              is,
              by_main {n = l}
                  (rw (at, row, def) refl) refl,
            )
            | inr none ↦ absurd none
          ]

  -- ---- one step

  declared_at : (k : ℕ) (n : NodeId) (body : Body) → x.nodes k ≡ n → body_at x.state k ≡ Some body
      → Declares x n (Some body)
  declared_at k n body same is = rw (same, is) at (fits.declared k)

  left_bind : (g f : Formula) → part_at g Left ≡ Some f → (l : Formula) × (b : Formula) × (g ≡ Bind l b)
  left_bind (Bind l b) f e = (l, b, refl)
  left_bind g f e = absurd (cc)

  choice_form : (f : Formula) → IsChoice (Some f) → IsForm f
  choice_form (If t a b) c = tt
  choice_form (Join c) h = tt
  choice_form f h = absurd h

  -- the formula of a left place's bind, and that its node shows it
  bind_shows : (owner : ℕ) (path : List Edge) (b : NodeId) → X (Place owner (Left ∷ path))
      → node_at x owner path ≡ Some b
      → (l : Formula) × (body : Formula) × (formula_at x.state owner path ≡ Some (Bind l body))
      × Shows x (Built (scope_at x owner path)) (around x owner path) (term.Ref b) (Bind l body)
  bind_shows owner path b is at =
      let there = closed.there owner (Left ∷ path) is in
      let above = part_above x.state owner path Left there.0 there.1 in
      let bind = left_bind above.0 there.0 above.2 in
      let f_is = rw bind.2 at above.1 in
      (bind.0, bind.1, f_is, place_shows x fits owner path b (Bind bind.0 bind.1) f_is at)

  module _ (died : NodeId → Option NodeId) (ghosts : GhostsCovered x X died) where
    main_step : (i : Item) (n : NodeId) (q : Point) → X i → node_of x i ≡ Some n
        → Depends x.functions x.graph died (main n) q → CoveredBy x X q
    main_step i n q is node (depend.ghost {b = b} row was e) =
        rw e (ghosts i (main n) b is (by_main node refl) row was)
    main_step i n q is node (depend.gate {r = r} {b = b} row scope e) =
        rw e (go (carrier x fits X closed i n r is node row))
      where
        go : Carrier x X n → CoveredBy x X (change b)
        go (at_name k body named same body_is form) =
            name_gate n b r body form row scope (declared_at k n body same body_is)
        go (at_place owner path f place at f_is form) =
            place_gate owner path f n b r place form row scope (place_shows x fits owner path n f f_is at)
        go (at_grab k c v named same body_is) = grab_gate k c v n b r named same body_is row scope
    main_step i n q is node (depend.fixed {r = r} row stands among) = go (carrier x fits X closed i n r is node row)
      where
        go : Carrier x X n → CoveredBy x X q
        go (at_name k body named same body_is form) =
            name_fixed k r body q named body_is form (rw same row) (fits_at k body body_is) (rw same among)
          where
            fits_at : (k : ℕ) (body : Body) → body_at x.state k ≡ Some body → Declares x (x.nodes k) (Some body)
            fits_at k body body_is = rw body_is at (fits.declared k)
        go (at_place owner path f place at f_is form) =
            fixed_covered owner path f n r q place at f_is form row (place_shows x fits owner path n f f_is at) among
        go (at_grab k c v named same body_is) =
            let w = live_place x fits X closed k c v n r named same body_is row stands in
            fixed_covered w.0 w.1 w.2 n r q w.3 w.4 w.5 w.6 row (place_shows x fits w.0 w.1 n w.2 w.5 w.4) among
    main_step i n q is node (depend.right {r = r} {s = s} {o = o} {m = m} row stands part sub gives among e) =
        rw e (go (carrier x fits X closed i n r is node row))
      where
        go : Carrier x X n → CoveredBy x X (main m)
        go (at_name k body named same body_is form) =
            absurd (name_subject n s r body form row (declared_at k n body same body_is) sub)
        go (at_place owner path f place at f_is form) =
            right_covered owner path f n s m r o place at f_is form row stands
            (place_shows x fits owner path n f f_is at) sub gives among
        go (at_grab k c v named same body_is) =
            let w = live_place x fits X closed k c v n r named same body_is row stands in
            right_covered w.0 w.1 w.2 n s m r o w.3 w.4 w.5 w.6 row stands
            (place_shows x fits w.0 w.1 n w.2 w.5 w.4) sub gives among

    choice_step : (owner : ℕ) (path : List Edge) (n : NodeId) (q : Point) → X (Place owner path)
        → node_at x owner path ≡ Some n → (f : Formula) → formula_at x.state owner path ≡ Some f → IsChoice (Some f)
        → Depends x.functions x.graph died (change n) q → CoveredBy x X q
    choice_step owner path n q is at f f_is choice (depend.ghost {b = b} row was e) =
        rw e (ghosts (Place owner path) (change n) b is (by_choice refl at (rw f_is choice) refl) row was)
    choice_step owner path n q is at f f_is choice (depend.gate {r = r} {b = b} row scope e) =
        rw e (place_gate owner path f n b r is (choice_form f choice) row scope
        (place_shows x fits owner path n f f_is at))
    choice_step owner path n q is at f f_is choice (depend.fixed {r = r} row stands among) =
        choice_covered owner path f n r q is at f_is choice row (place_shows x fits owner path n f f_is at) among
    choice_step owner path n q is at f f_is choice (depend.right row stands part sub gives among e) = absurd (cc)

    left_step : (owner : ℕ) (path : List Edge) (b : NodeId) (q : Point) → X (Place owner (Left ∷ path))
        → node_at x owner path ≡ Some b → Depends x.functions x.graph died (change b) q → CoveredBy x X q
    left_step owner path b q is at (depend.ghost {b = c} row was e) =
        rw e (ghosts (Place owner (Left ∷ path)) (change b) c is (by_left refl at refl) row was)
    left_step owner path b q is at (depend.gate {r = r} {b = c} row scope e) =
        let w = bind_shows owner path b is at in
        let same = row_scope x (scope_at x owner path) (around x owner path) b (Bind w.0 w.1) r tt
        (λ k e. cc) row w.3 in
        rw e (scope_covered owner (Left ∷ path) c is (rw same at scope))
    left_step owner path b q is at (depend.fixed {r = r} row stands among) =
        let w = bind_shows owner path b is at in left_covered owner path w.0 w.1 b r q is at w.2 row w.3 among
    left_step owner path b q is at (depend.right row stands part sub gives among e) = absurd (cc)

    variable_step : (owner : ℕ) (path : List Edge) (b c : NodeId) (r : Row) (v : GraphValue) (q : Point)
        → X (Place owner (Left ∷ path)) → node_at x owner path ≡ Some b → x.graph.row c ≡ Some r → r.scope ≡ Some b
        → r.def ≡ graph.Const v → Depends x.functions x.graph died (main c) q → CoveredBy x X q
    variable_step owner path b c r v q is at row scope def (depend.ghost row' was e) = absurd (cc)
    variable_step owner path b c r v q is at row scope def (depend.gate {r = r'} {b = b'} row' scope' e) =
        let same : r ≡ r' = cc in
        let same' : b ≡ b' = (let e' = rw same at scope in cc) in
        rw (e, ← same') (Place owner (Left ∷ path), is, by_left refl at refl)
    variable_step owner path b c r v q is at row scope def (depend.fixed {r = r'} row' stands among) =
        let same : r' ≡ r = cc in absurd (rw (same, def) at among)
    variable_step owner path b c r v q is at row scope def
        (depend.right {r = r'} {s = s} row' stands part sub gives among e) =
        let same : r' ≡ r = cc in absurd (let e' = rw (same, def) at sub in cc)

    -- what a covered point depends on is covered
    pub step_covered : (i : Item) (p q : Point) → X i → Covers x i p → Depends x.functions x.graph died p q
        → CoveredBy x X q
    step_covered i p q is (by_main {n = n} node e) dep = main_step i n q is node (rw e at dep)
    step_covered i p q is (by_choice {owner = owner} {path = path} {n = n} item at choice e) dep =
        let place = rw item at is in
        let there = closed.there owner path place in
        choice_step owner path n q place at there.0 there.1 (rw there.1 at choice) (rw e at dep)
    step_covered i p q is (by_left {owner = owner} {path = path} {b = b} item at e) dep =
        left_step owner path b q (rw item at is) at (rw e at dep)
    step_covered i p q is (by_variable {owner = owner} {path = path} {b = b} {c = c}
        {r = r} {v = v} item at row scope built for def e) dep =
        variable_step owner path b c r v q (rw item at is) at row scope def (rw e at dep)

    -- and so is all that is reached from it
    pub reached_covered : (p q : Point) → CoveredBy x X p → Reaches (Depends x.functions x.graph died) p q
        → CoveredBy x X q
    reached_covered p q c here = c
    reached_covered p q (i, is, covers) (step {b = b} dep on) =
        reached_covered b q (step_covered i p b is covers dep) on
