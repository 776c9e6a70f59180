-- A node that died in the call, and that an item of a set has, stood in the scope of a bind whose left the set has.
use Rattle.std.proofs.Common.{◌≡◌, inl, inr, ℕ, true, false, List, [], ◌∷◌, map, Option, None, Some, refl, sym}
use Rattle.std.specs.Prelude as std
use Rattle.inc_value.specs.declared.node.NodeId.{NodeId}
use Rattle.inc_terms.specs.Depend.{change}
use Rattle.inc_terms.specs.Graph as graph
use Rattle.inc_terms.specs.Graph.{Def}
use Rattle.inc_terms.specs.Term as term
use Rattle.script_model.specs.Formula as script
use Rattle.script_model.specs.Formula.{Formula, Body, body_at, Literal, Name, Bound, Apply, Fold, If, Join, Bind, At, Steps, Now, Variable, Computed, Freeze, After, Every, Expert, Grab}
use Rattle.script_model.specs.Need.{Left, Item, Named, Place, part_at, outcome_at}
use Rattle.transfer.specs.Both.{Both, graph_value}
use Rattle.transfer.specs.Shows.{Mode, Spelled, Built, Binding, Opens, graph_step, Shows, IsTop, Declares, IsOwn, Fits}
use Rattle.transfer.specs.Items.{node_at, node_of, around, scope_at, by_main, by_choice, by_left, by_variable, IsChoice, CoveredBy, Closed, GhostsCovered}
use Rattle.transfer.proofs.Places.{opened, part_above, place_shows}
use Rattle.transfer.proofs.Agreement.{own_or, live_facts}
use Rattle.transfer.proofs.Carriers.{name_or, part_in, whole_in}
use Rattle.transfer.specs.Cycles.{IsForm}
use Rattle.transfer.proofs.Enclosed.{grab_left}

-- a form that a node shows has a row
pub form_row : (x : Both) (m : Mode) (E : List Binding) (n : NodeId) (f : Formula) → IsForm f → Shows x m E (term.Ref n) f
    → x.graph.row n ≡ None → ⊥
form_row x m E n f form shows gone = by_form f form shows
  where
    dead : (m : Mode) (u : term.Term) → ((k : NodeId) → u ≡ term.Ref k → ⊥) → Opens x.graph m (term.Ref n) u → ⊥
    dead Spelled u other e = other n (sym e)
    dead (Built S) u other op = let o = opened x.graph S n u op in let row = o.1 in cc

    by_form : (f : Formula) → IsForm f → Shows x m E (term.Ref n) f → ⊥
    by_form (Name t) form shows = form
    by_form (Bound k) form (b, e, op) = dead b.mode (term.Const (graph_value x.nodes b.value)) (λ k e. cc) op
    by_form (Literal v) form op = dead m (term.Const (graph_value x.nodes v)) (λ k e. cc) op
    by_form (Apply g fs) form s = dead m (term.Map g s.0) (λ k e. cc) s.1
    by_form (Fold g v fs) form s = dead m (term.Fold g (graph_value x.nodes v) s.0) (λ k e. cc) s.1
    by_form (If p q r) form s = dead m (term.If s.0 s.1 s.2) (λ k e. cc) s.3
    by_form (Join c) form s = dead m (term.Join s.0) (λ k e. cc) s.1
    by_form (Bind l b) form s = dead m (term.Bind s.0 s.1 s.2) (λ k e. cc) s.3
    by_form (At t) form op = dead m (term.At (std.pos t)) (λ k e. cc) op
    by_form (Steps v ss) form op =
        dead m (term.Steps (graph_value x.nodes v) (map (graph_step x.nodes) ss)) (λ k e. cc) op
    by_form Now form op = dead m term.Now (λ k e. cc) op

module _ (x : Both) (fits : Fits x) (X : Item → Type 0) (closed : Closed x X) where
  top_dead : (n : NodeId) (def : Def) → IsTop x.graph n def → x.graph.row n ≡ None → ⊥
  top_dead n def (r, row, scope, is) gone = cc

  own_ghost : (k : ℕ) (b : NodeId) (body : Option Body) → X (Named k) → body_at x.state k ≡ body
      → Declares x (x.nodes k) body → IsOwn body → x.graph.row (x.nodes k) ≡ None → x.died (x.nodes k) ≡ Some b
      → CoveredBy x X (change b)
  own_ghost k b None is body dec own gone died = absurd (let e = dec.1 in cc)
  own_ghost k b (Some (Variable v)) is body dec own gone died =
      absurd (top_dead (x.nodes k) (graph.Var (graph_value x.nodes v)) dec gone)
  own_ghost k b (Some (After t)) is body dec own gone died =
      absurd (top_dead (x.nodes k) (graph.At (std.pos t)) dec gone)
  own_ghost k b (Some (Every t u)) is body dec own gone died =
      absurd (top_dead (x.nodes k) (graph.Every (std.pos t) (std.pos u)) dec.0 gone)
  own_ghost k b (Some (Freeze c p v)) is body dec own gone died =
      absurd (top_dead (x.nodes k) (graph.Freeze dec.0 p) dec.1 gone)
  own_ghost k b (Some (Expert g v l s)) is body dec own gone died =
      absurd (top_dead (x.nodes k) (graph.Expert g (graph_value x.nodes v) dec.0) dec.1 gone)
  own_ghost k b (Some (Computed f kept)) is body dec own gone died = elim (name_or f) [
    | inl (t, e) ↦ absurd (rw e at own)
    | inr form ↦ absurd (form_row x (Built None) [] (x.nodes k) f form dec gone)
  ]
  own_ghost k b (Some (Grab c v false)) is body dec own gone died = absurd (let e = dec.1 in cc)
  own_ghost k b (Some (Grab c v true)) is body (inl live) own gone died =
      absurd (let g = live_facts x fits k c v body live in let row = g.6 in cc)
  own_ghost k b (Some (Grab c v true)) is body (inr (p, row, was, other, gives, elsewhere)) own gone died =
      let g = fits.grabbed k c v body in by_bind g.left g.body g.kept g.is_bind
    where
      by_bind : (left body : Formula) (kept : script.Kept) → body_at x.state c ≡ Some (Computed (Bind left body) kept)
          → CoveredBy x X (change b)
      by_bind left f kept bind_is =
          let same : x.nodes c ≡ b = cc in
          let at : node_at x c [] ≡ Some (x.nodes c) = rw bind_is refl in
          rw (← same) (
            Place c (Left ∷ []),
            closed.reads (Named k) (Place c (Left ∷ [])) is (
              0,
              rw body (grab_left x.meanings x.state X c v
                  (outcome_at x.meanings x.state 0 (Place c (Left ∷ [])))),
            ),
            by_left refl at refl,
          )

  name_ghost : (k : ℕ) (b : NodeId) → X (Named k) → x.graph.row (x.nodes k) ≡ None → x.died (x.nodes k) ≡ Some b
      → CoveredBy x X (change b)
  name_ghost k b is gone died = elim (own_or x fits (body_at x.state k)) [
    | inl own ↦ own_ghost k b (body_at x.state k) is refl (fits.declared k) own gone died
    | inr (t, kept, e) ↦
        let nodes : term.Ref (x.nodes k) ≡ term.Ref (x.nodes t) = rw e at (fits.declared k) in
        let same : x.nodes k ≡ x.nodes t = cc in
        let whole : X (Place k []) = whole_in x fits X closed k (Name t) kept is e in
        let named : X (Named t) = part_in x fits X closed k [] (Name t) 0 (Named t) whole (rw e refl) (inl refl) in
        own_ghost t b (body_at x.state t) named refl (fits.declared t) (fits.resolved k t kept e) (rw same at gone)
        (rw same at died)
  ]

  item_ghost : (i : Item) (n b : NodeId) → X i → node_of x i ≡ Some n → x.graph.row n ≡ None → x.died n ≡ Some b
      → CoveredBy x X (change b)
  item_ghost (Named k) n b is node gone died =
      let same : n ≡ x.nodes k = cc in name_ghost k b is (rw same at gone) (rw same at died)
  item_ghost (Place owner path) n b is node gone died =
      let there = closed.there owner path is in
      elim (name_or there.0) [
        | inl (t, e) ↦
            let f_is = rw e at there.1 in
            let shows = place_shows x fits owner path n (Name t) f_is node in
            let same : n ≡ x.nodes t = cc in
            name_ghost t b (part_in x fits X closed owner path (Name t) 0 (Named t) is f_is (inl refl))
            (rw same at gone) (rw same at died)
        | inr form ↦ absurd (form_row x (Built (scope_at x owner path)) (around x owner path) n there.0 form
            (place_shows x fits owner path n there.0 there.1 node) gone)
      ]

  choice_form : (f : Formula) → IsChoice (Some f) → IsForm f
  choice_form (If t a b) c = tt
  choice_form (Join c) h = tt
  choice_form f h = absurd h

  left_form : (g f : Formula) → part_at g Left ≡ Some f → IsForm g
  left_form (Bind l b) f e = tt
  left_form g f e = absurd (cc)

  -- a node that died in the call and whose points a set covers was a live grab's
  pub ghosts_covered : GhostsCovered x X x.died
  ghosts_covered i p b is (by_main {n = n} node e) gone died = item_ghost i n b is node (rw e at gone) (rw e at died)
  ghosts_covered i p b is (by_choice {owner = owner} {path = path} {n = n} item at choice e) gone died =
      let there = closed.there owner path (rw item at is) in
      absurd (form_row x (Built (scope_at x owner path)) (around x owner path) n there.0
      (choice_form there.0 (rw there.1 at choice)) (place_shows x fits owner path n there.0 there.1 at)
      (rw e at gone))
  ghosts_covered i p b is (by_left {owner = owner} {path = path} {b = c} item at e) gone died =
      let there = closed.there owner (Left ∷ path) (rw item at is) in
      let above = part_above x.state owner path Left there.0 there.1 in
      absurd (form_row x (Built (scope_at x owner path)) (around x owner path) c above.0
      (left_form above.0 there.0 above.2) (place_shows x fits owner path c above.0 above.1 at) (rw e at gone))
  ghosts_covered i p b is (by_variable {c = c} item at row scope built for def e) gone died =
      absurd (let none = rw e at gone in cc)
