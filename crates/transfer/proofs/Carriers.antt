-- From an item to the item whose own row its node is; what places give.
use Rattle.std.proofs.Common.{◌≡◌, ◌⊎◌, inl, inr, ℕ, zero, suc, true, false, List, [], ◌∷◌, Option, None, Some, refl, sym, ap, subst, cond}
use Rattle.std.specs.Prelude as std
use Rattle.inc_value.specs.declared.node.NodeId.{NodeId}
use Rattle.inc_value.specs.declared.outcome.Outcome.{Outcome as GraphOutcome}
use Rattle.inc_value.specs.declared.outcome.Outcome.TheVariants as outcome
use Rattle.inc_value.specs.declared.value.Value.{Value as GraphValue}
use Rattle.inc_value.specs.declared.value.Value.TheVariants as held
use Rattle.inc_value.specs.Choice.{and_then, Among}
use Rattle.inc_terms.specs.Same.{same_outcome}
use Rattle.inc_terms.specs.Evaluate as engine
use Rattle.inc_terms.specs.Evaluate.{answer, NodeGives, Stands, Of, Around}
use Rattle.inc_terms.specs.Graph as graph
use Rattle.inc_terms.specs.Graph.{Row, Def}
use Rattle.inc_terms.specs.Term as term
use Rattle.script_model.specs.Values.{Value, Outcome, Val}
use Rattle.script_model.specs.Formula as script
use Rattle.script_model.specs.Formula.{Formula, Body, body_at, Name, Bind, Variable, Computed, Freeze, After, Every, Expert, Grab}
use Rattle.script_model.specs.Evaluate.{value_at, Gives}
use Rattle.script_model.specs.Need.{Edge, Argument, Test, Then, Else, Child, Left, Inside, Item, Named, Place, environment, part_at, formula_at, outcome_at, ItemGives, part_reads, scope_reads, grab_reads}
use Rattle.script_model.proofs.NeededStands.{among_left}
use Rattle.transfer.specs.Both.{Both, graph_outcome}
use Rattle.transfer.specs.Cycles.{IsForm}
use Rattle.transfer.specs.Shows.{Built, Binding, values, Shows, Declares, IsOwn, Fits, Sound}
use Rattle.transfer.specs.Items.{part_node, root_at, node_at, node_of, around, scope_at, Closed}
use Rattle.transfer.proofs.Places.{opened, part_above, then_some, place_shows}
use Rattle.transfer.proofs.Agreement.{own_or, term_agrees, same_itself, grab_facts}

pub name_or : (f : Formula) → ((t : ℕ) × (f ≡ Name t)) ⊎ IsForm f
name_or (Name t) = inl (t, refl)
name_or f = inr tt

pub values_around : (x : Both) (owner : ℕ) (path : List Edge) → values (around x owner path) ≡ environment path
values_around x owner [] = refl
values_around x owner (Inside v ∷ path) = ap (λ E. v ∷ E) (values_around x owner path)
values_around x owner (Argument k ∷ path) = values_around x owner path
values_around x owner (Test ∷ path) = values_around x owner path
values_around x owner (Then ∷ path) = values_around x owner path
values_around x owner (Else ∷ path) = values_around x owner path
values_around x owner (Child ∷ path) = values_around x owner path
values_around x owner (Left ∷ path) = values_around x owner path

-- what is declared and has a row of its own, that no place has
abbrev pub IsForm-body : Body → Type 0
IsForm-body (Computed f kept) = ⊥
IsForm-body (Grab b v is_live) = ⊥
IsForm-body body = Unit {0}

-- the item whose own row a node is
pub data Carrier (x : Both) (X : Item → Type 0) (n : NodeId) : Type 0 where
  at_name : (k : ℕ) (body : Body) → X (Named k) → x.nodes k ≡ n → body_at x.state k ≡ Some body → IsForm-body body
      → Carrier x X n
  at_place : (owner : ℕ) (path : List Edge) (f : Formula) → X (Place owner path) → node_at x owner path ≡ Some n
      → formula_at x.state owner path ≡ Some f → IsForm f → Carrier x X n
  at_grab : (k b : ℕ) (v : Value) → X (Named k) → x.nodes k ≡ n → body_at x.state k ≡ Some (Grab b v true)
      → Carrier x X n

module _ (x : Both) (fits : Fits x) (X : Item → Type 0) (closed : Closed x X) where
  -- what the parts of a place are is of the set
  pub part_in : (owner : ℕ) (path : List Edge) (f : Formula) (d : ℕ) (j : Item) → X (Place owner path)
      → formula_at x.state owner path ≡ Some f
      → Among j (part_reads (value_at x.meanings x.state d (environment path)) owner path f) → X j
  part_in owner path f d j is f_is among =
      closed.reads (Place owner path) j is (
        d,
        rw f_is
            (among_left j (part_reads (value_at x.meanings x.state d (environment path)) owner path f)
            (scope_reads owner path f) among),
      )

  pub whole_in : (k : ℕ) (f : Formula) (kept : script.Kept) → X (Named k) → body_at x.state k ≡ Some (Computed f kept)
      → X (Place k [])
  whole_in k f kept is body = closed.reads (Named k) (Place k []) is (0, rw body (inl refl))

  own_carrier : (k : ℕ) (r : Row) (body : Option Body) → X (Named k) → body_at x.state k ≡ body
      → Declares x (x.nodes k) body → IsOwn body → x.graph.row (x.nodes k) ≡ Some r
      → Carrier x X (x.nodes k)
  own_carrier k r None is body dec own row = absurd (let e = dec.0 in cc)
  own_carrier k r (Some (Computed f kept)) is body dec own row = elim (name_or f) [
    | inl (t, e) ↦ absurd (rw e at own)
    | inr form ↦ at_place k [] f (whole_in k f kept is body) (rw body refl) (rw body refl) form
  ]
  own_carrier k r (Some (Grab b v false)) is body dec own row = absurd (let e = dec.0 in cc)
  own_carrier k r (Some (Grab b v true)) is body dec own row = at_grab k b v is refl body
  own_carrier k r (Some (Variable v)) is body dec own row = at_name k (Variable v) is refl body tt
  own_carrier k r (Some (Freeze c p v)) is body dec own row = at_name k (Freeze c p v) is refl body tt
  own_carrier k r (Some (After t)) is body dec own row = at_name k (After t) is refl body tt
  own_carrier k r (Some (Every t u)) is body dec own row = at_name k (Every t u) is refl body tt
  own_carrier k r (Some (Expert g v l s)) is body dec own row = at_name k (Expert g v l s) is refl body tt

  pub name_carrier : (k : ℕ) (r : Row) → X (Named k) → x.graph.row (x.nodes k) ≡ Some r → Carrier x X (x.nodes k)
  name_carrier k r is row = elim (own_or x fits (body_at x.state k)) [
    | inl own ↦ own_carrier k r (body_at x.state k) is refl (fits.declared k) own row
    | inr (t, kept, e) ↦
        let nodes : term.Ref (x.nodes k) ≡ term.Ref (x.nodes t) = rw e at (fits.declared k) in
        let same : x.nodes k ≡ x.nodes t = cc in
        let whole : X (Place k []) = whole_in k (Name t) kept is e in
        let named : X (Named t) = part_in k [] (Name t) 0 (Named t) whole (rw e refl) (inl refl) in
        rw same (own_carrier t r (body_at x.state t) named refl (fits.declared t) (fits.resolved k t kept e)
        (rw same at row))
  ]

  -- from an item of a live node, by at most four reads
  pub carrier : (i : Item) (n : NodeId) (r : Row) → X i → node_of x i ≡ Some n → x.graph.row n ≡ Some r
      → Carrier x X n
  carrier (Named k) n r is node row = let same : x.nodes k ≡ n = cc in rw same at (name_carrier k r is (rw same row))
  carrier (Place owner path) n r is node row =
      let there = closed.there owner path is in
      elim (name_or there.0) [
        | inl (t, e) ↦
            let f_is = rw e at there.1 in
            let shows = place_shows x fits owner path n (Name t) f_is node in
            let same : n ≡ x.nodes t = cc in
            rw same (name_carrier t r (part_in owner path (Name t) 0 (Named t) is f_is (inl refl)) (rw same at row))
        | inr form ↦ at_place owner path there.0 is node there.1 form
      ]

-- a place with a form, whose node is n
abbrev pub Placed : (x : Both) → (Item → Type 0) → NodeId → Type 0
Placed x X n = (owner : ℕ) × (path : List Edge) × (f : Formula) × X (Place owner path)
    × (node_at x owner path ≡ Some n) × (formula_at x.state owner path ≡ Some f) × IsForm f

-- a live grab whose node stands reads its bind's body
pub live_place : (x : Both) (fits : Fits x) (X : Item → Type 0) (closed : Closed x X) (k b : ℕ) (v : Value)
    (n : NodeId) (r : Row) → X (Named k) → x.nodes k ≡ n → body_at x.state k ≡ Some (Grab b v true)
    → x.graph.row n ≡ Some r → Stands x.functions x.graph r.scope → Placed x X n
live_place x fits X closed k b v n r is same body_is row stands =
    let g = grab_facts x fits k b v r (rw same row) body_is in
    let row' = rw same at g.6 in
    by_facts g.0 g.1 g.2 g.3 g.4 g.5 row' g.7 (rw same at g.8) g.9
  where
    read : (left body : Formula) (kept : script.Kept) (d : ℕ)
        → body_at x.state b ≡ Some (Computed (Bind left body) kept)
        → value_at x.meanings x.state d [] left ≡ Some (Val v) → X (Place b (Inside v ∷ []))
    read left body kept d bind_is gives =
        let left_is : outcome_at x.meanings x.state d (Place b (Left ∷ [])) ≡ Some (Val v) = rw bind_is gives in
        let among : Among (Place b (Inside v ∷ [])) (grab_reads b v (Some (Val v))) =
        subst (λ (t : std.Bool). Among (Place b (Inside v ∷ []))
        (elim t [ true ↦ Place b (Left ∷ []) ∷ Place b (Inside v ∷ []) ∷ [] | false ↦ Place b (Left ∷ []) ∷ [] ]))
        (sym (same_itself v)) (inr (inl refl)) in
        let among' = subst (λ (o : Option Outcome). Among (Place b (Inside v ∷ [])) (grab_reads b v o))
        (sym left_is) among in
        closed.reads (Named k) (Place b (Inside v ∷ [])) is (d, rw body_is among')

    by_facts : (left body : Formula) (kept : script.Kept) → body_at x.state b ≡ Some (Computed (Bind left body) kept)
        → ((t : ℕ) → body ≡ Name t → ⊥) → (r' : Row) → x.graph.row n ≡ Some r' → r'.scope ≡ Some (x.nodes b)
        → node_at x b (Inside v ∷ []) ≡ Some n →
        (Stands x.functions x.graph (Some (x.nodes b)) → Gives x.meanings x.state [] left (Val v)) → Placed x X n
    by_facts left body kept bind_is named r' row' scope at gives =
        let rows : r ≡ r' = cc in
        let scope_is : r.scope ≡ Some (x.nodes b) = rw (← rows) at scope in
        let g = gives (rw scope_is at stands) in (
          b,
          Inside v ∷ [],
          body,
          read left body kept g.0 bind_is g.1,
          at,
          rw bind_is refl,
          elim (name_or body)
              [ inl named_is ↦ absurd (named named_is.0 named_is.1) | inr form ↦ form ],
        )

-- ---- what stands round a place

as_built_true : (w : Option graph.Built) (o : GraphOutcome) (v : GraphValue)
    → engine.as_built w o ≡ Some (outcome.Val v) → v ≡ held.Bool true
as_built_true None o v e = absurd (cc)
as_built_true (Some w) o v e = go (same_outcome o w.outcome) e
  where
    go : (b : std.Bool) → cond b (Some (outcome.Val (held.Bool true))) (Some outcome.Invalid) ≡ Some (outcome.Val v)
        → v ≡ held.Bool true
    go true e = cc
    go false e = absurd (cc)

left_true : (part : engine.Query → Option GraphOutcome) (w : Option graph.Built) (def : Def) (v : GraphValue)
    → engine.left_holds part w def ≡ Some (outcome.Val v) → v ≡ held.Bool true
left_true part w (graph.Bind l f caps) v e = go (part (Of (term.Ref l))) e
  where
    go : (a : Option GraphOutcome) → and_then a (engine.as_built w) ≡ Some (outcome.Val v) → v ≡ held.Bool true
    go None e = absurd (cc)
    go (Some o) e = as_built_true w o v e
left_true part w def v e = absurd (cc)

-- a scope gives nothing but true and Invalid
round_true : (x : Both) (d : ℕ) (S : Option NodeId) (v : GraphValue) → answer x.functions x.graph d (Around S) ≡ Some
    (outcome.Val v) → v ≡ held.Bool true
unfolding answer
round_true x zero S v e = absurd (cc)
round_true x (suc d) None v e = cc
round_true x (suc d) (Some b) v e = go (x.graph.row b) e
  where
    after : (r : Row) (a : Option GraphOutcome)
        → engine.with_value a (λ t. engine.left_holds (answer x.functions x.graph d) (x.graph.built b) r.def) ≡ Some
        (outcome.Val v) → v ≡ held.Bool true
    after r None e = absurd (cc)
    after r (Some outcome.Invalid) e = absurd (cc)
    after r (Some (outcome.Val w)) e = left_true (answer x.functions x.graph d) (x.graph.built b) r.def v e

    go : (r : Option Row) → engine.bind_holds (answer x.functions x.graph d) (x.graph.built b) r ≡ Some
        (outcome.Val v) → v ≡ held.Bool true
    go None e = absurd (cc)
    go (Some r) e = after r (answer x.functions x.graph d (Around r.scope)) e

bind_row : (x : Both) (S : Option NodeId) (E : List Binding) (n : NodeId) (g : Formula) (v : Value) (f : Formula)
    → Shows x (Built S) E (term.Ref n) g → part_at g (Inside v) ≡ Some f
    → (r : Row) × (x.graph.row n ≡ Some r) × (r.scope ≡ S)
bind_row x S E n (Bind l b) v f (p, h, caps, op, rest, inner, fills, writes) is =
    let o = opened x.graph S n (term.Bind p h caps) op in (o.0, o.1, o.2)
bind_row x S E n g v f shows is = absurd (cc)

-- where a bind's scope holds so does the one that it stands in
pub outer_stands : (x : Both) (b : NodeId) (r : Row) → x.graph.row b ≡ Some r → Stands x.functions x.graph (Some b)
    → Stands x.functions x.graph r.scope
unfolding answer
outer_stands x b r row (zero, e) = absurd (cc)
outer_stands x b r row (suc d, e) = go (answer x.functions x.graph d (Around r.scope)) refl (rw row at e)
  where
    go : (a : Option GraphOutcome) → answer x.functions x.graph d (Around r.scope) ≡ a
        → engine.with_value a (λ v. engine.left_holds (answer x.functions x.graph d) (x.graph.built b) r.def) ≡ Some
        (outcome.Val (held.Bool true))
        → Stands x.functions x.graph r.scope
    go None at g = absurd (cc)
    go (Some outcome.Invalid) at g = absurd (cc)
    go (Some (outcome.Val v)) at g = let same = round_true x d r.scope v at in (d, rw same at at)

module _ (x : Both) (fits : Fits x) where
  -- where the scope of a place holds, all hold that are round it
  pub sound_at : (owner : ℕ) (path : List Edge) (f : Formula) → formula_at x.state owner path ≡ Some f
      → Stands x.functions x.graph (scope_at x owner path) → (n : NodeId) → node_at x owner path ≡ Some n
      → Sound x (Built (scope_at x owner path)) (around x owner path)
  sound_at owner [] f is stands n at = (stands, tt)
  sound_at owner (Inside v ∷ path) f is stands n at =
      let above = part_above x.state owner path (Inside v) f is in
      let node = then_some (node_at x owner path) (λ b. and_then (x.graph.built b) (root_at x.nodes v)) n at in
      let shows = place_shows x fits owner path node.0 above.0 above.1 node.1 in
      let row = bind_row x (scope_at x owner path) (around x owner path) node.0 above.0 v f shows above.2 in
      let outer = rw row.2 at (outer_stands x node.0 row.0 row.1 (rw node.1 at stands)) in
      (stands, (stands, (sound_at owner path above.0 above.1 outer node.0 node.1).1))
  sound_at owner (Argument k ∷ path) f is stands n at =
      let above = part_above x.state owner path (Argument k) f is in
      let node = then_some (node_at x owner path)
      (λ b. and_then (x.graph.row b) (λ r. part_node r.def (Argument k))) n at in
      sound_at owner path above.0 above.1 stands node.0 node.1
  sound_at owner (Test ∷ path) f is stands n at =
      let above = part_above x.state owner path Test f is in
      let node = then_some (node_at x owner path) (λ b. and_then (x.graph.row b) (λ r. part_node r.def Test)) n at in
      sound_at owner path above.0 above.1 stands node.0 node.1
  sound_at owner (Then ∷ path) f is stands n at =
      let above = part_above x.state owner path Then f is in
      let node = then_some (node_at x owner path) (λ b. and_then (x.graph.row b) (λ r. part_node r.def Then)) n at in
      sound_at owner path above.0 above.1 stands node.0 node.1
  sound_at owner (Else ∷ path) f is stands n at =
      let above = part_above x.state owner path Else f is in
      let node = then_some (node_at x owner path) (λ b. and_then (x.graph.row b) (λ r. part_node r.def Else)) n at in
      sound_at owner path above.0 above.1 stands node.0 node.1
  sound_at owner (Child ∷ path) f is stands n at =
      let above = part_above x.state owner path Child f is in
      let node = then_some (node_at x owner path) (λ b. and_then (x.graph.row b) (λ r. part_node r.def Child)) n at in
      sound_at owner path above.0 above.1 stands node.0 node.1
  sound_at owner (Left ∷ path) f is stands n at =
      let above = part_above x.state owner path Left f is in
      let node = then_some (node_at x owner path) (λ b. and_then (x.graph.row b) (λ r. part_node r.def Left)) n at in
      sound_at owner path above.0 above.1 stands node.0 node.1

  -- where the scope of a place holds, what its node gives the place gives
  pub place_agrees : (owner : ℕ) (path : List Edge) (f : Formula) (n : NodeId) (o : GraphOutcome)
      → formula_at x.state owner path ≡ Some f → node_at x owner path ≡ Some n
      → Stands x.functions x.graph (scope_at x owner path) → NodeGives x.functions x.graph n o
      → (p : Outcome) × (o ≡ graph_outcome x.nodes p) × ItemGives x.meanings x.state (Place owner path) p
  place_agrees owner path f n o is at stands gives =
      let w = term_agrees x fits (Built (scope_at x owner path)) (around x owner path) (term.Ref n) f o
      (place_shows x fits owner path n f is at) (sound_at owner path f is stands n at) gives in
      let g = rw (values_around x owner path) at w.2 in
      (w.0, w.1, (g.0, rw is g.1))
