-- A state of a script beside the graph that a stabilize leaves, accepted or refused: the two fit, but for grabs that died in it.
use Rattle.std.proofs.Common.{◌≡◌, ◌⊎◌, inl, inr, ℕ, ℤ, pos, ◌-◌, ◌/◌, ◌-ℤ◌, true, false, List, [], ◌∷◌, Option, None, Some, is_some, refl, sym, ap, subst, ◌∙◌, arith}
use Rattle.std.proofs.lemmas.Bool.{cases_lt}
use Rattle.std.specs.Int.Signed.{quot_z}
use Rattle.inc_value.specs.Choice.{and_then}
use Rattle.inc_value.specs.declared.function.FnRef.{FnRef}
use Rattle.inc_value.specs.declared.node.NodeId.{NodeId}
use Rattle.inc_value.specs.declared.outcome.Outcome.{Outcome as GraphOutcome}
use Rattle.inc_value.specs.declared.outcome.Outcome.TheVariants as outcome
use Rattle.inc_value.specs.declared.value.Value.{Value as GraphValue}
use Rattle.inc_terms.specs.Depend.{scope_lost}
use Rattle.inc_terms.specs.Graph as graph_def
use Rattle.inc_terms.specs.Graph.{Graph, Row, Built as BuiltFor}
use Rattle.inc_terms.specs.Rebuild.{Inside, direct, nested}
use Rattle.inc_terms.specs.Rebuilding.{outcome_of}
use Rattle.inc_terms.specs.Term as term
use Rattle.inc_terms.specs.Term.{Functions}
use Rattle.inc_terms.specs.Within.{Given}
use Rattle.stabilizer.specs.Left.{IsBuiltOther}
use Rattle.graph.specs.Sound.{IsSoundGraph}
use Rattle.graph.specs.Stabilizes.{LeavesNodes, left_by, died_by}
use Rattle.graph.specs.Standing.{GraphView, graph}
use Rattle.node_arena.specs.Arena.{row_at}
use Rattle.node_outcomes.specs.Meaning.{Meaning}
use Rattle.stabilize_round.specs.Laws.{GraphStays}
use Rattle.stabilize_round.specs.Runs.{LeftDiffers}
use Rattle.wiring.specs.Stands.{Counts}
use Rattle.script_model.specs.Evaluate.{Gives}
use Rattle.script_model.specs.Formula as script
use Rattle.script_model.specs.Formula.{State, Body, Formula, Meanings, body_at, formula_of_body, Bind, Variable, Computed, Freeze, After, Every, Expert, Grab}
use Rattle.script_model.specs.Need.{Left, part_of, formula_at}
use Rattle.script_model.specs.Valid.{KeepToTypes, Valid}
use Rattle.script_model.specs.Values.{Value, Outcome}
use Rattle.script_graph.specs.Kept.{Kept, arena_of, node_in, no_node}
use Rattle.script_graph.specs.Represents.{graph_functions, beside, Represents}
use Rattle.script_graph.specs.Settled.{ScopesBuilt}
use Rattle.script_graph.specs.Today.{FreezesAreDeclared, IsWithin, IsPartWithin, OwnNodesOf}
use Rattle.script_graph.proofs.Beside.{represented_fits}
use Rattle.script_graph.proofs.Extending.{body_past, never_given, node_past}
use Rattle.script_graph.proofs.Firing.{same_rooted}
use Rattle.script_graph.proofs.Leaving.{outcome_or, tops_stay}
use Rattle.script_graph.proofs.OneOwner.{outside_is_in_none}
use Rattle.script_graph.proofs.Staying.{TopsStay, shows_on, top_on, own_nodes_then}
use Rattle.script_model.specs.Formula.{meanings_of}
use Rattle.transfer.specs.Both.{Both, graph_value, graph_outcome}
use Rattle.transfer.specs.Items.{node_at}
use Rattle.transfer.specs.Shows.{BindsRooted, Built, Declares, Fits, Lost, Shows}
use Rattle.transfer.proofs.Agreement.{LiveFacts, live_facts}
use Rattle.transfer.proofs.Carriers.{place_agrees}
use Rattle.transfer.proofs.Places.{opened, plain_bind, stands_none}

-- the nodes of dead grabs were given
abbrev pub DeadGrabsGiven : State → Kept → Type 0
DeadGrabsGiven s k = (n b : ℕ) (v : Value) → body_at s n ≡ Some (Grab b v false) → Given (arena_of k).given (node_in k.nodes n)

-- a stabilize of the graph that is kept of a valid state, which leaves this graph
pub record IsStabilize (F : Meanings) (s : State) (k : Kept) (g : GraphView (Unit {0})) : Type 0 where
  pub meaning : Meaning
  pub meaning' : Meaning
  pub before : Counts
  pub after : Counts
  pub keep : KeepToTypes F
  pub valid : Valid F s
  pub held : Represents F s k
  pub grabs : DeadGrabsGiven s k
  pub sound : IsSoundGraph meaning k.graph
  pub functions : meaning.functions ≡ graph_functions F k.bodies
  pub sound' : IsSoundGraph meaning' g
  pub functions' : meaning'.functions ≡ graph_functions F k.bodies
  pub built : ScopesBuilt (graph k.graph)
  pub stays : GraphStays (arena_of k).given g.nodes.given (graph k.graph) (left_by k.graph g)
  pub left : LeavesNodes (graph_functions F k.bodies) k.graph g before after

-- the state beside the graph that it leaves, and who died
abbrev pub middle : Meanings → State → Kept → GraphView (Unit {0}) → Both
middle F s k g = record {
  meanings = F;
  state = s;
  functions = graph_functions F k.bodies;
  graph = left_by k.graph g;
  nodes = node_in k.nodes;
  died = died_by k.graph g;
}

module _ (named : List ℕ → Option FnRef) (value : FnRef → List GraphValue → GraphValue) (s : State) (k : Kept) (g : GraphView (Unit {0}))
    (c : IsStabilize (meanings_of named value) s k g) where
  abbrev F : Meanings
  F = meanings_of named value

  abbrev M : Functions
  M = graph_functions F k.bodies

  abbrev G : Graph
  G = graph k.graph

  abbrev G' : Graph
  G' = graph g

  abbrev x : Both
  x = beside F s k

  abbrev y : Both
  y = middle F s k g

  pub given : (n : NodeId) (r : Row) → row_at k.graph.nodes n ≡ Some r → Given k.graph.nodes.given n
  given n r row = c.sound.nodes.given n (ap is_some row)

  rooted : BindsRooted M G
  rooted = subst (λ (H : Functions). BindsRooted H G) c.functions c.sound.built

  pub rooted_then : BindsRooted M G'
  rooted_then = subst (λ (H : Functions). BindsRooted H G') c.functions' c.sound'.built

  pub fits_before : Fits x
  fits_before = represented_fits named value s k c.keep c.valid rooted c.held

  pub tops : TopsStay G G'
  tops = tops_stay M k.graph g c.before c.after given c.sound.scopes c.built c.stays c.left

  -- ---- binds outside bodies

  -- the node of a bind that is declared
  pub record IsBindNode (bind : ℕ) : Type 0 where
    pub row : Row
    pub is_row : G.row (node_in k.nodes bind) ≡ Some row
    pub outside : row.scope ≡ None
    pub left : NodeId
    pub function : FnRef
    pub captures : List NodeId
    pub is_bind : row.def ≡ graph_def.Bind left function captures

  pub bind_node : (bind : ℕ) (left body : Formula) (kept : script.Kept) → body_at s bind ≡ Some (Computed (Bind left body) kept) → IsBindNode bind
  bind_node bind left body kept is =
      let h : Shows x (Built None) [] (term.Ref (node_in k.nodes bind)) (Bind left body) = rw is at (c.held.declares bind) in
      let o = opened G None (node_in k.nodes bind) (term.Bind h.0 h.1 h.2) h.3 in
      let d = plain_bind o.0.def h.0 h.1 h.2 o.3 in
      record { row = o.0; is_row = o.1; outside = o.2; left = d.0; function = h.1; captures = d.1; is_bind = d.2 }

  -- its left place has the node that it names
  pub left_node : (bind : ℕ) (left body : Formula) (kept : script.Kept) → body_at s bind ≡ Some (Computed (Bind left body) kept) → (z : Both) → z.state ≡ s
      → (r : Row) (l : NodeId) (f : FnRef) (caps : List NodeId) → z.graph.row (z.nodes bind) ≡ Some r → r.def ≡ graph_def.Bind l f caps
      → node_at z bind (Left ∷ []) ≡ Some l
  left_node bind left body kept is z same r l f caps row def =
      let here : body_at z.state bind ≡ Some (Computed (Bind left body) kept) = ap (λ (t : State). body_at t bind) same ∙ is in
      rw (here, row, def) refl

  pub left_formula : (bind : ℕ) (left body : Formula) (kept : script.Kept) → body_at s bind ≡ Some (Computed (Bind left body) kept)
      → formula_at s bind (Left ∷ []) ≡ Some left
  left_formula bind left body kept is =
      ap (λ (b : Option Body). and_then b (λ (d : Body). and_then (formula_of_body d) (λ (f : Formula). part_of f (Left ∷ [])))) is

  -- what its left's node gives, before the stabilize, the left gives
  pub left_gives : (bind : ℕ) (left body : Formula) (kept : script.Kept) → body_at s bind ≡ Some (Computed (Bind left body) kept)
      → (d : LeftDiffers M G (node_in k.nodes bind)) → (p : Outcome) × (d.outcome ≡ graph_outcome (node_in k.nodes) p) × Gives F s [] left p
  left_gives bind left body kept is d =
      let formula = left_formula bind left body kept is in
      let p = place_agrees x fits_before bind (Left ∷ []) left d.left d.outcome formula
      (left_node bind left body kept is x refl d.row d.left d.function d.captures d.is_row d.is_bind) (stands_none x) d.gives in
      (p.0, p.1, (p.2.0, rw formula at p.2.1))

  -- ---- grabs

  -- who stands directly in the scope of a node outside scopes stands inside that alone
  only_round : (n b a : NodeId) (r q : Row) → G.row n ≡ Some r → r.scope ≡ Some b → G.row b ≡ Some q → q.scope ≡ None → Inside G a n → a ≡ b
  only_round n b a r q row scope row' outside (direct {r = r'} e sc) =
      let rows : r ≡ r' = (let h : Some r ≡ Some r' = sym row ∙ e in cc) in
      let binds : Some a ≡ Some b = sym sc ∙ (ap (λ (z : Row). z.scope) (sym rows) ∙ scope) in cc
  only_round n b a r q row scope row' outside (nested {r = r'} {c = d} e sc i) =
      let rows : r ≡ r' = (let h : Some r ≡ Some r' = sym row ∙ e in cc) in
      let binds : d ≡ b = (let h : Some d ≡ Some b = sym sc ∙ (ap (λ (z : Row). z.scope) (sym rows) ∙ scope) in cc) in
      absurd (outside_is_in_none G a b q row' outside (subst (Inside G a) binds i))

  died_none : (n : NodeId) → G.row n ≡ None → died_by k.graph g n ≡ None
  died_none n none = ap (λ (r : Option Row). scope_lost r (G'.row n)) none

  died_there : (n : NodeId) (r : Row) → G.row n ≡ Some r → G'.row n ≡ None → died_by k.graph g n ≡ r.scope
  died_there n r row dead = ap (λ (q : Option Row). scope_lost q (G'.row n)) row ∙ ap (λ (q : Option Row). scope_lost (Some r) q) dead

  grab_then : (n bind : ℕ) (v : Value) → body_at s n ≡ Some (Grab bind v true) → (w : BuiltFor) → G.built (node_in k.nodes bind) ≡ Some w
      → w.outcome ≡ outcome.Val (graph_value (node_in k.nodes) v) → w.root ≡ Some (node_in k.nodes n)
      → Declares y (node_in k.nodes n) (Some (Grab bind v true))
  grab_then n bind v is w built for root =
      by_outcome (outcome_or (outcome_of (G'.built (node_in k.nodes bind))) (outcome_of (G.built (node_in k.nodes bind))))
    where
      facts : LiveFacts x fits_before n bind v
      facts = live_facts x fits_before n bind v is (w, built, for, root)

      there : IsBindNode bind
      there = bind_node bind facts.0 facts.1 facts.2 facts.3

      lost : IsBuiltOther (graph k.graph) (graph g) (node_in k.nodes bind) → Lost y (node_in k.nodes n) bind v
      lost other =
          let dead = c.left.killed (node_in k.nodes n) (node_in k.nodes bind) (direct facts.6 facts.7) other in
          let d = c.left.dead (node_in k.nodes n) facts.5 facts.6 dead in
          let round = only_round (node_in k.nodes n) (node_in k.nodes bind) d.0 facts.5 there.row facts.6 facts.7 there.is_row there.outside d.1 in
          let differs : LeftDiffers M G (node_in k.nodes bind) = subst (λ (z : NodeId). LeftDiffers M G z) round d.2 in
          let p = left_gives bind facts.0 facts.1 facts.2 facts.3 differs in (
            p.0,
            dead,
            died_there (node_in k.nodes n) facts.5 facts.6 dead ∙ facts.7,
            λ e. differs.changed w built (for ∙ sym (p.1 ∙ ap (graph_outcome (node_in k.nodes)) e)),
            λ left body kept at.
                let same : Some (Computed (Bind facts.0 facts.1) facts.2) ≡ Some (Computed (Bind left body) kept) = sym facts.3 ∙ at in
                let lefts : facts.0 ≡ left = cc in
                subst (λ (f : Formula). Gives F s [] f p.0) lefts p.2,
            λ w' built' for'.
                other (ap outcome_of built' ∙ (ap (λ (o : GraphOutcome). Some o) (for' ∙ sym for) ∙ sym (ap outcome_of built))),
          )

      by_outcome : (outcome_of (G'.built (node_in k.nodes bind)) ≡ outcome_of (G.built (node_in k.nodes bind)))
          ⊎ (outcome_of (G'.built (node_in k.nodes bind)) ≡ outcome_of (G.built (node_in k.nodes bind)) → ⊥)
          → Declares y (node_in k.nodes n) (Some (Grab bind v true))
      by_outcome (inl same) =
          let on = tops (node_in k.nodes bind) there.row there.is_row there.outside in
          let kept = c.left.roots (node_in k.nodes bind) there.row (given (node_in k.nodes bind) there.row there.is_row) on same in
          inl (w, kept ∙ built, for, root)
      by_outcome (inr other) = inr (lost other)

  -- ---- the two fit

  declares_then : (n : ℕ) (b : Option Body) → body_at s n ≡ b → Declares x (node_in k.nodes n) b → Declares y (node_in k.nodes n) b
  declares_then n None is h =
      let past : node_in k.nodes n ≡ no_node =
      (let high = body_past s n is in let each = c.held.one_node_each in node_past k.nodes n (omega (arith, high, each))) in
      (ap (row_at g.nodes) past ∙ never_given g.nodes c.sound'.nodes, died_none (node_in k.nodes n) h.0)
  declares_then n (Some (Variable v)) is h = top_on F M (node_in k.nodes) s s G y.graph x.died y.died tops (node_in k.nodes n) _ h
  declares_then n (Some (Computed f kept)) is h = shows_on F M (node_in k.nodes) s s G y.graph x.died y.died tops (term.Ref (node_in k.nodes n)) f h
  declares_then n (Some (Grab bind v false)) is h = (
    elim (c.stays.rows (node_in k.nodes n) (c.grabs n bind v is)) [ inl same ↦ same ∙ h.0 | inr dead ↦ dead ],
    died_none (node_in k.nodes n) h.0,
  )
  declares_then n (Some (Grab bind v true)) is (inl live) = grab_then n bind v is live.0 live.1 live.2 live.3
  declares_then n (Some (Grab bind v true)) is (inr lost) = absurd (let died = lost.2 in cc)
  declares_then n (Some (After time)) is h = top_on F M (node_in k.nodes) s s G y.graph x.died y.died tops (node_in k.nodes n) _ h
  declares_then n (Some (Every base span)) is (h, alike) = (
    top_on F M (node_in k.nodes) s s G y.graph x.died y.died tops (node_in k.nodes n) _ h,
    subst (λ (t : ℤ). quot_z (t -ℤ pos base) (pos span) ≡ pos ((s.now - base) / span)) (sym c.stays.clock) alike,
  )
  declares_then n (Some (Freeze child predicate frozen)) is (kid, top, shows, keeps) = (
    kid,
    top_on F M (node_in k.nodes) s s G y.graph x.died y.died tops (node_in k.nodes n) (graph_def.Freeze kid predicate) top,
    shows_on F M (node_in k.nodes) s s G y.graph x.died y.died tops (term.Ref kid) child shows,
    keeps,
  )
  declares_then n (Some (Expert f first links stale)) is (kids, top, lists) = (
    kids,
    top_on F M (node_in k.nodes) s s G y.graph x.died y.died tops (node_in k.nodes n) (graph_def.Expert f (graph_value (node_in k.nodes) first) kids) top,
    c.stays.lists (node_in k.nodes n) (given (node_in k.nodes n) top.0 top.1) ∙ lists,
  )

  pub fits_then : Fits y
  fits_then = record {
    clock = c.stays.clock ∙ c.held.clock;
    functions = fits_before.functions;
    declared = λ n. declares_then n (body_at s n) refl (c.held.declares n);
    resolved = fits_before.resolved;
    rooted = λ b r l f caps w row def built. same_rooted M G' y.graph (λ m. refl) b f caps w (rooted_then b r l f caps w row def built);
    grabbed = λ n b v is.
        let h = fits_before.grabbed n b v is in
        record { left = h.left; body = h.body; kept = h.kept; is_bind = h.is_bind; no_name = h.no_name; apart = h.apart };
  }

  -- what is declared has nodes of its own still, given in order
  pub aged_then : (n : ℕ) (b : Body) → body_at s n ≡ Some b
      → OwnNodesOf y.graph (IsWithin k.nodes n) (IsPartWithin k.nodes n) (node_in k.nodes n) b
  aged_then n b is =
      own_nodes_then F M (node_in k.nodes) s s G y.graph x.died y.died tops (IsWithin k.nodes n) (IsPartWithin k.nodes n) (node_in k.nodes n) b
      (subst (λ (d : Option Body). Declares x (node_in k.nodes n) d) is (c.held.declares n))
      (c.held.today.aged n b is)

  -- each live freeze is declared still: none was made
  pub freezes_then : FreezesAreDeclared G' s k.nodes
  freezes_then n r kid f row def = elim (cases_lt n.gen_ k.graph.nodes.given) [
    | inl low ↦ elim (c.stays.rows n low) [
      | inl same ↦ c.held.today.freezes n r kid f (sym same ∙ row) def
      | inr dead ↦ absurd (let clash : None ≡ Some r = sym dead ∙ row in cc)
    ]
    | inr late ↦
        let born = (c.left.born n r late row).0 in
        let outside : r.scope ≡ None = c.sound'.tops n r row (rw def tt) in
        absurd (outside_is_in_none y.graph born.bind n r row outside born.inside)
  ]
