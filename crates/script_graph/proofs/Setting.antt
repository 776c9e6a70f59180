-- What is kept of a script after a variable was set.
use Rattle.std.proofs.Common.{◌≡◌, ◌⊎◌, inl, inr, ℕ, zero, suc, ◌+◌, true, List, [], ◌∷◌, map, length, Option, None, Some, IsSome, option_map, IsTrue, refl, ap, sym, subst, ◌∙◌, arith, slice_get, sum_by}
use Rattle.std.proofs.lemmas.Option.{none-some, slice_get-map}
use Rattle.std.proofs.lemmas.Bool.{cases_eq}
use Rattle.std.proofs.lemmas.List.Sums.{sum_by-cons}
use Rattle.formula_lang.specs.Fits.{AssignmentFits}
use Rattle.inc_value.specs.Choice.{and_then}
use Rattle.inc_value.specs.declared.function.FnRef.{FnRef}
use Rattle.inc_value.specs.declared.node.NodeId.{NodeId}
use Rattle.inc_value.specs.declared.value.Value.{Value as GraphValue}
use Rattle.inc_terms.specs.Graph as graph
use Rattle.inc_terms.specs.Graph.{Row, Built as BuiltFor}
use Rattle.inc_terms.specs.Within.{Given}
use Rattle.graph.specs.Effects.{Sets}
use Rattle.graph.specs.Standing.{GraphView, graph as graph_of}
use Rattle.node_arena.specs.Arena.{row_at, with_value}
use Rattle.node_arena.specs.Sound as arena
use Rattle.script_model.specs.Check.{Assign, Declared, Names, declared_of, kind_of_body, is_variable, names_of, target_of_body}
use Rattle.script_model.specs.Formula.{State, Body, Entry, Formula, Meanings, meanings_of, bind_at, bind_of, body_at, built_at, built_of_body, entry_at, formula_of_body, places_of_body, Name, Bind, Variable, Computed, Freeze, Every, Expert, Grab}
use Rattle.script_model.specs.Need.{Edge, part_of, formula_at, stamp_of_body}
use Rattle.script_model.specs.Step.{Moment, changed_at, with_body, moved}
use Rattle.script_model.specs.Values.{Value}
use Rattle.script_graph.specs.Kept.{Kept, arena_of, node_in, no_node}
use Rattle.script_graph.specs.Represents.{AreNames, beside, BuiltAlike, BuiltRefers, Represents, Watches}
use Rattle.script_graph.specs.Settled.{BodiesStay, FreezesStay, ScopesBuilt, Settled, StampsGrow}
use Rattle.script_graph.specs.Today.{IsPlainBody, IsEarlierTarget, IsDeclaredTarget, AllPlain, IsWithin, IsPartWithin, OwnNodesOf}
use Rattle.script_graph.specs.State.{MatchesMoment}
use Rattle.inc_terms.proofs.Unfolding.{AnyFunction}
use Rattle.script_graph.proofs.Carrying.{watches_on, leaves_beside, settled_on}
use Rattle.script_graph.proofs.Declaring.{plain_body_more, fitting_refers}
use Rattle.script_graph.proofs.Extending.{KeepsGraph, NodesGiven, StandsAlone, body_past, body_within, built_still, declares_still, never_given, node_past, same_serve, still_counts}
use Rattle.script_graph.proofs.Owning.{freeze_on, own_nodes_of_on}
use Rattle.script_graph.proofs.Referring.{outcome_refers_more, value_refers_more}
use Rattle.transfer.specs.Both.{graph_outcome, graph_value}
use Rattle.transfer.specs.Items.{FormulasStay, GrabsStay}
use Rattle.transfer.specs.Keeping.{GrabsForms, NodesApart, RowsStay}
use Rattle.transfer.specs.Shows.{Declares, IsOwn, IsTop, plain}
use Rattle.transfer.proofs.Typed.{bind_body, body_entry}

-- ---- declarations, one of which changes

pub with_other : (change : Body → Body) (es : List Entry) (t n : ℕ) → (n ≡ t → ⊥) → slice_get (with_body change es t) n ≡ slice_get es n
with_other change [] t n other = refl
with_other change (e ∷ es) zero zero other = absurd (other refl)
with_other change (e ∷ es) zero (suc n) other = refl
with_other change (e ∷ es) (suc t) zero other = refl
with_other change (e ∷ es) (suc t) (suc n) other = with_other change es t n (λ same. other (ap (λ j. suc j) same))

pub with_same : (change : Body → Body) (es : List Entry) (t : ℕ) (e : Entry) → slice_get es t ≡ Some e
    → slice_get (with_body change es t) t ≡ Some (record e { body = change e.body })
with_same change [] t e is = absurd (cc)
with_same change (d ∷ es) zero e is = let same : d ≡ e = cc in ap (λ (x : Entry). Some (record x { body = change x.body })) same
with_same change (d ∷ es) (suc t) e is = with_same change es t e is

pub with_length : (change : Body → Body) (es : List Entry) (t : ℕ) → length (with_body change es t) ≡ length es
with_length change [] t = refl
with_length change (e ∷ es) zero = refl
with_length change (e ∷ es) (suc t) = ap (λ n. suc n) (with_length change es t)

-- where the change keeps what a declaration is as a name, so do all
pub with_names : (change : Body → Body) (es : List Entry) (t : ℕ) (e : Entry) → slice_get es t ≡ Some e
    → declared_of (record e { body = change e.body }) ≡ declared_of e → map declared_of es ≡ map declared_of (with_body change es t)
with_names change [] t e is same = refl
with_names change (d ∷ es) zero e is same =
    let here : e ≡ d = cc in
    ap (λ (x : Declared). x ∷ map declared_of es) (sym (subst (λ (x : Entry). declared_of (record x { body = change x.body }) ≡ declared_of x) here same))
with_names change (d ∷ es) (suc t) e is same = ap (λ (ds : List Declared). declared_of d ∷ ds) (with_names change es t e is same)

-- what all bodies amount to, where that of the changed one stays
pub with_amounts : (amount : Body → ℕ) (change : Body → Body) (es : List Entry) (t : ℕ) (e : Entry) → slice_get es t ≡ Some e
    → amount (change e.body) ≡ amount e.body
    → sum_by (λ (d : Entry). amount d.body) (with_body change es t) ≡ sum_by (λ (d : Entry). amount d.body) es
with_amounts amount change [] t e is same = refl
with_amounts amount change (d ∷ es) zero e is same =
    let here : e ≡ d = cc in
    let first : amount (change d.body) ≡ amount d.body = subst (λ (x : Entry). amount (change x.body) ≡ amount x.body) here same in
    sum_by-cons (λ (x : Entry). amount x.body) (record d { body = change d.body }) es
    ∙ (ap (λ n. n + sum_by (λ (x : Entry). amount x.body) es) first ∙ sym (sum_by-cons (λ (x : Entry). amount x.body) d es))
with_amounts amount change (d ∷ es) (suc t) e is same =
    sum_by-cons (λ (x : Entry). amount x.body) d (with_body change es t)
    ∙ (ap (λ n. amount d.body + n) (with_amounts amount change es t e is same) ∙ sym (sum_by-cons (λ (x : Entry). amount x.body) d es))

variable_kind : (b : Body) → IsTrue (is_variable (Some (kind_of_body b))) → (u : Value) × (b ≡ Variable u)
variable_kind (Variable u) is = (u, refl)
variable_kind (Computed (Bind left body) kept) is = absurd (cc)
variable_kind (Computed f kept) is = absurd (cc)
variable_kind b is = absurd (cc)

-- what may be assigned is a variable
variable_entry : (names : Names) (s : State) → names.declared ≡ (names_of s).declared → (target : ℕ) (value : Value) → AssignmentFits names target value
    → (e : Entry) × (u : Value) × (entry_at s target ≡ Some e) × (e.body ≡ Variable u)
variable_entry names s same target value fits = go (slice_get s.entries target) refl
    (subst (λ (ds : List Declared). IsTrue (is_variable (and_then (slice_get ds target) (λ (d : Declared). Some d.kind)))) same fits.variable)
  where
    go : (o : Option Entry) → slice_get s.entries target ≡ o
        → IsTrue (is_variable (and_then (slice_get (map declared_of s.entries) target) (λ (d : Declared). Some d.kind)))
        → (e : Entry) × (u : Value) × (entry_at s target ≡ Some e) × (e.body ≡ Variable u)
    go o at is = by_entry o at (rw (slice_get-map declared_of s.entries target, at) at is)
      where
        by_entry : (o : Option Entry) → slice_get s.entries target ≡ o
            → IsTrue (is_variable (and_then (option_map declared_of o) (λ (d : Declared). Some d.kind)))
            → (e : Entry) × (u : Value) × (entry_at s target ≡ Some e) × (e.body ≡ Variable u)
        by_entry None at is = absurd (cc)
        by_entry (Some e) at is = let v = variable_kind e.body is in (e, v.0, at, v.1)

-- what stands alone is its own target
pub alone_target : (n : ℕ) (b : Body) → StandsAlone b → target_of_body n b ≡ n
alone_target n (Variable v) alone = refl
alone_target n (Every base span) alone = refl
alone_target n (Freeze child predicate frozen) alone = refl
alone_target n (Expert f first links stale) alone = refl
alone_target n b alone = absurd alone

-- ---- what is kept

module _ (named : List ℕ → Option FnRef) (value : FnRef → List GraphValue → GraphValue) (k : Kept) (g : GraphView (Unit {0}))
    (sound : arena.IsSoundArena (arena_of k)) (sound' : arena.IsSoundArena g.nodes) (m : Moment) (target : ℕ) (w : GraphValue) (v : Value)
    (is_value : graph_value (node_in k.nodes) v ≡ w)
    (sets : Sets k.graph g (node_in k.nodes target) w) (fits : AssignmentFits k.names target v) (given : NodesGiven m.present k) where
  abbrev F : Meanings
  F = meanings_of named value

  abbrev s : State
  s = m.present

  abbrev s' : State
  s' = changed_at s target (λ body. Variable v)

  abbrev new : Kept
  new = record k { graph = g }

  node_or : (p q : NodeId) → (p ≡ q) ⊎ (p ≡ q → ⊥)
  node_or p q = elim (cases_eq p.slot q.slot) [
    | inl slot ↦ elim (cases_eq p.gen_ q.gen_) [ inl gen ↦ inl (both p q slot gen) | inr other ↦ inr (λ e. other (ap (λ (n : NodeId). n.gen_) e)) ]
    | inr other ↦ inr (λ e. other (ap (λ (n : NodeId). n.slot) e))
  ]
    where
      both : (p q : NodeId) → p.slot ≡ q.slot → p.gen_ ≡ q.gen_ → p ≡ q
      both p q slot gen = rw (slot, gen) refl

  module _ (e : Entry) (u : Value) (there : entry_at s target ≡ Some e) (variable : e.body ≡ Variable u) where
    was : body_at s target ≡ Some (Variable u)
    was = ap (λ (o : Option Entry). and_then o (λ (d : Entry). Some d.body)) there ∙ ap (λ b. Some b) variable

    now : body_at s' target ≡ Some (Variable v)
    now = ap (λ (o : Option Entry). and_then o (λ (d : Entry). Some d.body)) (with_same (λ body. Variable v) s.entries target e there)

    others : (n : ℕ) → (n ≡ target → ⊥) → body_at s' n ≡ body_at s n
    others n other = ap (λ (o : Option Entry). and_then o (λ (d : Entry). Some d.body)) (with_other (λ body. Variable v) s.entries target n other)

    early_on : (n t : ℕ) → IsEarlierTarget s n t → IsEarlierTarget s' n t
    early_on n t early = (
      early.0,
      elim (cases_eq t target) [
        | inl same ↦ subst IsOwn (sym (ap (body_at s') same ∙ now)) tt
        | inr other ↦ subst IsOwn (sym (others t other)) early.1
      ],
    )

    target_on : (t : ℕ) → IsDeclaredTarget s t → IsDeclaredTarget s' t
    target_on t d = elim (cases_eq t target) [
      | inl same ↦ (Variable v, ap (body_at s') same ∙ now, tt)
      | inr other ↦ (d.0, others t other ∙ d.1, d.2)
    ]

    -- a formula's declaration is another one
    other_owner : (owner : ℕ) (path : List Edge) (f : Formula) → formula_at s owner path ≡ Some f → owner ≡ target → ⊥
    other_owner owner path f is same =
        let none : formula_at s owner path ≡ None =
        ap (λ (o : Option Body). and_then o (λ b. and_then (formula_of_body b) (λ g. part_of g path))) (ap (body_at s) same ∙ was) in
        cc

    -- what has a formula is another declaration
    bodies_on : BodiesStay s s'
    bodies_on n b has is = elim (cases_eq n target) [
      | inl same ↦ absurd (
          let e : Some b ≡ Some (Variable u) = sym is ∙ (ap (body_at s) same ∙ was) in
          let one : b ≡ Variable u = cc in
          let none = subst (λ (c : Body). IsSome (formula_of_body c)) one has in cc)
      | inr other ↦ others n other ∙ is
    ]

    formulas_on : FormulasStay s s'
    formulas_on owner path f is =
        ap (λ (o : Option Body). and_then o (λ b. and_then (formula_of_body b) (λ g. part_of g path))) (others owner (other_owner owner path f is)) ∙ is

    body_stays : (n : ℕ) (b : Body) → body_at s n ≡ Some b → (c : Body) × (body_at s' n ≡ Some c)
    body_stays n b is = elim (cases_eq n target) [
      | inl same ↦ (Variable v, ap (body_at s') same ∙ now)
      | inr other ↦ (b, others n other ∙ is)
    ]

    stamps_grow : StampsGrow s s'
    stamps_grow n = elim (cases_eq n target) [
      | inl same ↦ (let e = ap stamp_of_body (ap (body_at s) same ∙ was) in omega (arith, e))
      | inr other ↦ (let e = ap stamp_of_body (others n other) in omega (arith, e))
    ]

    module _ (held : Represents F s k) where
      old : IsTop (graph_of k.graph) (node_in k.nodes target) (graph.Var (graph_value (node_in k.nodes) u))
      old = rw was at (held.declares target)

      -- a row that isn't the variable's stays
      row_other : (n : NodeId) (r : Row) → (n ≡ node_in k.nodes target → ⊥) → row_at (arena_of k) n ≡ Some r → row_at g.nodes n ≡ Some r
      row_other n r other is = sets.set.changes.others n other ∙ is

      same_row : (r q : Row) → row_at (arena_of k) (node_in k.nodes target) ≡ Some r → row_at (arena_of k) (node_in k.nodes target) ≡ Some q → r ≡ q
      same_row r q first second = let e : Some r ≡ Some q = sym first ∙ second in cc

      stays : RowsStay (graph_of k.graph) (graph_of g)
      stays n r t is def = row_other n r (λ same.
          let row : r ≡ old.0 = same_row r old.0 (ap (row_at (arena_of k)) (sym same) ∙ is) old.1 in
          let none : plain r.def ≡ None = ap (λ (q : Row). plain q.def) row ∙ ap plain old.3 in
          let clash : None ≡ Some t = sym none ∙ def in cc) is

      abbrev Of : NodeId → Type 0
      Of n = Given (arena_of k).given n

      keeps : KeepsGraph Of k g
      keeps = record {
        rows = stays;
        dead = λ n low is. sets.set.changes.others n
            (λ same. let none : row_at (arena_of k) (node_in k.nodes target) ≡ None = ap (row_at (arena_of k)) (sym same) ∙ is in
            none-some old.0 (sym none ∙ old.1)) ∙ is;
        built = sets.beside.of_nodes.built;
        frozen = sets.beside.of_nodes.frozen;
      }

      freeze_stays : FreezesStay (graph_of k.graph) (graph_of g)
      freeze_stays n r kid f is def = row_other n r (λ same.
          let row : r ≡ old.0 = same_row r old.0 (ap (row_at (arena_of k)) (sym same) ∙ is) old.1 in
          let clash : graph.Freeze kid f ≡ graph.Var (graph_value (node_in k.nodes) u) = sym def ∙ (ap (λ (q : Row). q.def) row ∙ old.3) in cc) is

      -- a live freeze is as it was
      freeze_was : (n : NodeId) (r : Row) (kid : NodeId) (f : FnRef) → row_at g.nodes n ≡ Some r → r.def ≡ graph.Freeze kid f
          → row_at (arena_of k) n ≡ Some r
      freeze_was n r kid f is def = elim (node_or n (node_in k.nodes target)) [
        | inl same ↦ absurd (
            let here : Some (with_value sets.set.row w) ≡ Some r = sym sets.set.changes.changed ∙ (ap (row_at g.nodes) (sym same) ∙ is) in
            let rows : with_value sets.set.row w ≡ r = cc in
            let clash : graph.Var w ≡ graph.Freeze kid f = ap (λ (q : Row). q.def) rows ∙ def in cc)
        | inr other ↦ sym (sets.set.changes.others n other) ∙ is
      ]

      lives : (n : NodeId) (r : Row) → row_at (arena_of k) n ≡ Some r → (q : Row) × (row_at g.nodes n ≡ Some q)
      lives n r is = elim (node_or n (node_in k.nodes target)) [
        | inl same ↦ (with_value sets.set.row w, ap (row_at g.nodes) same ∙ sets.set.changes.changed)
        | inr other ↦ (r, row_other n r other is)
      ]

      scopes_still : ScopesBuilt (graph_of k.graph) → ScopesBuilt (graph_of g)
      scopes_still built n r b is scope = elim (node_or n (node_in k.nodes target)) [
        | inl same ↦ absurd (
            let here : Some (with_value sets.set.row w) ≡ Some r = sym sets.set.changes.changed ∙ (ap (row_at g.nodes) (sym same) ∙ is) in
            let rows : with_value sets.set.row w ≡ r = cc in
            let was = same_row old.0 sets.set.row old.1 sets.set.there in
            let none : None ≡ Some b = sym (sym (ap (λ (q : Row). q.scope) was) ∙ old.2) ∙ (ap (λ (q : Row). q.scope) rows ∙ scope) in cc)
        | inr other ↦
            let was = sym (sets.set.changes.others n other) ∙ is in
            subst (λ (x : Option BuiltFor). IsSome x) (sym (sets.beside.of_nodes.built b (sound.scopes n r b was scope))) (built n r b was scope)
      ]

      apart : (n : ℕ) (b : Body) → body_at s n ≡ Some b → target_of_body n b ≡ n → (n ≡ target → ⊥) → node_in k.nodes n ≡ node_in k.nodes target → ⊥
      apart n b is own other same =
          let d = body_entry s n b is in
          other (held.apart n target d.0 e d.1 there (held.targets n d.0 d.1 ∙ (ap (target_of_body n) d.2 ∙ own))
          (held.targets target e there ∙ ap (target_of_body target) variable) same)

      set_shows : Declares (beside F s' new) (node_in k.nodes target) (Some (Variable v))
      set_shows =
          let row : old.0 ≡ sets.set.row = same_row old.0 sets.set.row old.1 sets.set.there in (
            with_value sets.set.row w,
            sets.set.changes.changed,
            ap (λ (q : Row). q.scope) (sym row) ∙ old.2,
            ap (λ (x : GraphValue). graph.Var x) (sym is_value),
          )

      declares_each : (n : ℕ) (b : Option Body) → body_at s' n ≡ b → Declares (beside F s' new) (node_in k.nodes n) b
      declares_each n None is = (ap (row_at g.nodes) past ∙ never_given g.nodes sound', refl)
        where
          past : node_in k.nodes n ≡ no_node
          past = let size = with_length (λ body. Variable v) s.entries target in
              node_past k.nodes n (omega (arith, body_past s' n is, held.one_node_each, size))
      declares_each n (Some b) is = elim (cases_eq n target) [
        | inl same ↦
            let body : Variable v ≡ b = let e : Some (Variable v) ≡ Some b = sym now ∙ (ap (body_at s') (sym same) ∙ is) in cc in
            subst (λ (c : Body). Declares (beside F s' new) (node_in k.nodes n) (Some c)) body
            (subst (λ (j : ℕ). Declares (beside F s' new) (node_in k.nodes j) (Some (Variable v))) (sym same) set_shows)
        | inr other ↦
            let here : body_at s n ≡ Some b = sym (others n other) ∙ is in
            declares_still Of F s k held given s' k.nodes k.bodies AnyFunction (same_serve F k) g keeps (λ t low. refl) n b here
            (λ alone r row. row_other (node_in k.nodes n) r (apart n b here (alone_target n b alone) other) row)
            (λ base span e alike. still_counts k g s base span sets.set.changes.time alike)
            (λ f first links stale e. sets.beside.of_nodes.lists (node_in k.nodes n) (given n b here))
      ]

      plain_each : AreNames k.names s → AllPlain s'
      plain_each names n b is = elim (cases_eq n target) [
        | inl same ↦
            let body : Variable v ≡ b = let e : Some (Variable v) ≡ Some b = sym now ∙ (ap (body_at s') (sym same) ∙ is) in cc in
            let refers = value_refers_more (IsDeclaredTarget s) (IsDeclaredTarget s') target_on v
            (fitting_refers k.names s names.declared held.today.plain held.targets v fits.refers) in
            subst (λ (c : Body). IsPlainBody (IsEarlierTarget s' n) (IsDeclaredTarget s') c) body (tt, refers)
        | inr other ↦ plain_body_more (IsEarlierTarget s n) (IsEarlierTarget s' n) (IsDeclaredTarget s) (IsDeclaredTarget s') (early_on n) target_on b
            (held.today.plain n b (sym (others n other) ∙ is))
      ]

      aged_each : (n : ℕ) (b : Body) → body_at s' n ≡ Some b
          → OwnNodesOf (graph_of g) (IsWithin k.nodes n) (IsPartWithin k.nodes n) (node_in k.nodes n) b
      aged_each n b is = elim (cases_eq n target) [
        | inl same ↦
            let body : Variable v ≡ b = let e : Some (Variable v) ≡ Some b = sym now ∙ (ap (body_at s') (sym same) ∙ is) in cc in
            subst (λ (c : Body). OwnNodesOf (graph_of g) (IsWithin k.nodes n) (IsPartWithin k.nodes n) (node_in k.nodes n) c) body
            (held.today.aged n (Variable u) (ap (body_at s) same ∙ was))
        | inr other ↦ own_nodes_of_on (graph_of k.graph) (graph_of g) (IsWithin k.nodes n) (IsWithin k.nodes n)
            (IsPartWithin k.nodes n) (IsPartWithin k.nodes n) (λ q h. h) (λ q h. h) stays freeze_stays (node_in k.nodes n) b
            (held.today.aged n b (sym (others n other) ∙ is))
      ]

      targets_each : (n : ℕ) (d : Entry) → entry_at s' n ≡ Some d → d.target ≡ target_of_body n d.body
      targets_each n d is = elim (cases_eq n target) [
        | inl same ↦
            let set : record e { body = Variable v } ≡ d =
            let h : Some (record e { body = Variable v }) ≡ Some d = sym (with_same (λ body. Variable v) s.entries target e there) ∙ (ap (entry_at s') (sym same) ∙ is) in cc in
            subst (λ (x : Entry). x.target ≡ target_of_body n x.body) set
            (held.targets target e there ∙ (ap (target_of_body target) variable ∙ sym same))
        | inr other ↦ held.targets n d (sym (with_other (λ body. Variable v) s.entries target n other) ∙ is)
      ]

      was_entry : (n : ℕ) (d : Entry) → entry_at s' n ≡ Some d → (c : Entry) × (entry_at s n ≡ Some c) × (c.target ≡ d.target)
      was_entry n d is = elim (cases_eq n target) [
        | inl same ↦
            let set : record e { body = Variable v } ≡ d =
            (let h : Some (record e { body = Variable v }) ≡ Some d = sym (with_same (λ body. Variable v) s.entries target e there) ∙ (ap (entry_at s') (sym same) ∙ is) in cc) in
            (e, ap (entry_at s) same ∙ there, ap (λ (x : Entry). x.target) set)
        | inr other ↦ (d, sym (with_other (λ body. Variable v) s.entries target n other) ∙ is, refl)
      ]

      apart_each : NodesApart s' (node_in k.nodes)
      apart_each i j d c at_i at_j own_i own_j same =
          let a = was_entry i d at_i in
          let b = was_entry j c at_j in
          held.apart i j a.0 b.0 a.1 b.1 (a.2 ∙ own_i) (b.2 ∙ own_j) same

      -- what is declared there is no bind, and no grab
      bind_other : (n : ℕ) (left body : Formula) → bind_at s' n ≡ Some (left, body) → n ≡ target → ⊥
      bind_other n left body is same =
          let none : bind_at s' n ≡ None = ap (λ (o : Option Body). and_then o bind_of) (ap (body_at s') same ∙ now) in cc

      built_each : BuiltAlike s' new
      built_each n left body is =
          let other = bind_other n left body is in
          let was : bind_at s n ≡ Some (left, body) = ap (λ (o : Option Body). and_then o bind_of) (sym (others n other)) ∙ is in
          let b = bind_body s n left body was in
          built_still Of F s k held given s' k.nodes k.bodies AnyFunction (same_serve F k) g keeps (λ t low. refl) n left body was
          (body_within s n (Computed (Bind left body) b.0) b.1)
          ∙ ap (λ (o : Option Body). option_map (graph_outcome (node_in k.nodes)) (and_then o built_of_body)) (sym (others n other))

      refers_each : BuiltRefers s'
      refers_each n o is = elim (cases_eq n target) [
        | inl same ↦ absurd (let none : built_at s' n ≡ None = ap (λ (x : Option Body). and_then x built_of_body) (ap (body_at s') same ∙ now) in cc)
        | inr other ↦ outcome_refers_more (IsDeclaredTarget s) (IsDeclaredTarget s') target_on o
            (held.refers n o (ap (λ (x : Option Body). and_then x built_of_body) (sym (others n other)) ∙ is))
      ]

      -- a grab or a bind was there before
      was_there : (n : ℕ) (b : Body) → ((q : Value) → b ≡ Variable q → ⊥) → body_at s' n ≡ Some b → body_at s n ≡ Some b
      was_there n b no_variable is = elim (cases_eq n target) [
        | inl same ↦ absurd (let e : Some (Variable v) ≡ Some b = sym now ∙ (ap (body_at s') (sym same) ∙ is) in no_variable v (cc))
        | inr other ↦ sym (others n other) ∙ is
      ]

      grabs_each : GrabsForms s'
      grabs_each n b q left t kept is bind =
          held.grabs n b q left t kept (was_there n (Grab b q true) (λ z e. cc) is) (was_there b (Computed (Bind left (Name t)) kept) (λ z e. cc) bind)

      set_represents : AreNames k.names s → Represents F s' new
      set_represents names = record {
        room = let places = with_amounts places_of_body (λ body. Variable v) s.entries target e there (sym (ap places_of_body variable)) in omega (arith, held.room, places);
        clock = sets.set.changes.time ∙ held.clock;
        one_node_each = held.one_node_each ∙ sym (with_length (λ body. Variable v) s.entries target);
        declares = λ n. declares_each n (body_at s' n) refl;
        targets = targets_each;
        apart = apart_each;
        built = built_each;
        refers = refers_each;
        grabs = grabs_each;
        today = record {
          plain = plain_each names;
          aged = aged_each;
          freezes = λ n r kid f row def. freeze_on s s' k.nodes n bodies_on (held.today.freezes n r kid f (freeze_was n r kid f row def) def);
        };
      }

    targets_on : (n : ℕ) (d : Entry) → entry_at s n ≡ Some d → (c : Entry) × (entry_at s' n ≡ Some c) × (c.target ≡ d.target)
    targets_on n d is = elim (cases_eq n target) [
      | inl same ↦
          let first : e ≡ d = (let h : Some e ≡ Some d = sym there ∙ (ap (entry_at s) (sym same) ∙ is) in cc) in (
            record e { body = Variable v },
            ap (entry_at s') same ∙ with_same (λ body. Variable v) s.entries target e there,
            ap (λ (x : Entry). x.target) first,
          )
      | inr other ↦ (d, with_other (λ body. Variable v) s.entries target n other ∙ is, refl)
    ]

    watches_after : MatchesMoment F k m → Watches s' new
    watches_after h = watches_on s s' k new sets.beside.observers refl refl refl refl (λ n b is. refl) given body_stays target_on h.watches

    grabs_live : GrabsStay s s'
    grabs_live n b q live = elim (cases_eq n target) [
      | inl same ↦ absurd (let e : Some (Grab b q true) ≡ Some (Variable u) = sym live ∙ (ap (body_at s) same ∙ was) in cc)
      | inr other ↦ others n other ∙ live
    ]

    settled_after : MatchesMoment F k m → m.broken ≡ None → Settled F m.settled s' new
    settled_after h whole =
        settled_on F m.settled s s' k new
        (leaves_beside k new sets.beside (let same = sets.given in omega (arith, same))
        (λ n r kid f low row def. freeze_was (h.represents whole) n r kid f row def))
        (record {
          stamps = stamps_grow;
          marks = λ n low marked. inl (sym (sets.beside.of_nodes.marks n low) ∙ marked);
        }) (record {
          formulas = formulas_on;
          bodies = bodies_on;
          targets = targets_on;
          names = λ n d is. refl;
          rows = stays (h.represents whole);
          freezes = freeze_stays (h.represents whole);
          lives = lives (h.represents whole);
          built = λ n q is. sets.beside.of_nodes.built n (sound.given n (rw is refl));
        }) grabs_live (scopes_still (h.represents whole)) (λ x among is. among) (h.settled whole)

    names_on : AreNames k.names s → AreNames k.names s'
    names_on h = record {
      declared = h.declared ∙ with_names (λ body. Variable v) s.entries target e there
          (ap (λ (b : Body). record { name = e.name; ty = e.ty; kind = kind_of_body b; target = e.target }) (sym variable));
      now = h.now;
      in_use = h.in_use;
    }

  -- the script with the variable set is matched
  pub setting_stands : MatchesMoment F k m → MatchesMoment F new (moved m (Assign target v))
  setting_stands h =
      let d = variable_entry k.names s h.names.declared target v fits in
      record {
        names = names_on d.0 d.1 d.2 d.3 h.names;
        accepted = h.accepted;
        broken = h.broken;
        represents = λ whole. set_represents d.0 d.1 d.2 d.3 (h.represents whole) h.names;
        watches = watches_after d.0 d.1 d.2 d.3 h;
        settled = settled_after d.0 d.1 d.2 d.3 h;
      }
