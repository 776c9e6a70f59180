-- What is kept of a script after an expert came to list other declarations, or was asked to run anew.
use Rattle.std.proofs.Common.{◌≡◌, ◌⊎◌, inl, inr, ℕ, ◌<◌, ◌≤◌, true, List, [], ◌∷◌, map, Option, None, Some, IsSome, option_map, refl, ap, sym, subst, ◌∙◌, arith}
use Rattle.std.proofs.lemmas.Bool.{cases_eq}
use Rattle.inc_value.specs.Choice.{and_then, Every as Each}
use Rattle.inc_value.specs.declared.function.FnRef.{FnRef}
use Rattle.inc_value.specs.declared.node.NodeId.{NodeId}
use Rattle.inc_value.specs.declared.node.Point.{Point}
use Rattle.inc_terms.specs.Graph.{Built as BuiltFor}
use Rattle.inc_terms.specs.Within.{Given}
use Rattle.graph.specs.Effects.{KeepsTop}
use Rattle.graph.specs.Standing.{GraphView, graph, called_last, cutoff_of, is_marked, times_linked}
use Rattle.node_arena.specs.Arena.{Arena, row_at}
use Rattle.observers.specs.Observers.{node_at}
use Rattle.observers.specs.declared.observer.Observer.{Observer as Looking}
use Rattle.script_model.specs.Check.{kind_of_body, target_of_body}
use Rattle.script_model.specs.Formula.{State, Body, Entry, Meanings, bind_at, bind_of, body_at, built_at, built_of_body, entry_at, formula_of_body, places_of_body, Name, Bind, Computed, Expert, Grab}
use Rattle.script_model.specs.Need.{part_of, formula_at, stamp_of_body}
use Rattle.script_model.specs.Step.{Moment, changed_at}
use Rattle.script_model.specs.Values.{Value}
use Rattle.script_graph.specs.Kept.{Kept, arena_of, node_in}
use Rattle.script_graph.specs.Represents.{AreNames, beside, BuiltAlike, BuiltRefers, Represents}
use Rattle.script_graph.specs.Settled.{BodiesStay, ScopesBuilt, StampsGrow}
use Rattle.script_graph.specs.Today.{AllPlain, IsDeclaredTarget, IsEarlierTarget, IsPartWithin, IsPlainBody, IsWithin, OwnNodesOf}
use Rattle.script_graph.specs.State.{MatchesMoment}
use Rattle.inc_terms.proofs.Unfolding.{AnyFunction}
use Rattle.script_graph.proofs.Carrying.{LeavesBeside, settled_on, unfrozen_were, watches_on}
use Rattle.script_graph.proofs.Declaring.{plain_body_more}
use Rattle.script_graph.proofs.Extending.{KeepsGraph, NodesGiven, body_within, built_still, declares_still, same_serve, still_counts}
use Rattle.script_graph.proofs.Held.{rooted_still}
use Rattle.script_graph.proofs.Marks.{MarksGrow}
use Rattle.script_graph.proofs.Owning.{freeze_on, own_nodes_of_on}
use Rattle.script_graph.proofs.Referring.{outcome_refers_more, value_refers_more}
use Rattle.script_graph.proofs.Setting.{with_amounts, with_length, with_names, with_other, with_same}
use Rattle.transfer.specs.Both.{graph_outcome}
use Rattle.transfer.specs.Items.{FormulasStay, GrabsStay}
use Rattle.transfer.specs.Keeping.{AnyNode, GrabsForms, NodesApart}
use Rattle.transfer.specs.Shows.{Declares, IsOwn, plain}
use Rattle.transfer.proofs.Typed.{bind_body, body_entry}

-- a node lists these; and of the graph that is kept all else stays, but that there may be fewer links, and which nodes are stale
pub record Relisted (k : Kept) (g : GraphView (Unit {0})) (n : NodeId) (list : List NodeId) : Type 0 where
  pub listed : (graph g).lists n ≡ list
  pub others : (q : NodeId) → (q ≡ n → ⊥) → (graph g).lists q ≡ (graph k.graph).lists q
  pub top : KeepsTop k.graph g
  pub nodes : g.nodes ≡ arena_of k
  pub observers : g.observers ≡ k.graph.observers
  pub built : (q : NodeId) → (graph g).built q ≡ (graph k.graph).built q
  pub last : (q : NodeId) → called_last g q ≡ called_last k.graph q
  pub frozen : (q : NodeId) → (graph g).frozen q ≡ (graph k.graph).frozen q
  pub cutoff : (q : NodeId) → cutoff_of g q ≡ cutoff_of k.graph q
  pub fewer_links : (p q : Point) → times_linked g p q ≤ times_linked k.graph p q

-- the expert at a position comes to be linked to these, and was asked so often to run anew
pub record Comes (s : State) (change : Body → Body) (expert : ℕ) (links links' : List ℕ) (stale stale' : ℕ) : Type 0 where
  pub entry : Entry
  pub function : FnRef
  pub first : Value
  pub is_entry : entry_at s expert ≡ Some entry
  pub is_body : entry.body ≡ Expert function first links stale
  pub becomes : change entry.body ≡ Expert function first links' stale'

module _ (m : Moment) (change : Body → Body) (expert : ℕ) (links links' : List ℕ) (stale stale' : ℕ) (c : Comes m.present change expert links links' stale stale')
    (F : Meanings) (k : Kept) (g : GraphView (Unit {0})) (list : List NodeId) (h : Relisted k g (node_in k.nodes expert) list)
    (lists : list ≡ map (node_in k.nodes) links') (declared : Each (IsDeclaredTarget m.present) links') (grow : stale ≤ stale')
    (renewed : (q : NodeId) → is_marked g q ≡ true → (is_marked k.graph q ≡ true) ⊎ ((q ≡ node_in k.nodes expert) × (stale < stale')))
    (given : NodesGiven m.present k) where
  abbrev s : State
  s = m.present

  abbrev s' : State
  s' = changed_at s expert change

  abbrev new : Kept
  new = record k { graph = g }

  abbrev N : ℕ → NodeId
  N = node_in k.nodes

  abbrev old_body : Body
  old_body = Expert c.function c.first links stale

  abbrev new_body : Body
  new_body = Expert c.function c.first links' stale'

  row_same : (n : NodeId) → row_at g.nodes n ≡ row_at (arena_of k) n
  row_same n = ap (λ (a : Arena). row_at a n) h.nodes

  -- ---- the state

  was : body_at s expert ≡ Some old_body
  was = ap (λ (o : Option Entry). and_then o (λ (d : Entry). Some d.body)) c.is_entry ∙ ap (λ (b : Body). Some b) c.is_body

  entry_now : entry_at s' expert ≡ Some (record c.entry { body = change c.entry.body })
  entry_now = with_same change s.entries expert c.entry c.is_entry

  now : body_at s' expert ≡ Some new_body
  now = ap (λ (o : Option Entry). and_then o (λ (d : Entry). Some d.body)) entry_now ∙ ap (λ (b : Body). Some b) c.becomes

  others : (n : ℕ) → (n ≡ expert → ⊥) → body_at s' n ≡ body_at s n
  others n other = ap (λ (o : Option Entry). and_then o (λ (d : Entry). Some d.body)) (with_other change s.entries expert n other)

  -- what is no expert is another declaration
  other_stays : (n : ℕ) (b : Body) → ((f : FnRef) (v : Value) (ls : List ℕ) (i : ℕ) → b ≡ Expert f v ls i → ⊥) → body_at s n ≡ Some b → body_at s' n ≡ Some b
  other_stays n b no_expert is = elim (cases_eq n expert) [
    | inl same ↦ absurd (let e : Some b ≡ Some old_body = sym is ∙ (ap (body_at s) same ∙ was) in no_expert c.function c.first links stale (cc))
    | inr other ↦ others n other ∙ is
  ]

  other_was : (n : ℕ) (b : Body) → ((f : FnRef) (v : Value) (ls : List ℕ) (i : ℕ) → b ≡ Expert f v ls i → ⊥) → body_at s' n ≡ Some b → body_at s n ≡ Some b
  other_was n b no_expert is = elim (cases_eq n expert) [
    | inl same ↦ absurd (let e : Some b ≡ Some new_body = sym is ∙ (ap (body_at s') same ∙ now) in no_expert c.function c.first links' stale' (cc))
    | inr other ↦ sym (others n other) ∙ is
  ]

  target_on : (t : ℕ) → IsDeclaredTarget s t → IsDeclaredTarget s' t
  target_on t d = elim (cases_eq t expert) [
    | inl same ↦ (new_body, ap (body_at s') same ∙ now, tt)
    | inr other ↦ (d.0, others t other ∙ d.1, d.2)
  ]

  early_on : (n t : ℕ) → IsEarlierTarget s n t → IsEarlierTarget s' n t
  early_on n t early = (
    early.0,
    elim (cases_eq t expert) [
      | inl same ↦ subst IsOwn (sym (ap (body_at s') same ∙ now)) tt
      | inr other ↦ subst IsOwn (sym (others t other)) early.1
    ],
  )

  bodies_on : BodiesStay s s'
  bodies_on n b has is = other_stays n b (λ f v ls i e. let none = subst (λ (d : Body). IsSome (formula_of_body d)) e has in cc) is

  formulas_on : FormulasStay s s'
  formulas_on owner path f is = elim (cases_eq owner expert) [
    | inl same ↦ absurd (
        let none : formula_at s owner path ≡ None =
        ap (λ (o : Option Body). and_then o (λ b. and_then (formula_of_body b) (λ z. part_of z path))) (ap (body_at s) same ∙ was) in cc)
    | inr other ↦ ap (λ (o : Option Body). and_then o (λ b. and_then (formula_of_body b) (λ z. part_of z path))) (others owner other) ∙ is
  ]

  grabs_live : GrabsStay s s'
  grabs_live n b q live = other_stays n (Grab b q true) (λ f v ls i e. cc) live

  body_stays : (n : ℕ) (b : Body) → body_at s n ≡ Some b → (d : Body) × (body_at s' n ≡ Some d)
  body_stays n b is = elim (cases_eq n expert) [
    | inl same ↦ (new_body, ap (body_at s') same ∙ now)
    | inr other ↦ (b, others n other ∙ is)
  ]

  stamps_grow : StampsGrow s s'
  stamps_grow n = elim (cases_eq n expert) [
    | inl same ↦ (
        let before = ap stamp_of_body (ap (body_at s) same ∙ was) in
        let after = ap stamp_of_body (ap (body_at s') same ∙ now) in omega (arith, before, after, grow)
        )
    | inr other ↦ (let e = ap stamp_of_body (others n other) in omega (arith, e))
  ]

  was_entry : (n : ℕ) (d : Entry) → entry_at s' n ≡ Some d → (b : Entry) × (entry_at s n ≡ Some b) × (b.target ≡ d.target)
  was_entry n d is = elim (cases_eq n expert) [
    | inl same ↦ (
        let one : record c.entry { body = change c.entry.body } ≡ d =
        (let e : Some (record c.entry { body = change c.entry.body }) ≡ Some d = sym entry_now ∙ (ap (entry_at s') (sym same) ∙ is) in cc) in
        (c.entry, ap (entry_at s) same ∙ c.is_entry, ap (λ (x : Entry). x.target) one)
        )
    | inr other ↦ (d, sym (with_other change s.entries expert n other) ∙ is, refl)
  ]

  targets_on : (n : ℕ) (d : Entry) → entry_at s n ≡ Some d → (b : Entry) × (entry_at s' n ≡ Some b) × (b.target ≡ d.target)
  targets_on n d is = elim (cases_eq n expert) [
    | inl same ↦ (
        let one : c.entry ≡ d = (let e : Some c.entry ≡ Some d = sym c.is_entry ∙ (ap (entry_at s) (sym same) ∙ is) in cc) in
        (record c.entry { body = change c.entry.body }, ap (entry_at s') same ∙ entry_now, ap (λ (x : Entry). x.target) one)
        )
    | inr other ↦ (d, with_other change s.entries expert n other ∙ is, refl)
  ]

  names_on : AreNames k.names s → AreNames k.names s'
  names_on names = record {
    declared = names.declared ∙ with_names change s.entries expert c.entry c.is_entry
        (ap (λ (b : Body). record { name = c.entry.name; ty = c.entry.ty; kind = kind_of_body b; target = c.entry.target }) c.becomes
        ∙ sym (ap (λ (b : Body). record { name = c.entry.name; ty = c.entry.ty; kind = kind_of_body b; target = c.entry.target }) c.is_body));
    now = names.now;
    in_use = names.in_use;
  }

  -- ---- what the graph holds

  module _ (held : Represents F s k) where
    own_entry : c.entry.target ≡ expert
    own_entry = held.targets expert c.entry c.is_entry ∙ ap (target_of_body expert) c.is_body

    keeps : KeepsGraph AnyNode k g
    keeps = record {
      rows = λ n r u is def. row_same n ∙ is;
      dead = λ n of is. row_same n ∙ is;
      built = λ n of. h.built n;
      frozen = λ n of. h.frozen n;
    }

    -- another expert has another node
    apart_from : (n : ℕ) (b : Body) → body_at s n ≡ Some b → target_of_body n b ≡ n → (n ≡ expert → ⊥) → N n ≡ N expert → ⊥
    apart_from n b is own other same =
        let d = body_entry s n b is in
        other (held.apart n expert d.0 c.entry d.1 c.is_entry (held.targets n d.0 d.1 ∙ (ap (target_of_body n) d.2 ∙ own)) own_entry same)

    expert_shown : Declares (beside F s' new) (N expert) (Some new_body)
    expert_shown =
        let d : Declares (beside F s k) (N expert) (Some old_body) = rw was at (held.declares expert) in
        (d.0, (d.1.0, row_same (N expert) ∙ d.1.1, d.1.2, d.1.3), h.listed ∙ lists)

    declares_each : (n : ℕ) (b : Option Body) → body_at s' n ≡ b → Declares (beside F s' new) (N n) b
    declares_each n None is =
        let none : body_at s n ≡ None = elim (cases_eq n expert) [
          | inl same ↦ absurd (let e : None ≡ Some new_body = sym is ∙ (ap (body_at s') same ∙ now) in cc)
          | inr other ↦ sym (others n other) ∙ is
        ] in
        let old = rw none at (held.declares n) in (row_same (N n) ∙ old.0, refl)
    declares_each n (Some b) is = elim (cases_eq n expert) [
      | inl same ↦ (
          let body : new_body ≡ b = (let e : Some new_body ≡ Some b = sym now ∙ (ap (body_at s') (sym same) ∙ is) in cc) in
          subst (λ (d : Body). Declares (beside F s' new) (N n) (Some d)) body
          (subst (λ (j : ℕ). Declares (beside F s' new) (N j) (Some new_body)) (sym same) expert_shown)
          )
      | inr other ↦ (
          let here : body_at s n ≡ Some b = sym (others n other) ∙ is in
          declares_still AnyNode F s k held (λ j d at. tt) s' k.nodes k.bodies AnyFunction (same_serve F k) g keeps (λ t low. refl) n b here
          (λ alone r row. row_same (N n) ∙ row)
          (λ base span e alike. still_counts k g s base span (ap (λ (a : Arena). a.time) h.nodes) alike)
          (λ f first ls i e. h.others (N n) (apart_from n b here (ap (target_of_body n) e) other))
          )
    ]

    plain_each : AllPlain s'
    plain_each n b is = elim (cases_eq n expert) [
      | inl same ↦ (
          let body : new_body ≡ b = (let e : Some new_body ≡ Some b = sym now ∙ (ap (body_at s') (sym same) ∙ is) in cc) in
          let fine = held.today.plain expert old_body was in
          subst (λ (d : Body). IsPlainBody (IsEarlierTarget s' n) (IsDeclaredTarget s') d) body
          (tt, (value_refers_more (IsDeclaredTarget s) (IsDeclaredTarget s') target_on c.first fine.1.0, each_more links' declared))
          )
      | inr other ↦ plain_body_more (IsEarlierTarget s n) (IsEarlierTarget s' n) (IsDeclaredTarget s) (IsDeclaredTarget s') (early_on n) target_on b
          (held.today.plain n b (sym (others n other) ∙ is))
    ]
      where
        each_more : (ls : List ℕ) → Each (IsDeclaredTarget s) ls → Each (IsDeclaredTarget s') ls
        each_more [] all = tt
        each_more (t ∷ ls) all = (target_on t all.0, each_more ls all.1)

    aged_each : (n : ℕ) (b : Body) → body_at s' n ≡ Some b → OwnNodesOf (graph g) (IsWithin k.nodes n) (IsPartWithin k.nodes n) (N n) b
    aged_each n b is = elim (cases_eq n expert) [
      | inl same ↦ (
          let body : new_body ≡ b = (let e : Some new_body ≡ Some b = sym now ∙ (ap (body_at s') (sym same) ∙ is) in cc) in
          subst (λ (d : Body). OwnNodesOf (graph g) (IsWithin k.nodes n) (IsPartWithin k.nodes n) (N n) d) body
          (held.today.aged n old_body (ap (body_at s) same ∙ was))
          )
      | inr other ↦ own_nodes_of_on (graph k.graph) (graph g) (IsWithin k.nodes n) (IsWithin k.nodes n) (IsPartWithin k.nodes n) (IsPartWithin k.nodes n)
          (λ q z. z) (λ q z. z) keeps.rows (λ q r kid f row def. row_same q ∙ row) (N n) b (held.today.aged n b (sym (others n other) ∙ is))
    ]

    targets_each : (n : ℕ) (d : Entry) → entry_at s' n ≡ Some d → d.target ≡ target_of_body n d.body
    targets_each n d is = elim (cases_eq n expert) [
      | inl same ↦ (
          let one : record c.entry { body = change c.entry.body } ≡ d =
          (let e : Some (record c.entry { body = change c.entry.body }) ≡ Some d = sym entry_now ∙ (ap (entry_at s') (sym same) ∙ is) in cc) in
          subst (λ (x : Entry). x.target ≡ target_of_body n x.body) one (own_entry ∙ (sym same ∙ sym (ap (target_of_body n) c.becomes)))
          )
      | inr other ↦ held.targets n d (sym (with_other change s.entries expert n other) ∙ is)
    ]

    apart_each : NodesApart s' N
    apart_each i j d b at_i at_j own_i own_j same =
        let x = was_entry i d at_i in
        let y = was_entry j b at_j in
        held.apart i j x.0 y.0 x.1 y.1 (x.2 ∙ own_i) (y.2 ∙ own_j) same

    built_each : BuiltAlike s' new
    built_each n left body is =
        let at = bind_body s' n left body is in
        let old = other_was n (Computed (Bind left body) at.0) (λ f v ls i e. cc) at.1 in
        let bind : bind_at s n ≡ Some (left, body) = ap (λ (o : Option Body). and_then o bind_of) old in
        built_still AnyNode F s k held (λ j d z. tt) s' k.nodes k.bodies AnyFunction (same_serve F k) g keeps (λ t low. refl) n left body bind
        (body_within s n (Computed (Bind left body) at.0) old)
        ∙ ap (λ (o : Option Body). option_map (graph_outcome N) (and_then o built_of_body)) (old ∙ sym at.1)

    refers_each : BuiltRefers s'
    refers_each n o is = elim (cases_eq n expert) [
      | inl same ↦ absurd (let none : built_at s' n ≡ None = ap (λ (x : Option Body). and_then x built_of_body) (ap (body_at s') same ∙ now) in cc)
      | inr other ↦ outcome_refers_more (IsDeclaredTarget s) (IsDeclaredTarget s') target_on o
          (held.refers n o (ap (λ (x : Option Body). and_then x built_of_body) (sym (others n other)) ∙ is))
    ]

    grabs_each : GrabsForms s'
    grabs_each n b q left t kept is bind =
        held.grabs n b q left t kept (other_was n (Grab b q true) (λ f v ls i e. cc) is)
        (other_was b (Computed (Bind left (Name t)) kept) (λ f v ls i e. cc) bind)

    relisted_represents : Represents F s' new
    relisted_represents = record {
      room =
          let places = with_amounts places_of_body change s.entries expert c.entry c.is_entry
          (ap places_of_body c.becomes ∙ sym (ap places_of_body c.is_body)) in
          omega (arith, held.room, places);
      clock = ap (λ (a : Arena). a.time) h.nodes ∙ held.clock;
      one_node_each = held.one_node_each ∙ sym (with_length change s.entries expert);
      declares = λ n. declares_each n (body_at s' n) refl;
      targets = targets_each;
      apart = apart_each;
      built = built_each;
      refers = refers_each;
      grabs = grabs_each;
      today = record {
        plain = plain_each;
        aged = aged_each;
        freezes = λ n r kid f row def. freeze_on s s' k.nodes n bodies_on (held.today.freezes n r kid f (sym (row_same n) ∙ row) def);
      };
    }

    -- ---- what is kept beside

    leaves : LeavesBeside k new
    leaves = record {
      rooted = λ o n at. rooted_still g k.graph o (sym h.top.rooted) (ap (λ (os : List Looking). node_at os o) (sym h.observers)) n at;
      since = h.top.since;
      unfrozen = unfrozen_were (Given (arena_of k).given) (graph k.graph) (graph g) (λ n r kid f low row def. sym (row_same n) ∙ row) (λ n low. h.frozen n);
      fewer = h.fewer_links;
      given = let same = ap (λ (a : Arena). a.given) h.nodes in omega (arith, same);
      last = λ n low. h.last n;
      no_more_cutoffs = λ n equal. h.cutoff n ∙ equal;
    }

    marks_grow : MarksGrow s s' k new
    marks_grow q low marked = elim (renewed q marked) [
      | inl old ↦ inl old
      | inr made ↦ inr (
          let d : Declares (beside F s k) (N expert) (Some old_body) = rw was at (held.declares expert) in
          let before = ap stamp_of_body was in
          let after = ap stamp_of_body now in
          let more = made.1 in record {
            position = expert;
            apart = λ t b at own node. held.apart t expert b c.entry at c.is_entry own own_entry (node ∙ made.0);
            more = omega (arith, before, after, more);
            row = d.1.0;
            is_row = ap (graph k.graph).row made.0 ∙ d.1.1;
            no_formula = ap plain d.1.3;
          })
    ]

  scopes_still : ScopesBuilt (graph k.graph) → ScopesBuilt (graph g)
  scopes_still built n r b is scope =
      subst (λ (w : Option BuiltFor). IsSome w) (sym (h.built b)) (built n r b (sym (row_same n) ∙ is) scope)

  -- the script with the changed expert is matched
  pub relisted_stands : MatchesMoment F k m → MatchesMoment F new (record m { present = s' })
  relisted_stands matches = record {
    names = names_on matches.names;
    accepted = matches.accepted;
    broken = matches.broken;
    represents = λ whole. relisted_represents (matches.represents whole);
    watches = watches_on s s' k new h.observers refl refl refl refl (λ n b is. refl) given body_stays target_on matches.watches;
    settled = λ whole.
        settled_on F m.settled s s' k new (leaves (matches.represents whole))
        (record { stamps = stamps_grow; marks = marks_grow (matches.represents whole) })
        (record {
          formulas = formulas_on;
          bodies = bodies_on;
          targets = targets_on;
          names = λ n d is. refl;
          rows = λ n r u is def. row_same n ∙ is;
          freezes = λ n r kid f is def. row_same n ∙ is;
          lives = λ n r is. (r, row_same n ∙ is);
          built = λ b r is. h.built b;
        }) grabs_live scopes_still (λ x among is. among) (matches.settled whole);
  }
