-- What a session keeps of the last accepted stabilize is what the laws of calls ask for.
use Rattle.std.proofs.Common.{◌≡◌, ◌⊎◌, inl, inr, ℕ, zero, suc, ◌≤◌, List, [], ◌∷◌, length, Option, None, Some, option_map, IsSome, refl, ap, sym, subst, ◌∙◌, arith, slice_get}
use Rattle.inc_value.specs.Choice.{Among, Every as Each, and_then}
use Rattle.inc_value.specs.declared.function.FnRef.{FnRef}
use Rattle.inc_value.specs.declared.node.NodeId.{NodeId}
use Rattle.inc_value.specs.declared.node.ObsId.{ObsId}
use Rattle.inc_value.specs.declared.node.Point.{Point}
use Rattle.inc_value.specs.declared.value.Value.{Value as GraphValue}
use Rattle.inc_terms.specs.Term as term
use Rattle.inc_terms.specs.Graph.{Graph, Row}
use Rattle.inc_terms.specs.Term.{Functions}
use Rattle.inc_terms.specs.Need.{Observing, Freezing, nodes_of, Held, Met as GraphMet, from_root, from_held}
use Rattle.inc_terms.specs.Work.{WithinWork as GraphWork}
use Rattle.stabilizer.specs.Left.{StoodBeside, IsMetIn}
use Rattle.graph.specs.Sound.{IsWhole}
use Rattle.graph.specs.Stabilizes.{left_by, died_by}
use Rattle.graph.specs.Standing.{look, GraphView, graph, IsNeeded, cutoff_of}
use Rattle.observers.specs.Observers.{in_use, looked_at, node_at}
use Rattle.map_nodes.proofs.Stopping.{equal_stops}
use Rattle.node_arena.specs.Arena.{row_at}
use Rattle.script_model.specs.Formula.{State, Entry, Body, Observer, Meanings, meanings_of, body_at, entry_at, Variable, Computed, Freeze, After, Every, Expert, Grab}
use Rattle.script_model.specs.Need.{Named, Met, WithinWork, roots}
use Rattle.script_model.specs.Step.{Moment}
use Rattle.script_model.specs.Valid.{Valid, ValidObserver}
use Rattle.stabilize_round.specs.Calls.{arguments_of}
use Rattle.script_graph.specs.Kept.{Kept, node_in, no_node}
use Rattle.script_graph.specs.Represents.{graph_functions, graph_observer, besides, there_in, Watches}
use Rattle.script_graph.specs.Settled.{side_of, observed_by, Settled}
use Rattle.script_graph.specs.State.{Stands}
use Rattle.script_graph.proofs.Extending.{never_given, node_past}
use Rattle.script_graph.proofs.Held.{looked_within, observed_nodes, rooted_looks, rooted_among, needed_held, stood_beside}
use Rattle.script_graph.proofs.Leaving.{scopes_stay}
use Rattle.script_graph.proofs.Looking.{IsRootName, of_observer, of_freeze, freeze_root, observer_root, root_name}
use Rattle.script_graph.proofs.Middle.{IsStabilize, middle, given, fits_then, freezes_then, tops}
use Rattle.script_graph.proofs.Watching.{roots_are_in}
use Rattle.transfer.specs.Both.{Both, graph_outcome}
use Rattle.transfer.specs.Holding.{ScopesStay, Later, HoldersAre, LastKept, MarksAreNew, Remembers}
use Rattle.transfer.specs.Items.{freeze_kid, node_at as place_node, CoveredBy, RootsAre}
use Rattle.transfer.specs.Shows.{Declares, Fits, plain}
use Rattle.transfer.proofs.Holding.{scopes_then}
use Rattle.transfer.proofs.Typed.{body_entry}
use Rattle.transfer.proofs.Working.{met_is_covered, work_is_covered}

-- ---- observers

pub among_there : (made : List (Option Observer)) (j : ℕ) (z : Observer) → slice_get made j ≡ Some (Some z) → Among z (there_in made)
among_there [] j z e = absurd (cc)
among_there (None ∷ made) zero z e = absurd (cc)
among_there (None ∷ made) (suc j) z e = among_there made j z e
among_there (Some y ∷ made) zero z e = inl (cc)
among_there (Some y ∷ made) (suc j) z e = inr (among_there made j z e)

none_past : {A : Type 0} (xs : List A) (j : ℕ) → slice_get xs j ≡ None → length xs ≤ j
none_past [] j e = omega arith
none_past (x ∷ xs) zero e = absurd (cc)
none_past (x ∷ xs) (suc j) e = let rest = none_past xs j e in omega (arith, rest)

-- an observer in use is one of the script
made_there : (s : State) (k : Kept) (w : Watches s k) (o : ObsId) (n : NodeId) → node_at k.graph.observers o ≡ Some n
    → (z : Observer) × (slice_get w.made o.0 ≡ Some (Some z))
made_there s k w o n looks = go (slice_get w.made o.0) refl
  where
    go : (m : Option (Option Observer)) → slice_get w.made o.0 ≡ m → (z : Observer) × (slice_get w.made o.0 ≡ Some (Some z))
    go None is =
        let low = looked_within k.graph.observers o.0 n looks in
        let high = none_past w.made o.0 is in
        let each = w.one_each in absurd (omega (arith, low, high, each))
    go (Some None) is = absurd (let none = w.ended o is in cc)
    go (Some (Some z)) is = (z, is)

-- where something is made of what is shown, something is shown
shown_some : {A B : Type 0} (f : A → B) (o : Option A) → IsSome (option_map f o) → IsSome o
shown_some f None is = is
shown_some f (Some a) is = refl

pub every_one : {A : Type 0} (P : A → Type 0) (x : A) (xs : List A) → Each P xs → Among x xs → P x
every_one P x [] all among = absurd among
every_one P x (y ∷ ys) all (inl e) = subst P (sym e) all.0
every_one P x (y ∷ ys) all (inr among) = every_one P x ys all.1 among

-- a root is declared
root_entry : (F : Meanings) (s : State) → Valid F s → (t : ℕ) → Among (Named t) (roots s) → (e : Entry) × (entry_at s t ≡ Some e)
root_entry F s valid t among =
    by_name (root_name s t among)
  where
    by_name : IsRootName s t → (e : Entry) × (entry_at s t ≡ Some e)
    by_name (of_observer x looks e) =
        let target = (every_one (ValidObserver s) x s.observers valid.observers looks).target in (target.entry, ap (entry_at s) e ∙ target.stands)
    by_name (of_freeze child predicate is) = let e = body_entry s t (Freeze child predicate None) is in (e.0, e.1)

-- ---- the last accepted stabilize

-- more that was held, more is met
met_more : (M : Functions) (G : Graph) (died : NodeId → Option NodeId) (observed : List NodeId) (held more : Point → Type 0)
    → ((p : Point) → held p → more p) → (p : Point) → GraphMet M G died observed held p → GraphMet M G died observed more p
met_more M G died observed held more all p (from_root root on) = from_root root on
met_more M G died observed held more all p (from_held {h} was row stands on) = from_held (all h was) row stands on

module _ (named : List ℕ → Option FnRef) (value : FnRef → List GraphValue → GraphValue) (m : Moment) (k : Kept) (g : GraphView (Unit {0}))
    (stands : Stands (meanings_of named value) k m) (unbroken : m.broken ≡ None) (c : IsStabilize (meanings_of named value) m.present k g)
    (whole : IsWhole c.meaning k.graph) where
  abbrev F : Meanings
  F = meanings_of named value

  abbrev M : Functions
  M = graph_functions F k.bodies

  abbrev s : State
  s = m.present

  abbrev before : State
  before = m.settled

  pub st : Settled F before s k
  st = stands.matches.settled unbroken

  abbrev left : Both
  left = besides F before st.nodes st.bodies st.left

  abbrev y : Both
  y = middle F s k g

  pub fits : Fits y
  fits = fits_then named value s k g c

  -- ---- the pair is a later one

  whole_on : (owner : ℕ) (n : NodeId) → place_node left owner [] ≡ Some n → place_node y owner [] ≡ Some n
  whole_on owner n at = go (body_at before owner) refl at
    where
      node : (b : Body) → body_at before owner ≡ Some b → node_in k.nodes owner ≡ node_in st.nodes owner
      node b is = let entry = body_entry before owner b is in st.still.names owner entry.0 entry.1

      go : (b : Option Body) → body_at before owner ≡ b → place_node left owner [] ≡ Some n → place_node y owner [] ≡ Some n
      go None is at = absurd (let e = rw is at at in cc)
      go (Some (Variable v)) is at = absurd (let e = rw is at at in cc)
      go (Some (Grab bind v is_live)) is at = absurd (let e = rw is at at in cc)
      go (Some (Computed f kept)) is at =
          let was : Some (node_in st.nodes owner) ≡ Some n = rw is at at in
          let now : body_at s owner ≡ Some (Computed f kept) = st.still.bodies owner (Computed f kept) refl is in
          rw now (ap (λ (q : NodeId). Some q) (node (Computed f kept) is) ∙ was)
      go (Some (After time)) is at = absurd (let e = rw is at at in cc)
      go (Some (Every base span)) is at = absurd (let e = rw is at at in cc)
      go (Some (Expert f first links stale)) is at = absurd (let e = rw is at at in cc)
      go (Some (Freeze child predicate frozen)) is at =
          let was : and_then (st.left.row (node_in st.nodes owner)) (λ (r : Row). freeze_kid r.def) ≡ Some n = rw is at at in
          let now : body_at s owner ≡ Some (Freeze child predicate frozen) = st.still.bodies owner (Freeze child predicate frozen) refl is in
          let shows : Declares left (node_in st.nodes owner) (Some (Freeze child predicate frozen)) = rw is at (st.fits.declared owner) in
          let top = shows.1 in
          let kid : freeze_kid top.0.def ≡ Some n = rw top.1 at was in
          let on : row_at k.graph.nodes (node_in st.nodes owner) ≡ Some top.0 = st.still.freezes (node_in st.nodes owner) top.0 shows.0 predicate top.1 top.3 in
          let there : row_at g.nodes (node_in k.nodes owner) ≡ Some top.0 =
          ap (row_at g.nodes) (node (Freeze child predicate frozen) is) ∙ tops named value s k g c (node_in st.nodes owner) top.0 on top.2 in
          rw (now, there) kid

  names_on : (n : ℕ) (o : Option Entry) → entry_at before n ≡ o
      → (y.nodes n ≡ left.nodes n) ⊎ ((entry_at before n ≡ None) × (y.graph.row (left.nodes n) ≡ None))
  names_on n (Some e) is = inl (st.still.names n e is)
  names_on n None is =
      let high = none_past before.entries n is in
      let each = st.one_node_each in
      let past : node_in st.nodes n ≡ no_node = node_past st.nodes n (omega (arith, high, each)) in
      inr (is, ap (row_at g.nodes) past ∙ never_given g.nodes c.sound'.nodes)

  stay : ScopesStay (graph k.graph) y.graph
  stay =
      let h = scopes_stay M k.graph g c.before c.after (given named value s k g c) c.sound.scopes c.built c.stays c.left in
      record { rows = h.rows; tops = h.tops; within = h.within; scopes = h.scopes; roots = h.roots }

  later : Later left y
  later = record {
    meanings = refl;
    formulas = st.still.formulas;
    targets = st.still.targets;
    names = λ n. names_on n (entry_at before n) refl;
    wholes = whole_on;
    scopes = scopes_then left.graph (graph k.graph) y.graph st.still.rows st.still.built
        (λ n r b row scope. let q = st.scopes n r b row scope in (q.0, term.Bind (term.Ref q.1) q.2 (term.refs q.3), q.4, ap plain q.5))
        (λ b r row w is. st.still.lives b r row) stay;
  }

  -- ---- what stood beside the graph

  holders : HoldersAre left y (side_of k.graph) (observed_by k.graph)
  holders (Observing o) n root still =
      let looks = rooted_looks k.graph o n root in
      let w = stands.matches.watches in
      let z = made_there s k w o n looks.1 in
      let is = w.observing o z.0 z.1 in
      let shows = shown_some (graph_outcome (node_in k.nodes)) z.0.shown
      (c.sound.showing (graph_observer (node_in k.nodes) z.0) (rooted_among k.graph o (graph_observer (node_in k.nodes) z.0) looks.0 is.is) refl) in
      let among : Among z.0 s.observers = subst (Among z.0) (sym w.in_order) (among_there w.made o.0 z.0 z.1) in
      let root_then = st.watched z.0 among shows in
      let entry = root_entry F before stands.valid.0 z.0.target root_then in
      let node : node_in k.nodes z.0.target ≡ n = (let e = sym (ap looked_at is.is) ∙ looks.1 in cc) in
      (z.0.target, sym node ∙ st.still.names z.0.target entry.0 entry.1, root_then, observer_root s z.0 among)
  holders (Freezing f) n root still =
      let w = st.freezes f n root in
      let entry = body_entry before w.position (Freeze w.child w.predicate None) w.was in
      let now = st.still.bodies w.position (Freeze w.child w.predicate None) refl w.was in (
        w.position,
        sym w.node,
        freeze_root before w.position w.child w.predicate w.was,
        freeze_root s w.position w.child w.predicate now,
      )

  last : LastKept left (side_of k.graph)
  last v is need =
      let w = st.ran v is need in
      (w.node, w.is_node, ap arguments_of w.is_last ∙ ap (λ (vs : List GraphValue). Some vs) w.values_are)

  marks : MarksAreNew left y (side_of k.graph)
  marks v n is need at stale same = st.marks v n is need at stale same

  pub remembers : Remembers left y (side_of k.graph) (observed_by k.graph)
  remembers = record {
    keep = stands.keep;
    valid = stands.valid.0;
    fits = st.fits;
    later = later;
    holders = holders;
    links = st.links;
    last = last;
    marks = marks;
    cutoffs = λ n tells. equal_stops (cutoff_of k.graph n) (st.today.equal n) tells;
  }

  -- ---- what is met, and which calls are due

  pub observed_are_roots : RootsAre y (in_use k.graph.observers)
  observed_are_roots = roots_are_in y k (λ t. refl) fits.declared (freezes_then named value s k g c) stands.matches.watches

  roots_now : RootsAre y (nodes_of (observed_by k.graph))
  roots_now = subst (RootsAre y) (sym (observed_nodes 0 k.graph.observers)) observed_are_roots

  -- what the graph meets is covered by what the script meets
  pub meeting_is_covered : (p : Point) → IsMetIn M (left_by k.graph g) (died_by k.graph g) (look k.graph) (in_use k.graph.observers) p → CoveredBy y (Met F before s) p
  meeting_is_covered p met =
      met_is_covered left y (side_of k.graph) (observed_by k.graph) remembers fits stands.valid.1 c.held.apart roots_now p
      (subst (λ (ns : List NodeId). GraphMet M y.graph y.died ns (Held (side_of k.graph) (observed_by k.graph)) p)
      (sym (observed_nodes 0 k.graph.observers))
      (met_more M y.graph y.died (in_use k.graph.observers) (IsNeeded k.graph)
      (Held (side_of k.graph) (observed_by k.graph)) (needed_held k.graph whole.roots) p met))

  pub stood : StoodBeside (side_of k.graph) (look k.graph) (observed_by k.graph)
  stood = stood_beside k.graph whole.roots

  pub observed_among : (n : NodeId) → Among n (in_use k.graph.observers) → Among n (nodes_of (observed_by k.graph))
  observed_among n among = subst (Among n) (sym (observed_nodes 0 k.graph.observers)) among

  -- calls that are due over the graph are due of the script
  pub due_is_covered : (calls : ℕ) → GraphWork M y.graph y.died (observed_by k.graph) (side_of k.graph) calls → WithinWork F before s calls
  due_is_covered calls work =
      work_is_covered left y (side_of k.graph) (observed_by k.graph) remembers fits stands.valid.1 c.held.apart roots_now calls work
