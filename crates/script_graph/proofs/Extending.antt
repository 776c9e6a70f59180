-- A graph to which nodes were added, and what is kept of a script over it.
use Rattle.std.proofs.Common.{◌≡◌, ◌⊎◌, inl, inr, ℕ, ℤ, pos, zero, suc, ◌-◌, ◌/◌, ◌-ℤ◌, ◌<◌, ◌≤◌, true, false, List, [], ◌∷◌, map, length, Option, None, Some, IsSome, IfSome, option_map, refl, ap, sym, subst, ◌∙◌, arith, slice_get}
use Rattle.std.proofs.lemmas.Int.{ints}
use Rattle.std.proofs.lemmas.Option.{slice_get_within, none-some}
use Rattle.std.specs.Int.Signed.{quot_z}
use Rattle.inc_value.specs.Choice.{and_then, Every as Each}
use Rattle.inc_value.specs.declared.function.FnKind.{FnKind}
use Rattle.inc_value.specs.declared.function.FnRef.{FnRef}
use Rattle.inc_value.specs.declared.node.NodeId.{NodeId}
use Rattle.inc_value.specs.declared.outcome.Outcome.{Outcome as GraphOutcome}
use Rattle.inc_value.specs.declared.outcome.Outcome.TheVariants as outcome
use Rattle.inc_value.specs.declared.value.Value.{Value as GraphValue}
use Rattle.inc_terms.specs.Graph as graph_def
use Rattle.inc_terms.specs.Graph.{Graph, Row, Built as BuiltFor}
use Rattle.inc_terms.specs.Rebuilding.{outcome_of}
use Rattle.inc_terms.specs.Term as term
use Rattle.inc_terms.specs.Term.{Functions}
use Rattle.inc_terms.specs.Within.{Given}
use Rattle.graph.specs.Effects.{KeepsTop, KeepsNodes, KeepsBeside, KeepsBesideGiven, KeepsAll, Adds, TakesBack, NoneScopedSince}
use Rattle.graph.specs.Standing.{GraphView, graph}
use Rattle.node_arena.specs.Arena.{Arena, row_at}
use Rattle.node_arena.specs.Sound as arena
use Rattle.script_functions.specs.Bodies as Bodies
use Rattle.script_model.specs.Formula.{State, Body, Entry, Formula, Formulas, TimedValue, Meanings, bind_at, body_at, built_at, Literal, Name, Bound, Apply, Fold, If, Join, Bind, At, Steps, Now, End, More, Variable, Computed, Freeze, After, Every, Expert, Grab}
use Rattle.script_model.specs.Leaves.{EveryReference, EveryLeaf, EveryLeafOfAll}
use Rattle.script_model.specs.Step.{Moment}
use Rattle.script_model.specs.Values.{Value, Int, Bool as Truth, Text, Reference, Outcome}
use Rattle.script_graph.specs.Growing.{Extends}
use Rattle.script_graph.specs.Kept.{Kept, arena_of, node_in, no_node, without_functions}
use Rattle.script_graph.specs.Represents.{beside, besides, graph_functions, Represents}
use Rattle.script_graph.specs.Settled.{ScopesBuilt}
use Rattle.script_graph.specs.Today.{IsPlainBody, IsEarlierTarget, IsDeclaredTarget, IsWithin, IsPartWithin}
use Rattle.script_graph.specs.State.{MatchesMoment}
use Rattle.script_graph.proofs.Bodies.{terms_itself}
use Rattle.inc_terms.proofs.Unfolding.{AnyFunction}
use Rattle.script_graph.proofs.Carrying.{watches_on, leaves_beside, leaves_marks, settled_on}
use Rattle.script_graph.proofs.Owning.{own_nodes_of_on}
use Rattle.script_graph.proofs.Referring.{value_agrees, outcome_agrees}
use Rattle.transfer.specs.Both.{Both, graph_value, graph_outcome}
use Rattle.transfer.specs.Keeping.{RowsStay, TermsStay}
use Rattle.transfer.specs.Shows.{Built, Shows, IsTop, Declares, plain}
use Rattle.transfer.proofs.Frame.{shows_on}
use Rattle.transfer.proofs.Mentions.{ValueMentions, Mentions, AllMention}
use Rattle.stabilize_round.proofs.Points.{node_or_other}
use Rattle.transfer.proofs.Typed.{bind_body, body_entry}

-- ---- extending

module _ {F : Type 0} where
  -- what stays beside nodes stays but for the functions
  pub top_without : (a b : GraphView F) → KeepsTop a b → KeepsTop (without_functions a) (without_functions b)
  top_without a b h = record { functions = refl; rooted = h.rooted; since = h.since; refused = h.refused; ran = h.ran; notices = h.notices }

  pub nodes_without : (Of : NodeId → Type 0) (a b : GraphView F) → KeepsNodes Of a b → KeepsNodes Of (without_functions a) (without_functions b)
  nodes_without Of a b h =
      record { shown = h.shown; chosen = h.chosen; built = h.built; last = h.last; frozen = h.frozen; lists = h.lists; marks = h.marks }

  pub beside_without : (Of : NodeId → Type 0) (a b : GraphView F) → KeepsBeside Of a b → KeepsBeside Of (without_functions a) (without_functions b)
  beside_without Of a b h = record {
    top = top_without a b h.top;
    observers = h.observers;
    need = record { links = h.need.links; roots = h.need.roots };
    of_nodes = nodes_without Of a b h.of_nodes;
    cutoff = h.cutoff;
    no_more_cutoffs = h.no_more_cutoffs;
  }

  -- so over one call after another, of the nodes of which both keep it
  pub beside_on : (Of Later : NodeId → Type 0) (a b c : GraphView F) → ((n : NodeId) → Of n → Later n) → KeepsBeside Of a b → KeepsBeside Later b c
      → KeepsBeside Of a c
  beside_on Of Later a b c later g h = record {
    top = record {
      functions = h.top.functions ∙ g.top.functions;
      rooted = h.top.rooted ∙ g.top.rooted;
      since = h.top.since ∙ g.top.since;
      refused = h.top.refused ∙ g.top.refused;
      ran = h.top.ran ∙ g.top.ran;
      notices = h.top.notices ∙ g.top.notices;
    };
    observers = h.observers ∙ g.observers;
    need = record { links = λ p q. h.need.links p q ∙ g.need.links p q; roots = λ p. h.need.roots p ∙ g.need.roots p };
    of_nodes = record {
      shown = λ n of. h.of_nodes.shown n (later n of) ∙ g.of_nodes.shown n of;
      chosen = λ n of. h.of_nodes.chosen n (later n of) ∙ g.of_nodes.chosen n of;
      built = λ n of. h.of_nodes.built n (later n of) ∙ g.of_nodes.built n of;
      last = λ n of. h.of_nodes.last n (later n of) ∙ g.of_nodes.last n of;
      frozen = λ n of. h.of_nodes.frozen n (later n of) ∙ g.of_nodes.frozen n of;
      lists = λ n of. h.of_nodes.lists n (later n of) ∙ g.of_nodes.lists n of;
      marks = λ n of. h.of_nodes.marks n (later n of) ∙ g.of_nodes.marks n of;
    };
    cutoff = λ n of. h.cutoff n (later n of) ∙ g.cutoff n of;
    no_more_cutoffs = λ n equal. h.no_more_cutoffs n (g.no_more_cutoffs n equal);
  }

module _ {F : Type 0} where
  pub extends_itself : (s : GraphView F) → Extends s s
  extends_itself s = record {
    beside = record {
      top = record { functions = refl; rooted = refl; since = refl; refused = refl; ran = refl; notices = refl };
      observers = refl;
      need = record { links = λ p q. refl; roots = λ p. refl };
      of_nodes = record {
        shown = λ n h. refl;
        chosen = λ n h. refl;
        built = λ n h. refl;
        last = λ n h. refl;
        frozen = λ n h. refl;
        lists = λ n h. refl;
        marks = λ n h. refl;
      };
      cutoff = λ n h. refl;
      no_more_cutoffs = λ n equal. equal;
    };
    given = omega arith;
    time = refl;
    rows = λ n h. refl;
    outside = λ n r is. inl is;
  }

  pub extends_on : (a b c : GraphView F) → Extends a b → Extends b c → Extends a c
  extends_on a b c g h = record {
    beside = beside_on (Given a.nodes.given) (Given b.nodes.given) (without_functions a) (without_functions b) (without_functions c)
        (λ n low. omega (arith, low, g.given)) g.beside h.beside;
    given = omega (arith, g.given, h.given);
    time = h.time ∙ g.time;
    rows = λ n low. h.rows n (omega (arith, low, g.given)) ∙ g.rows n low;
    outside = λ n r is. elim (h.outside n r is) [ inl was ↦ g.outside n r was | inr out ↦ inr out ];
  }

  pub adds_extends : (a b : GraphView F) (id : NodeId) (r : Row) → Adds a b id r → r.scope ≡ None → Extends a b
  adds_extends a b id r h out = record {
    beside = beside_without (Given a.nodes.given) a b h.beside;
    given = omega (arith, h.given);
    time = h.changes.time;
    rows = λ n low. h.changes.others n (λ same. let gen = ap (λ (m : NodeId). m.gen_) same in omega (arith, low, gen, h.fresh));
    outside = λ n q is. elim (node_or_other n id) [
      | inl same ↦
          inr (let e : Some r ≡ Some q = sym h.changes.changed ∙ (ap (row_at b.nodes) (sym same) ∙ is) in
          let rows : r ≡ q = cc in ap (λ (x : Row). x.scope) (sym rows) ∙ out)
      | inr other ↦ inl (sym (h.changes.others n other) ∙ is)
    ];
  }

  pub keeps_extends : (a b : GraphView F) → KeepsAll a b → Extends a b
  keeps_extends a b h = record {
    beside = beside_without (Given a.nodes.given) a b h.beside;
    given = let same = ap (λ (a : Arena). a.given) h.nodes in omega (arith, same);
    time = ap (λ (a : Arena). a.time) h.nodes;
    rows = λ n low. ap (λ (a : Arena). row_at a n) h.nodes;
    outside = λ n r is. inl (sym (ap (λ (a : Arena). row_at a n) h.nodes) ∙ is);
  }

  -- nodes that were added and taken back again
  pub taken_back_extends : (a b c : GraphView F) (count : ℕ) → Extends a b → TakesBack b c count → a.nodes.given ≤ count → Extends a c
  taken_back_extends a b c count g h later = record {
    beside = beside_on (Given a.nodes.given) (λ n. n.gen_ < count) (without_functions a) (without_functions b) (without_functions c)
        (λ n low. omega (arith, low, later)) g.beside (beside_without (λ n. n.gen_ < count) b c h.beside);
    given = omega (arith, g.given, h.given);
    time = h.time ∙ g.time;
    rows = λ n low. h.older n (omega (arith, low, later)) ∙ g.rows n low;
    outside = λ n r is. elim (below_or n.gen_ count) [
      | inl low ↦ g.outside n r (sym (h.older n low) ∙ is)
      | inr high ↦ absurd (none-some r (sym (h.dropped n high) ∙ is))
    ];
  }
    where
      below_or : (i j : ℕ) → (i < j) ⊎ (j ≤ i)
      below_or i j = grind arith

  -- nodes that were there stay but for the functions
  pub extends_without : (a b : GraphView F) → Extends a b → Extends (without_functions a) (without_functions b)
  extends_without a b h = record {
    beside = h.beside;
    given = h.given;
    time = h.time;
    rows = h.rows;
    outside = h.outside;
  }

  -- still none that was given since a count stands in a scope
  pub unscoped_on : (a b : GraphView F) (count : ℕ) → Extends a b → NoneScopedSince a.nodes count → NoneScopedSince b.nodes count
  unscoped_on a b count h none n r is since = elim (h.outside n r is) [ inl was ↦ none n r was since | inr out ↦ out ]

  -- live nodes stay
  pub live_stays : (a b : GraphView F) → arena.IsSoundArena a.nodes → Extends a b → (n : NodeId) (r : Row)
      → row_at a.nodes n ≡ Some r → row_at b.nodes n ≡ Some r
  live_stays a b sound h n r is = h.rows n (sound.given n (rw is refl)) ∙ is

-- functions were added
pub rest_extends : {F : Type 0} (a b : GraphView F) → without_functions b ≡ without_functions a → Extends a b
rest_extends a b same =
    let e = subst (λ (s : GraphView (Unit {0})). Extends (without_functions a) s) (sym same) (extends_itself (without_functions a)) in
    record { beside = e.beside; given = e.given; time = e.time; rows = e.rows; outside = e.outside }

same_unit : (x y : Unit {0}) → x ≡ y
same_unit x y = refl

-- where there are no functions all stays beside
pub extends_beside : (a b : GraphView (Unit {0})) → Extends a b → KeepsBesideGiven a b
extends_beside a b h = record {
  top = record {
    functions = same_unit b.functions a.functions;
    rooted = h.beside.top.rooted;
    since = h.beside.top.since;
    refused = h.beside.top.refused;
    ran = h.beside.top.ran;
    notices = h.beside.top.notices;
  };
  observers = h.beside.observers;
  need = record { links = h.beside.need.links; roots = h.beside.need.roots };
  of_nodes = record {
    shown = h.beside.of_nodes.shown;
    chosen = h.beside.of_nodes.chosen;
    built = h.beside.of_nodes.built;
    last = h.beside.of_nodes.last;
    frozen = h.beside.of_nodes.frozen;
    lists = h.beside.of_nodes.lists;
    marks = h.beside.of_nodes.marks;
  };
  cutoff = h.beside.cutoff;
  no_more_cutoffs = h.beside.no_more_cutoffs;
}

-- ---- what formulas mention

module _ (P R Q : ℕ → Type 0) (names : (n : ℕ) → P n → Q n) (refers : (n : ℕ) → R n → Q n) where
  value_mentions : (v : Value) → EveryReference R v → ValueMentions Q v
  value_mentions (Int z) h = tt
  value_mentions (Truth b) h = tt
  value_mentions (Text bytes) h = tt
  value_mentions (Reference target base) h = refers target h

  steps_mention : (steps : List TimedValue) → Each (λ (s : TimedValue). EveryReference R s.value) steps → Each (λ (s : TimedValue). ValueMentions Q s.value) steps
  steps_mention [] h = tt
  steps_mention (s ∷ steps) h = (value_mentions s.value h.0, steps_mention steps h.1)

  mutual
    -- the names and references of a formula that has the one property and the other
    pub leaves_mention : (f : Formula) → EveryLeaf P R f → Mentions Q f
    leaves_mention (Literal v) h = value_mentions v h
    leaves_mention (Name k) h = names k h
    leaves_mention (Bound k) h = tt
    leaves_mention (Apply g fs) h = all_leaves_mention fs h
    leaves_mention (Fold g v fs) h = (value_mentions v h.0, all_leaves_mention fs h.1)
    leaves_mention (If test a b) h = (leaves_mention test h.0, leaves_mention a h.1, leaves_mention b h.2)
    leaves_mention (Join child) h = leaves_mention child h
    leaves_mention (Bind left body) h = (leaves_mention left h.0, leaves_mention body h.1)
    leaves_mention (At time) h = tt
    leaves_mention (Steps v steps) h = (value_mentions v h.0, steps_mention steps h.1)
    leaves_mention Now h = tt

    all_leaves_mention : (fs : Formulas) → EveryLeafOfAll P R fs → AllMention Q fs
    all_leaves_mention End h = tt
    all_leaves_mention (More f fs) h = (leaves_mention f h.0, all_leaves_mention fs h.1)

-- ---- declarations that are there

pub entry_body : (s : State) (n : ℕ) (e : Entry) → slice_get s.entries n ≡ Some e → body_at s n ≡ Some e.body
entry_body s n e is = ap (λ (o : Option Entry). and_then o (λ (d : Entry). Some d.body)) is

pub body_within : (s : State) (n : ℕ) (b : Body) → body_at s n ≡ Some b → n < length s.entries
body_within s n b is = let e = body_entry s n b is in slice_get_within s.entries n e.0 e.1

pub body_there : (s : State) (n : ℕ) → n < length s.entries → (b : Body) × (body_at s n ≡ Some b)
body_there s n low = let e = inside s.entries n low in (e.0.body, entry_body s n e.0 e.1)
  where
    inside : (es : List Entry) (i : ℕ) → i < length es → (e : Entry) × (slice_get es i ≡ Some e)
    inside [] i low = absurd (omega (arith, low))
    inside (e ∷ es) zero low = (e, refl)
    inside (e ∷ es) (suc i) low = inside es i (omega (arith, low))

-- an id that is never given is of no node
pub never_given : (a : Arena) → arena.IsSoundArena a → row_at a no_node ≡ None
never_given a sound = go (row_at a no_node) refl
  where
    go : (o : Option Row) → row_at a no_node ≡ o → row_at a no_node ≡ None
    go None is = is
    go (Some r) is = absurd (let low = sound.given no_node (rw is refl) in omega (arith, low, sound.count))

pub body_past : (s : State) (n : ℕ) → body_at s n ≡ None → length s.entries ≤ n
body_past s n is = entry_past s.entries n is
  where
    entry_past : (es : List Entry) (i : ℕ) → and_then (slice_get es i) (λ (e : Entry). Some e.body) ≡ None → length es ≤ i
    entry_past [] i e = omega arith
    entry_past (x ∷ es) zero e = absurd (cc)
    entry_past (x ∷ es) (suc i) e = let rest = entry_past es i e in omega (arith, rest)

pub node_past : (ns : List NodeId) (i : ℕ) → length ns ≤ i → node_in ns i ≡ no_node
node_past [] i high = refl
node_past (x ∷ ns) zero high = absurd (omega (arith, high))
node_past (x ∷ ns) (suc i) high = node_past ns i (omega (arith, high))

-- ---- what nodes show, and what binds are built for

-- of spans from a base on the graph's clock counts as many as the script's
abbrev pub CountsSpans : Graph → State → ℕ → ℕ → Type 0
CountsSpans G s base span = quot_z (G.now -ℤ pos base) (pos span) ≡ pos ((s.now - base) / span)

-- where its time is the script's, and has come to the base, it does
pub counts_at : (time : ℤ) (now base span : ℕ) → time ≡ pos now → base ≤ now → quot_z (time -ℤ pos base) (pos span) ≡ pos ((now - base) / span)
counts_at time now base span clock reached =
    let past : time -ℤ pos base ≡ pos (now - base) = omega (arith, ints, clock, reached) in ap (λ (z : ℤ). quot_z z (pos span)) past

-- and it does so while the time stands
pub still_counts : (k : Kept) (g : GraphView (Unit {0})) (s : State) (base span : ℕ) → g.nodes.time ≡ (arena_of k).time
    → CountsSpans (graph k.graph) s base span → CountsSpans (graph g) s base span
still_counts k g s base span time alike = subst (λ (t : ℤ). quot_z (t -ℤ pos base) (pos span) ≡ pos ((s.now - base) / span)) (sym time) alike

-- no row tells of what is declared as a formula does
abbrev pub StandsAlone : Body → Type 0
StandsAlone (Variable v) = Unit {0}
StandsAlone (Every base span) = Unit {0}
StandsAlone (Freeze child predicate frozen) = Unit {0}
StandsAlone (Expert f first links stale) = Unit {0}
StandsAlone body = ⊥

-- the nodes of declarations are among these
abbrev pub NodesAre : (NodeId → Type 0) → State → Kept → Type 0
NodesAre Of s k = (n : ℕ) (b : Body) → body_at s n ≡ Some b → Of (node_in k.nodes n)

-- their ids were given
abbrev pub NodesGiven : State → Kept → Type 0
NodesGiven s k = NodesAre (Given (arena_of k).given) s k

-- rows that formulas may have stay in a graph; of these nodes those that are dead stay so, binds are built as they were, and freezes keep what they kept
pub record KeepsGraph (Of : NodeId → Type 0) (k : Kept) (g : GraphView (Unit {0})) : Type 0 where
  pub rows : RowsStay (graph k.graph) (graph g)
  pub dead : (n : NodeId) → Of n → row_at (arena_of k) n ≡ None → row_at g.nodes n ≡ None
  pub built : (n : NodeId) → Of n → (graph g).built n ≡ (graph k.graph).built n
  pub frozen : (n : NodeId) → Of n → (graph g).frozen n ≡ (graph k.graph).frozen n

-- an expert lists what it listed
abbrev pub ListsStay : Kept → GraphView (Unit {0}) → ℕ → Body → Type 0
ListsStay k g n b =
    (f : FnRef) (first : Value) (links : List ℕ) (stale : ℕ) → b ≡ Expert f first links stale
    → (graph g).lists (node_in k.nodes n) ≡ (graph k.graph).lists (node_in k.nodes n)

-- over the functions of these bodies terms are what they were
abbrev pub BodiesServe : Meanings → Kept → List Bodies.Body → (FnKind → FnRef → Type 0) → Type 0
BodiesServe F k bodies Q = (x : Both) → x.functions ≡ graph_functions F k.bodies → x.graph ≡ graph k.graph → TermsStay x (graph_functions F bodies) Q

-- those that are kept serve
pub same_serve : (F : Meanings) (k : Kept) → BodiesServe F k k.bodies AnyFunction
same_serve F k x functions is = subst (λ (H : Functions). TermsStay x H AnyFunction) functions (terms_itself x)

module _ (Of : NodeId → Type 0) (F : Meanings) (s : State) (k : Kept) (held : Represents F s k) (given : NodesAre Of s k) (s' : State) (nodes : List NodeId)
    (bodies : List Bodies.Body) (Q : FnKind → FnRef → Type 0) (serve : BodiesServe F k bodies Q) (g : GraphView (Unit {0})) (keeps : KeepsGraph Of k g)
    (same : (t : ℕ) → t < length s.entries → node_in nodes t ≡ node_in k.nodes t) where
  abbrev x : Both
  x = beside F s k

  abbrev y : Both
  y = besides F s' nodes bodies (graph g)

  abbrev Old : ℕ → Type 0
  Old t = t < length s.entries

  early_old : (n : ℕ) (b : Body) → body_at s n ≡ Some b → (t : ℕ) → IsEarlierTarget s n t → Old t
  early_old n b is t early = let low = body_within s n b is in omega (arith, low, early.0)

  target_old : (t : ℕ) → IsDeclaredTarget s t → Old t
  target_old t d = body_within s t d.0 d.1

  value_still : (v : Value) → EveryReference (IsDeclaredTarget s) v → graph_value (node_in k.nodes) v ≡ graph_value (node_in nodes) v
  value_still v refers = value_agrees (IsDeclaredTarget s) (node_in k.nodes) (node_in nodes) (λ t d. same t (target_old t d)) v refers

  -- so is what a freeze keeps, and what an expert is linked to
  frozen_still : (v : Option Value) → IfSome v (EveryReference (IsDeclaredTarget s))
      → option_map (graph_value (node_in k.nodes)) v ≡ option_map (graph_value (node_in nodes)) v
  frozen_still None refers = refl
  frozen_still (Some v) refers = ap (λ (w : GraphValue). Some w) (value_still v refers)

  links_still : (links : List ℕ) → Each (IsDeclaredTarget s) links → map (node_in k.nodes) links ≡ map (node_in nodes) links
  links_still [] declared = refl
  links_still (t ∷ links) declared =
      ap (λ (n : NodeId). n ∷ map (node_in k.nodes) links) (sym (same t (target_old t declared.0)))
      ∙ ap (λ (ns : List NodeId). node_in nodes t ∷ ns) (links_still links declared.1)

  old_given : (t : ℕ) → Old t → Of (node_in k.nodes t)
  old_given t low = let b = body_there s t low in given t b.0 b.1

  -- what was declared is shown still
  module _ (n : ℕ) (b : Body) (is : body_at s n ≡ Some b)
      (top : StandsAlone b → (r : Row) → row_at (arena_of k) (node_in k.nodes n) ≡ Some r → row_at g.nodes (node_in k.nodes n) ≡ Some r)
      (counts : (base span : ℕ) → b ≡ Every base span → CountsSpans (graph k.graph) s base span → CountsSpans (graph g) s' base span)
      (lists : ListsStay k g n b) where
    node : node_in nodes n ≡ node_in k.nodes n
    node = same n (body_within s n b is)

    by_body : (c : Body) → b ≡ c → IsPlainBody (IsEarlierTarget s n) (IsDeclaredTarget s) c → Declares x (node_in k.nodes n) (Some c)
        → Declares y (node_in nodes n) (Some c)
    by_body (Variable v) c fine (r, row, scope, def) =
        subst (λ (q : NodeId). IsTop y.graph q (graph_def.Var (graph_value y.nodes v))) (sym node)
        (r, top (subst StandsAlone (sym c) tt) r row, scope, def ∙ ap (λ w. graph_def.Var w) (value_still v fine.1))
    by_body (Computed f kept) c fine h =
        subst (λ (q : NodeId). Shows y (Built None) [] (term.Ref q) f) (sym node)
        (shows_on x (graph_functions F bodies) Q (serve x refl refl) (graph g) s' (node_in nodes) Old same keeps.rows None [] tt (term.Ref (node_in k.nodes n)) f
        (leaves_mention (IsEarlierTarget s n) (IsDeclaredTarget s) Old (early_old n b is) target_old f fine.1) h)
    by_body (Grab bind v false) c fine h =
        (ap (row_at g.nodes) node ∙ keeps.dead (node_in k.nodes n) (given n b is) h.0, refl)
    by_body (Grab bind v true) c fine (inl (w, built, for, root)) =
        let low = early_old n b is bind fine.0 in inl (
          w,
          ap (λ (q : NodeId). (graph g).built q) (same bind low) ∙ (keeps.built (node_in k.nodes bind) (old_given bind low) ∙ built),
          for ∙ ap (λ (u : GraphValue). outcome.Val u) (value_still v fine.1),
          root ∙ ap (λ (q : NodeId). Some q) (sym node),
        )
    by_body (Grab bind v true) c fine (inr lost) = absurd (let died = lost.2 in cc)
    by_body (After time) c fine (r, row, scope, def) =
        subst (λ (q : NodeId). IsTop y.graph q (graph_def.At (pos time))) (sym node)
        (r, keeps.rows (node_in k.nodes n) r (term.At (pos time)) row (ap plain def), scope, def)
    by_body (Every base span) c fine ((r, row, scope, def), alike) = (
      subst (λ (q : NodeId). IsTop y.graph q (graph_def.Every (pos base) (pos span))) (sym node) (r, top (subst StandsAlone (sym c) tt) r row, scope, def),
      counts base span c alike,
    )
    by_body (Freeze child predicate frozen) c fine (kid, (r, row, scope, def), shows, keeps_it) = (
      kid,
      subst (λ (q : NodeId). IsTop y.graph q (graph_def.Freeze kid predicate)) (sym node) (r, top (subst StandsAlone (sym c) tt) r row, scope, def),
      shows_on x (graph_functions F bodies) Q (serve x refl refl) (graph g) s' (node_in nodes) Old same keeps.rows None [] tt (term.Ref kid) child
          (leaves_mention (IsEarlierTarget s n) (IsDeclaredTarget s) Old (early_old n b is) target_old child fine.1.0) shows,
      ap (λ (q : NodeId). (graph g).frozen q) node ∙ (keeps.frozen (node_in k.nodes n) (given n b is) ∙ (keeps_it ∙ frozen_still frozen fine.1.1)),
    )
    by_body (Expert f first links stale) c fine (kids, (r, row, scope, def), listed) = (
      kids,
      subst (λ (q : NodeId). IsTop y.graph q (graph_def.Expert f (graph_value y.nodes first) kids)) (sym node)
          (r, top (subst StandsAlone (sym c) tt) r row, scope, def ∙ ap (λ w. graph_def.Expert f w kids) (value_still first fine.1.0)),
      ap (λ (q : NodeId). (graph g).lists q) node ∙ (lists f first links stale c ∙ (listed ∙ links_still links fine.1.1)),
    )

    pub declares_still : Declares y (node_in nodes n) (Some b)
    declares_still = by_body b refl (held.today.plain n b is) (rw is at (held.declares n))

  -- what its bind is built for is so still
  pub built_still : (n : ℕ) (left body : Formula) → bind_at s n ≡ Some (left, body) → n < length s.entries
      → outcome_of ((graph g).built (node_in nodes n)) ≡ option_map (graph_outcome (node_in nodes)) (built_at s n)
  built_still n left body is low =
      ap (λ (q : NodeId). outcome_of ((graph g).built q)) (same n low)
      ∙ (ap outcome_of (keeps.built (node_in k.nodes n) (old_given n low)) ∙ (held.built n left body is ∙ agree (built_at s n) refl))
    where
      agree : (o : Option Outcome) → built_at s n ≡ o → option_map (graph_outcome (node_in k.nodes)) o ≡ option_map (graph_outcome (node_in nodes)) o
      agree None e = refl
      agree (Some o) e =
          ap (λ (p : GraphOutcome). Some p)
          (outcome_agrees (IsDeclaredTarget s) (node_in k.nodes) (node_in nodes) (λ t d. same t (target_old t d)) o (held.refers n o e))

-- where nodes were added all stays
module _ (k : Kept) (g : GraphView (Unit {0})) (sound : arena.IsSoundArena (arena_of k)) (more : Extends k.graph g) where
  pub extends_keeps : KeepsGraph (Given (arena_of k).given) k g
  extends_keeps = record {
    rows = λ n r u is def. live_stays k.graph g sound more n r is;
    dead = λ n given is. more.rows n given ∙ is;
    built = more.beside.of_nodes.built;
    frozen = more.beside.of_nodes.frozen;
  }

  -- what experts list stays
  pub extends_lists : (s : State) → NodesGiven s k → (n : ℕ) (b : Body) → body_at s n ≡ Some b → ListsStay k g n b
  extends_lists s given n b is f first links stale e = more.beside.of_nodes.lists (node_in k.nodes n) (given n b is)

  pub extends_scopes : ScopesBuilt (graph k.graph) → ScopesBuilt (graph g)
  extends_scopes built n r b is scope = elim (more.outside n r is) [
    | inl was ↦ subst (λ (w : Option BuiltFor). IsSome w) (sym (more.beside.of_nodes.built b (sound.scopes n r b was scope))) (built n r b was scope)
    | inr out ↦ absurd (let none : None ≡ Some b = sym out ∙ scope in cc)
  ]

  pub extends_lives : (n : NodeId) (r : Row) → row_at (arena_of k) n ≡ Some r → (q : Row) × (row_at g.nodes n ≡ Some q)
  extends_lives n r is = (r, live_stays k.graph g sound more n r is)

  pub extends_built : (n : NodeId) (r : Row) → row_at (arena_of k) n ≡ Some r → (graph g).built n ≡ (graph k.graph).built n
  extends_built n r is = more.beside.of_nodes.built n (sound.given n (rw is refl))

-- ---- what is kept

-- live nodes were live before
abbrev pub WereLive : Arena → Arena → Type 0
WereLive old new = (n : NodeId) (r : Row) → row_at new n ≡ Some r → row_at old n ≡ Some r

module _ (F : Meanings) (k : Kept) (g : GraphView (Unit {0})) (bodies : List Bodies.Body) (Q : FnKind → FnRef → Type 0) (serve : BodiesServe F k bodies Q)
    (sound : arena.IsSoundArena (arena_of k)) (sound' : arena.IsSoundArena g.nodes) (more : Extends k.graph g) (were : WereLive (arena_of k) g.nodes)
    (m : Moment) (given : NodesGiven m.present k) where
  abbrev new : Kept
  new = record k { bodies = bodies; graph = g }

  module _ (held : Represents F m.present k) where
    declares_each : (n : ℕ) (b : Option Body) → body_at m.present n ≡ b → Declares (beside F m.present new) (node_in k.nodes n) b
    declares_each n None is = (ap (row_at g.nodes) past ∙ never_given g.nodes sound', refl)
      where
        past : node_in k.nodes n ≡ no_node
        past = node_past k.nodes n (omega (arith, body_past m.present n is, held.one_node_each))
    declares_each n (Some b) is =
        declares_still (Given (arena_of k).given) F m.present k held given m.present k.nodes bodies Q serve g (extends_keeps k g sound more) (λ t low. refl) n b is
        (λ e r row. live_stays k.graph g sound more (node_in k.nodes n) r row) (λ base span e alike. still_counts k g m.present base span more.time alike)
        (extends_lists k g sound more m.present given n b is)

    represents_on : Represents F m.present new
    represents_on = record {
      room = held.room;
      clock = more.time ∙ held.clock;
      one_node_each = held.one_node_each;
      declares = λ n. declares_each n (body_at m.present n) refl;
      targets = held.targets;
      apart = held.apart;
      built = λ n left body is.
          built_still (Given (arena_of k).given) F m.present k held given m.present k.nodes bodies Q serve g (extends_keeps k g sound more) (λ t low. refl)
          n left body is (bind_within n left body is);
      refers = held.refers;
      grabs = held.grabs;
      today = record {
        plain = held.today.plain;
        aged = λ n b is. own_nodes_of_on (graph k.graph) (graph g) (IsWithin k.nodes n) (IsWithin k.nodes n) (IsPartWithin k.nodes n) (IsPartWithin k.nodes n)
            (λ q h. h) (λ q h. h) (extends_keeps k g sound more).rows
            (λ q r kid f row def. live_stays k.graph g sound more q r row) (node_in k.nodes n) b (held.today.aged n b is);
        freezes = λ n r kid f row def. held.today.freezes n r kid f (were n r row) def;
      };
    }
      where
        bind_within : (n : ℕ) (left body : Formula) → bind_at m.present n ≡ Some (left, body) → n < length m.present.entries
        bind_within n left body is = let b = bind_body m.present n left body is in body_within m.present n (Computed (Bind left body) b.0) b.1

  -- what was matched is so still
  pub stands_on : MatchesMoment F k m → MatchesMoment F new m
  stands_on h = record {
    names = h.names;
    accepted = h.accepted;
    broken = h.broken;
    represents = λ whole. represents_on (h.represents whole);
    watches =
        watches_on m.present m.present k new more.beside.observers refl refl refl refl (λ n b is. refl) given (λ n b is. (b, is)) (λ t own. own) h.watches;
    settled = λ whole. settled_on F m.settled m.present m.present k new
        (leaves_beside k new (extends_beside k.graph g more) more.given (λ n r kid f given row def. were n r row))
        (leaves_marks m.present m.present k new (λ n. refl) more.beside.of_nodes.marks) (record {
          formulas = λ owner path f is. is;
          bodies = λ n b has is. is;
          targets = λ n e is. (e, is, refl);
          names = λ n e is. refl;
          rows = (extends_keeps k g sound more).rows;
          freezes = λ n r kid f is def. live_stays k.graph g sound more n r is;
          lives = extends_lives k g sound more;
          built = extends_built k g sound more;
        }) (λ n b v was. was) (extends_scopes k g sound more) (λ x among is. among) (h.settled whole);
  }
