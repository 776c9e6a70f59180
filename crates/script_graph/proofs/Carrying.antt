-- What observers show, and what is kept of the last accepted stabilize, after a call that keeps both.
use Rattle.std.proofs.Common.{◌≡◌, inl, ℕ, ◌≤◌, List, length, Some, IsSome, ap, sym, subst, ◌∙◌, arith, slice_get}
use Rattle.inc_value.specs.Choice.{Among}
use Rattle.inc_value.specs.declared.function.FnRef.{FnRef}
use Rattle.inc_value.specs.declared.node.NodeId.{NodeId}
use Rattle.inc_value.specs.declared.node.ObsId.{ObsId}
use Rattle.inc_value.specs.declared.node.Point.{Point}
use Rattle.inc_terms.specs.Graph.{Graph, Row, Freeze}
use Rattle.inc_terms.specs.Need.{IsUnfrozen}
use Rattle.inc_terms.specs.Within.{Given}
use Rattle.graph.specs.Effects.{KeepsBesideGiven}
use Rattle.graph.specs.Standing.{graph, called_last, cutoff_of, is_marked, times_linked}
use Rattle.observers.specs.Observers.{node_at}
use Rattle.observers.specs.declared.observer.Observer.{Observer as Looking}
use Rattle.map_nodes.specs.declared.cutoff.Cutoff.TheVariants.{Equal}
use Rattle.script_model.specs.Formula.{State, Body, Meanings, Observer, body_at}
use Rattle.script_model.specs.Need.{Visit, stamp_of_body}
use Rattle.script_graph.specs.Kept.{Kept, arena_of, node_in}
use Rattle.script_graph.specs.Represents.{besides, rooted_at, IsObserver, Watches}
use Rattle.script_graph.specs.Today.{IsDeclaredTarget}
use Rattle.script_graph.specs.Settled.{ScopesBuilt, ShownWereRoots, StampsGrow, StillDeclares, WasRun, Settled, frozen_root}
use Rattle.transfer.specs.Items.{GrabsStay}
use Rattle.script_graph.proofs.Frozen.{root_is_unfrozen, unfrozen_is_root}
use Rattle.script_graph.proofs.Held.{rooted_still, link_less, held_less}
use Rattle.script_graph.proofs.Marks.{MarksGrow, marks_on, stamps_on}
use Rattle.script_graph.proofs.Referring.{observer_agrees, outcome_refers_more}

-- ---- observers

module _ (s s' : State) (k k' : Kept) (looking : k'.graph.observers ≡ k.graph.observers) (observers : k'.observers ≡ k.observers)
    (names : k'.names.observers ≡ k.names.observers) (broken : k'.broken ≡ k.broken) (same : s'.observers ≡ s.observers)
    (nodes : (n : ℕ) (b : Body) → body_at s n ≡ Some b → node_in k'.nodes n ≡ node_in k.nodes n)
    (given : (n : ℕ) (b : Body) → body_at s n ≡ Some b → Given (arena_of k).given (node_in k.nodes n))
    (stays : (n : ℕ) (b : Body) → body_at s n ≡ Some b → (c : Body) × (body_at s' n ≡ Some c))
    (targets : (t : ℕ) → IsDeclaredTarget s t → IsDeclaredTarget s' t) where
  looks_on : (o : ObsId) → node_at k'.graph.observers o ≡ node_at k.graph.observers o
  looks_on o = ap (λ (os : List Looking). node_at os o) looking

  observer_on : (o : ObsId) (x : Observer) → IsObserver s k o x → IsObserver s' k' o x
  observer_on o x h = record {
    is = ap (λ (os : List Looking). slice_get os o.0) looking ∙ (h.is ∙ ap (λ (y : Looking). Some y)
        (observer_agrees (IsDeclaredTarget s) (node_in k.nodes) (node_in k'.nodes) (λ t own. nodes t own.0 own.1) x
        (nodes x.target h.target.0 h.target.1) h.refers h.told));
    target = stays x.target h.target.0 h.target.1;
    refers = λ p is. outcome_refers_more (IsDeclaredTarget s) (IsDeclaredTarget s') targets p (h.refers p is);
    told = λ p is. outcome_refers_more (IsDeclaredTarget s) (IsDeclaredTarget s') targets p (h.told p is);
  }

  -- the observers are as they were
  pub watches_on : Watches s k → Watches s' k'
  watches_on w = record {
    made = w.made;
    one_each = w.one_each ∙ sym (ap (λ (os : List Looking). length os) looking);
    in_order = same ∙ w.in_order;
    ended = λ o at. looks_on o ∙ w.ended o at;
    observing = λ o x at. observer_on o x (w.observing o x at);
    named = λ i o name at is. w.named i o name (subst (λ (os : List ObsId). slice_get os i ≡ Some o) observers at)
        (subst (λ (ns : List (List ℕ)). slice_get ns i ≡ Some name) names is);
    apart = w.apart;
  }

-- ---- the last accepted stabilize

-- what was declared is so still, over one call after another
pub still_then : (before s s' : State) (nodes : List NodeId) (left : Graph) (k k' : Kept) → StillDeclares before nodes left s k
    → StillDeclares s k.nodes (graph k.graph) s' k' → StillDeclares before nodes left s' k'
still_then before s s' nodes left k k' first next = record {
  formulas = λ owner path f is. next.formulas owner path f (first.formulas owner path f is);
  bodies = λ n b has is. next.bodies n b has (first.bodies n b has is);
  targets = λ n e is.
      let d = first.targets n e is in
      let c = next.targets n d.0 d.1 in (c.0, c.1, c.2 ∙ d.2);
  names = λ n e is. let d = first.targets n e is in next.names n d.0 d.1 ∙ first.names n e is;
  rows = λ n r u is def. next.rows n r u (first.rows n r u is def) def;
  freezes = λ n r kid f is def. next.freezes n r kid f (first.freezes n r kid f is def) def;
  lives = λ n r is. let q = first.lives n r is in next.lives n q.0 q.1;
  built = λ b r is. let q = first.lives b r is in next.built b q.0 q.1 ∙ first.built b r is;
}

-- what a call leaves beside the graph: no observer and no freeze comes to those that were there at the last accepted stabilize, links are fewer, last
-- calls are as they were, and no further node has a cutoff other than Equal
pub record LeavesBeside (k k' : Kept) : Type 0 where
  pub rooted : (o : ObsId) (n : NodeId) → rooted_at k'.graph o ≡ Some n → rooted_at k.graph o ≡ Some n
  pub since : k'.graph.since ≡ k.graph.since
  pub unfrozen : (n : NodeId) → Given (arena_of k).given n → IsUnfrozen (graph k'.graph) n → IsUnfrozen (graph k.graph) n
  pub fewer : (p q : Point) → times_linked k'.graph p q ≤ times_linked k.graph p q
  pub given : (arena_of k).given ≤ (arena_of k').given
  pub last : (n : NodeId) → Given (arena_of k).given n → called_last k'.graph n ≡ called_last k.graph n
  pub no_more_cutoffs : (n : NodeId) → cutoff_of k.graph n ≡ Equal → cutoff_of k'.graph n ≡ Equal

-- freezes that are live were so before
abbrev pub FreezesWere : (NodeId → Type 0) → Graph → Graph → Type 0
FreezesWere Of G G' = (n : NodeId) (r : Row) (kid : NodeId) (f : FnRef) → Of n → G'.row n ≡ Some r → r.def ≡ Freeze kid f → G.row n ≡ Some r

-- those that keep no value kept none
pub unfrozen_were : (Of : NodeId → Type 0) (G G' : Graph) → FreezesWere Of G G' → ((n : NodeId) → Of n → G'.frozen n ≡ G.frozen n)
    → (n : NodeId) → Of n → IsUnfrozen G' n → IsUnfrozen G n
unfrozen_were Of G G' were same n of h = record {
  row = h.row;
  kid = h.kid;
  predicate = h.predicate;
  is_row = were n h.row h.kid h.predicate of h.is_row h.is_freeze;
  is_freeze = h.is_freeze;
  keeps_none = sym (same n of) ∙ h.keeps_none;
}

-- a call that keeps what is beside the graph
pub leaves_beside : (k k' : Kept) → KeepsBesideGiven k.graph k'.graph → (arena_of k).given ≤ (arena_of k').given
    → FreezesWere (Given (arena_of k).given) (graph k.graph) (graph k'.graph) → LeavesBeside k k'
leaves_beside k k' keeps given freezes = record {
  rooted = λ o n at. rooted_still k'.graph k.graph o (sym keeps.top.rooted) (ap (λ (os : List Looking). node_at os o) (sym keeps.observers)) n at;
  since = keeps.top.since;
  unfrozen = unfrozen_were (Given (arena_of k).given) (graph k.graph) (graph k'.graph) freezes keeps.of_nodes.frozen;
  fewer = λ p q. let same = keeps.need.links p q in omega (arith, same);
  given = given;
  last = keeps.of_nodes.last;
  no_more_cutoffs = keeps.no_more_cutoffs;
}

-- what a call leaves of how often declarations were asked to run anew: no more seldom, and what is stale was so, or was made so now
pub record LeavesMarks (s s' : State) (k k' : Kept) : Type 0 where
  pub stamps : StampsGrow s s'
  pub marks : MarksGrow s s' k k'

-- a call that keeps what is declared, and which nodes are stale
pub leaves_marks : (s s' : State) (k k' : Kept) → ((n : ℕ) → body_at s' n ≡ body_at s n)
    → ((n : NodeId) → Given (arena_of k).given n → is_marked k'.graph n ≡ is_marked k.graph n) → LeavesMarks s s' k k'
leaves_marks s s' k k' same marks = record {
  stamps = λ n. let e = ap stamp_of_body (same n) in omega (arith, e);
  marks = λ n given marked. inl (sym (marks n given) ∙ marked);
}

-- what is kept of the last accepted stabilize is so still, also where observers that show something look at what they looked at
pub settled_so : (F : Meanings) (before s s' : State) (k k' : Kept) → LeavesBeside k k' → LeavesMarks s s' k k'
    → StillDeclares s k.nodes (graph k.graph) s' k' → GrabsStay s s' → (ScopesBuilt (graph k.graph) → ScopesBuilt (graph k'.graph))
    → (ShownWereRoots before s → ShownWereRoots before s') → Settled F before s k → Settled F before s' k'
settled_so F before s s' k k' leaves asked still live built shown st = record {
  nodes = st.nodes;
  bodies = st.bodies;
  left = st.left;
  one_node_each = st.one_node_each;
  fits = st.fits;
  scopes = st.scopes;
  still = still_then before s s' st.nodes st.left k k' st.still still;
  built = built st.built;
  grabs = λ n b v was. live n b v (st.grabs n b v was);
  links = λ p q held link. st.links p q (held_less k.graph k'.graph leaves.rooted frozen_was leaves.fewer p held)
      (link_less k.graph k'.graph leaves.rooted frozen_was leaves.fewer p q link);
  stamps = stamps_on before s s' st.stamps asked.stamps;
  marks = marks_on F before s s' k k' st asked.stamps asked.marks;
  freezes = λ f n root. st.freezes f n (frozen_was f n root);
  past = let past = st.past in let given = leaves.given in let since = leaves.since in omega (arith, past, given, since);
  ran = λ v is need. ran_on v (st.ran v is need);
  watched = shown st.watched;
  today = record { plain = st.today.plain; targets = st.today.targets; equal = λ n. leaves.no_more_cutoffs n (st.today.equal n) };
}
  where
    frozen_was : (f n : NodeId) → frozen_root k'.graph f ≡ Some n → frozen_root k.graph f ≡ Some n
    frozen_was f n root =
        let is = root_is_unfrozen k'.graph f n root in
        let low = is.1 in
        let past = st.past in
        let since = leaves.since in
        unfrozen_is_root k.graph f (leaves.unfrozen f (omega (arith, low, past, since)) is.0) (omega (arith, low, since)) ∙ ap (λ (q : NodeId). Some q) is.2

    ran_on : (v : Visit) → WasRun (besides F before st.nodes st.bodies st.left) k v → WasRun (besides F before st.nodes st.bodies st.left) k' v
    ran_on v w = record {
      node = w.node;
      is_node = w.is_node;
      given = let given = w.given in let more = leaves.given in omega (arith, given, more);
      call = w.call;
      is_last = leaves.last w.node w.given ∙ w.is_last;
      values_are = w.values_are;
    }

-- so it is where these observers are as they were
pub settled_on : (F : Meanings) (before s s' : State) (k k' : Kept) → LeavesBeside k k' → LeavesMarks s s' k k'
    → StillDeclares s k.nodes (graph k.graph) s' k' → GrabsStay s s' → (ScopesBuilt (graph k.graph) → ScopesBuilt (graph k'.graph))
    → ((x : Observer) → Among x s'.observers → IsSome x.shown → Among x s.observers) → Settled F before s k → Settled F before s' k'
settled_on F before s s' k k' leaves asked still live built shown =
    settled_so F before s s' k k' leaves asked still live built (λ were x among is. were x (shown x among is) is)
