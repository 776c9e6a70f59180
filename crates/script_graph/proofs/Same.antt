-- A state with other observers is represented by what has the same nodes.
use Rattle.std.proofs.Common.{◌≡◌, ◌+◌, ◌<◌, ℕ, List, length, Option, None, Some, refl, ap, sym, subst, ◌∙◌}
use Rattle.inc_value.specs.declared.node.NodeId.{NodeId}
use Rattle.graph.specs.Standing.{graph}
use Rattle.node_arena.specs.Arena.{Arena, row_at}
use Rattle.script_functions.specs.Bodies as Bodies
use Rattle.script_model.specs.Formula.{State, Body, Formula, Observer, Meanings, Computed, Bind, bind_at, body_at, places_of}
use Rattle.script_graph.specs.Kept.{Kept, arena_of, node_in}
use Rattle.script_graph.specs.Represents.{beside, besides, Represents}
use Rattle.script_graph.specs.Today.{FreezesAreDeclared, IsWithin, IsPartWithin, OwnNodesOf}
use Rattle.inc_terms.proofs.Unfolding.{AnyFunction}
use Rattle.script_graph.proofs.Extending.{KeepsGraph, body_within, built_still, declares_still, same_serve, still_counts}
use Rattle.script_graph.proofs.Owning.{freeze_on, own_nodes_of_on}
use Rattle.transfer.specs.Keeping.{AnyNode, NodesApart}
use Rattle.transfer.specs.Shows.{Declares}
use Rattle.transfer.proofs.Typed.{bind_body}

-- the state with other observers and another count of accepted stabilizes
abbrev pub observed_so : State → List Observer → ℕ → State
observed_so s observers accepted = record s { observers = observers; accepted = accepted }

-- what has the same room, nodes of names, bodies and graph represents it
module _ (F : Meanings) (s : State) (observers : List Observer) (accepted : ℕ) (k new : Kept) (room : new.room ≡ k.room) (nodes : new.nodes ≡ k.nodes)
    (bodies : new.bodies ≡ k.bodies) (arena : arena_of new ≡ arena_of k) (built : (n : NodeId) → (graph new.graph).built n ≡ (graph k.graph).built n)
    (frozen : (n : NodeId) → (graph new.graph).frozen n ≡ (graph k.graph).frozen n) (lists : (n : NodeId) → (graph new.graph).lists n ≡ (graph k.graph).lists n)
    (held : Represents F s k) where
  abbrev then : State
  then = observed_so s observers accepted

  keeps : KeepsGraph AnyNode k new.graph
  keeps = record {
    rows = λ n r u is def. ap (λ (a : Arena). row_at a n) arena ∙ is;
    dead = λ n given is. ap (λ (a : Arena). row_at a n) arena ∙ is;
    built = λ n given. built n;
    frozen = λ n given. frozen n;
  }

  node : (n : ℕ) → node_in new.nodes n ≡ node_in k.nodes n
  node n = ap (λ (ns : List NodeId). node_in ns n) nodes

  declares_each : (n : ℕ) (b : Option Body) → body_at s n ≡ b → Declares (beside F then new) (node_in new.nodes n) b
  declares_each n None is =
      let was = rw is at (held.declares n) in
      (ap (row_at (arena_of new)) (node n) ∙ (ap (λ (a : Arena). row_at a (node_in k.nodes n)) arena ∙ was.0), refl)
  declares_each n (Some b) is =
      subst (λ (bs : List Bodies.Body). Declares (besides F then new.nodes bs (graph new.graph)) (node_in new.nodes n) (Some b)) (sym bodies)
      (declares_still AnyNode F s k held (λ j c at. tt) then new.nodes k.bodies AnyFunction (same_serve F k) new.graph keeps (λ t low. node t) n b is
      (λ e r row. ap (λ (a : Arena). row_at a (node_in k.nodes n)) arena ∙ row)
      (λ base span e alike. still_counts k new.graph s base span (ap (λ (a : Arena). a.time) arena) alike)
      (λ f first links stale e. lists (node_in k.nodes n)))

  bind_within : (n : ℕ) (left body : Formula) → bind_at s n ≡ Some (left, body) → n < length s.entries
  bind_within n left body is = let b = bind_body s n left body is in body_within s n (Computed (Bind left body) b.0) b.1

  pub represents_so : Represents F then new
  represents_so = record {
    room = ap (λ (n : ℕ). n + places_of s) room ∙ held.room;
    clock = ap (λ (a : Arena). a.time) arena ∙ held.clock;
    one_node_each = ap length nodes ∙ held.one_node_each;
    declares = λ n. declares_each n (body_at s n) refl;
    targets = held.targets;
    apart = subst (λ (ns : List NodeId). NodesApart then (node_in ns)) (sym nodes) held.apart;
    built = λ n left body is.
        built_still AnyNode F s k held (λ j c at. tt) then new.nodes k.bodies AnyFunction (same_serve F k) new.graph keeps (λ t low. node t) n left body is
        (bind_within n left body is);
    refers = held.refers;
    grabs = held.grabs;
    today = record {
      plain = held.today.plain;
      aged = λ n b is.
          subst (λ (ns : List NodeId). OwnNodesOf (graph new.graph) (IsWithin ns n) (IsPartWithin ns n) (node_in ns n) b) (sym nodes)
          (own_nodes_of_on (graph k.graph) (graph new.graph) (IsWithin k.nodes n) (IsWithin k.nodes n) (IsPartWithin k.nodes n) (IsPartWithin k.nodes n)
          (λ q h. h) (λ q h. h) keeps.rows (λ q r kid f row def. ap (λ (a : Arena). row_at a q) arena ∙ row) (node_in k.nodes n) b (held.today.aged n b is));
      freezes = subst (λ (ns : List NodeId). FreezesAreDeclared (graph new.graph) then ns) (sym nodes)
          (λ n r kid f row def. freeze_on s then k.nodes n (λ j b has is. is)
          (held.today.freezes n r kid f (ap (λ (a : Arena). row_at a n) (sym arena) ∙ row) def));
    };
  }
