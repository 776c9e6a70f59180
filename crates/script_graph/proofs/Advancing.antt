-- What is kept of a script after its clock was moved on, or wasn't for want of memory.
use Rattle.std.proofs.Common.{◌≡◌, ℕ, pos, ◌<◌, ◌≤◌, List, length, Option, None, Some, IfSome, IsSome, refl, ap, sym, subst, ◌∙◌, arith}
use Rattle.std.proofs.lemmas.Int.{ints}
use Rattle.inc_value.specs.declared.function.FnRef.{FnRef}
use Rattle.inc_value.specs.declared.node.NodeId.{NodeId}
use Rattle.inc_value.specs.declared.node.ObsId.{ObsId}
use Rattle.inc_value.specs.declared.ty.Ty.{Ty}
use Rattle.inc_value.specs.declared.value.Value.{Value as GraphValue}
use Rattle.inc_terms.specs.Clock.{IsTimed}
use Rattle.inc_terms.specs.Graph.{Def, Row, Built as BuiltFor}
use Rattle.inc_terms.specs.Within.{Given}
use Rattle.inc_terms.proofs.Unfolding.{AnyFunction}
use Rattle.graph.specs.Clock.{MovesTo}
use Rattle.graph.specs.Effects.{KeepsAll}
use Rattle.graph.specs.Standing.{GraphView, graph}
use Rattle.observers.specs.Observers.{node_at}
use Rattle.observers.specs.declared.observer.Observer.{Observer as Looking}
use Rattle.node_arena.specs.Arena.{Arena, row_at}
use Rattle.node_arena.specs.Sound as arena
use Rattle.node_arena.specs.Typing.{Fits}
use Rattle.script_functions.specs.Bodies as Bodies
use Rattle.script_model.specs.Check.{Advance, Declared, Names}
use Rattle.script_model.specs.Formula.{State, Body, Formula, Meanings, meanings_of, bind_at, body_at, Bind, Computed, Every}
use Rattle.script_model.specs.Step.{Moment, moved}
use Rattle.script_graph.specs.Kept.{Kept, arena_of, node_in, without_functions}
use Rattle.script_graph.specs.Represents.{AreNames, beside, Represents}
use Rattle.script_graph.specs.Settled.{ScopesBuilt}
use Rattle.script_graph.specs.Sound.{AreFew, HasLiveNode, HasNode, IsSoundSession, weight_at}
use Rattle.script_graph.specs.State.{MatchesMoment}
use Rattle.script_graph.specs.Today.{IsWithin, IsPartWithin}
use Rattle.script_graph.proofs.Carrying.{leaves_beside, leaves_marks, settled_on, watches_on}
use Rattle.script_graph.proofs.Declared.{nodes_given}
use Rattle.script_graph.proofs.Extending.{CountsSpans, KeepsGraph, NodesGiven, beside_without, body_within, built_still, counts_at, declares_still, extends_without, keeps_extends, same_serve, stands_on}
use Rattle.script_graph.proofs.Few.{sum_less}
use Rattle.script_graph.proofs.Owning.{freeze_on, own_nodes_of_on}
use Rattle.script_graph.proofs.Sounding.{bind_on, expert_on, sound_on, variable_on}
use Rattle.transfer.specs.Shows.{Declares}
use Rattle.transfer.proofs.Typed.{bind_body}

-- what is kept at another time, over a graph that has it
abbrev pub at_time : Kept → ℕ → GraphView (Unit {0}) → Kept
at_time k to g = record k { names = record k.names { now = to }; graph = g }

-- ---- that it fits together

module _ (k : Kept) (h : IsSoundSession k) (to : ℕ) (g : GraphView (Unit {0})) (moves : MovesTo k.graph g (pos to)) where
  live_then : (n : ℕ) (d : Declared) → HasLiveNode (arena_of k) k.nodes n d → HasLiveNode g.nodes k.nodes n d
  live_then n d node = record {
    row = node.row;
    is_row = moves.rows (node_in k.nodes n) ∙ node.is_row;
    typed = node.typed;
    outside = node.outside;
    variable = λ kind. variable_on (arena_of k) g.nodes (node_in k.nodes n) (λ r is. moves.rows (node_in k.nodes n) ∙ is) (node.variable kind);
    bind = λ kind. bind_on (arena_of k) g.nodes (node_in k.nodes n) (λ r is. moves.rows (node_in k.nodes n) ∙ is) (node.bind kind);
    expert = λ element kind.
        expert_on (arena_of k) g.nodes (node_in k.nodes n) element (λ r is. moves.rows (node_in k.nodes n) ∙ is) (node.expert element kind);
  }

  fits_then : (n : NodeId) (t : Ty) → Given (arena_of k).given n × Fits (arena_of k) n t → Given g.nodes.given n × Fits g.nodes n t
  fits_then n t (given, fits) = (
    (let same = moves.given in omega (arith, given, same)),
    subst (λ (o : Option Row). IfSome o (λ (q : Row). q.ty ≡ t)) (sym (moves.rows n)) fits,
  )

  node_then : (n : ℕ) (d : Declared) → HasNode (arena_of k) k.names.declared k.nodes n d → HasNode g.nodes k.names.declared k.nodes n d
  node_then n d node = record {
    target = node.target;
    expert = node.expert;
    live = λ itself other. live_then n d (node.live itself other);
    grab = λ itself grab. fits_then (node_in k.nodes n) d.ty (node.grab itself grab);
  }

  few_then : AreFew k.bodies g.nodes k.room
  few_then = record {
    tops = h.few.tops;
    given = λ n among. let low = h.few.given n among in let same = moves.given in omega (arith, low, same);
    all = λ n r is scope. h.few.all n r (sym (moves.rows n) ∙ is) scope;
    weight =
        let less = sum_less (weight_at k.bodies g.nodes) (weight_at k.bodies (arena_of k)) h.few.tops (λ n among. weight_then n) in
        let most = h.few.weight in omega (arith, less, most);
  }
    where
      weight_then : (n : NodeId) → weight_at k.bodies g.nodes n ≤ weight_at k.bodies (arena_of k) n
      weight_then n =
          let same : weight_at k.bodies g.nodes n ≡ weight_at k.bodies (arena_of k) n = rw (moves.rows n, weight_at) refl in omega (arith, same)

  pub time_sound : IsSoundSession (at_time k to g)
  time_sound = record {
    one_node_each = h.one_node_each;
    has_nodes = λ n d is. node_then n d (h.has_nodes n d is);
    few = few_then;
    one_observer_each = h.one_observer_each;
    looking = λ o among. subst (λ (os : List Looking). IsSome (node_at os o)) (sym moves.beside.observers) (h.looking o among);
    apart = h.apart;
    unbroken = λ whole. moves.beside.top.refused ∙ h.unbroken whole;
    clock = moves.time;
  }

-- ---- that it is matched

module _ (F : Meanings) (k : Kept) (to : ℕ) (g : GraphView (Unit {0})) (sound : arena.IsSoundArena (arena_of k)) (sound' : arena.IsSoundArena g.nodes)
    (moves : MovesTo k.graph g (pos to)) (m : Moment) (given : NodesGiven m.present k) where
  abbrev s : State
  s = m.present

  abbrev then : State
  then = record s { now = to }

  abbrev new : Kept
  new = at_time k to g

  abbrev Of : NodeId → Type 0
  Of n = Given (arena_of k).given n

  keeps : KeepsGraph Of k g
  keeps = record {
    rows = λ n r u is def. moves.rows n ∙ is;
    dead = λ n low is. moves.rows n ∙ is;
    built = moves.beside.of_nodes.built;
    frozen = moves.beside.of_nodes.frozen;
  }

  scopes_then : ScopesBuilt (graph k.graph) → ScopesBuilt (graph g)
  scopes_then built n r b is scope =
      let was = sym (moves.rows n) ∙ is in
      subst (λ (w : Option BuiltFor). IsSome w) (sym (moves.beside.of_nodes.built b (sound.scopes n r b was scope))) (built n r b was scope)

  module _ (held : Represents F s k) where
    -- the clock has come to the base of what counts spans, and counts them as the script does
    counts_then : (n : ℕ) (base span : ℕ) → body_at s n ≡ Some (Every base span) → CountsSpans (graph g) then base span
    counts_then n base span is =
        let d = rw is at (held.declares n) in
        let timed = subst (λ (x : Def). IsTimed g.nodes.time x) d.0.3 (sound'.timed (node_in k.nodes n) d.0.0 (moves.rows (node_in k.nodes n) ∙ d.0.1)) in
        let reached = timed.1 in
        let time = moves.time in
        counts_at g.nodes.time to base span time (omega (arith, ints, reached, time))

    declares_then : (n : ℕ) (b : Option Body) → body_at s n ≡ b → Declares (beside F then new) (node_in k.nodes n) b
    declares_then n None is = let was = rw is at (held.declares n) in (moves.rows (node_in k.nodes n) ∙ was.0, refl)
    declares_then n (Some b) is =
        declares_still Of F s k held given then k.nodes k.bodies AnyFunction (same_serve F k) g keeps (λ t low. refl) n b is
        (λ alone r row. moves.rows (node_in k.nodes n) ∙ row)
        (λ base span e alike. counts_then n base span (is ∙ ap (λ (c : Body). Some c) e))
        (λ f first links stale e. moves.beside.of_nodes.lists (node_in k.nodes n) (given n b is))

    bind_within : (n : ℕ) (left body : Formula) → bind_at s n ≡ Some (left, body) → n < length s.entries
    bind_within n left body is = let b = bind_body s n left body is in body_within s n (Computed (Bind left body) b.0) b.1

    represents_then : Represents F then new
    represents_then = record {
      room = held.room;
      clock = moves.time;
      one_node_each = held.one_node_each;
      declares = λ n. declares_then n (body_at s n) refl;
      targets = held.targets;
      apart = held.apart;
      built = λ n left body is.
          built_still Of F s k held given then k.nodes k.bodies AnyFunction (same_serve F k) g keeps (λ t low. refl) n left body is (bind_within n left body is);
      refers = held.refers;
      grabs = held.grabs;
      today = record {
        plain = held.today.plain;
        aged = λ n b is.
            own_nodes_of_on (graph k.graph) (graph g) (IsWithin k.nodes n) (IsWithin k.nodes n) (IsPartWithin k.nodes n) (IsPartWithin k.nodes n)
            (λ q h. h) (λ q h. h) keeps.rows (λ q r kid f row def. moves.rows q ∙ row) (node_in k.nodes n) b (held.today.aged n b is);
        freezes = λ n r kid f row def. freeze_on s then k.nodes n (λ j b has is. is) (held.today.freezes n r kid f (sym (moves.rows n) ∙ row) def);
      };
    }

  names_then : AreNames k.names s → AreNames new.names then
  names_then h = record { declared = h.declared; now = refl; in_use = h.in_use }

  pub advancing_stands : MatchesMoment F k m → MatchesMoment F new (moved m (Advance to))
  advancing_stands h = record {
    names = names_then h.names;
    accepted = h.accepted;
    broken = h.broken;
    represents = λ whole. represents_then (h.represents whole);
    watches = watches_on s then k new moves.beside.observers refl refl refl refl (λ n b is. refl) given (λ n b is. (b, is)) (λ t own. own) h.watches;
    settled = λ whole. settled_on F m.settled s then k new
        (leaves_beside k new moves.beside (let same = moves.given in omega (arith, same)) (λ n r kid f given row def. sym (moves.rows n) ∙ row))
        (leaves_marks s then k new (λ n. refl) moves.beside.of_nodes.marks) (record {
          formulas = λ owner path f is. is;
          bodies = λ n b has is. is;
          targets = λ n e is. (e, is, refl);
          names = λ n e is. refl;
          rows = keeps.rows;
          freezes = λ n r kid f is def. moves.rows n ∙ is;
          lives = λ n r is. (r, moves.rows n ∙ is);
          built = λ n r is. moves.beside.of_nodes.built n (sound.given n (rw is refl));
        }) (λ n b v was. was) scopes_then (λ x among is. among) (h.settled whole);
  }

-- ---- over a graph with its functions

module _ {F : Type 0} (first now : GraphView F) (names : Names) (nodes : List NodeId) (observers : List ObsId) (room accepted : ℕ) (broken : Option ℕ)
    (bodies : List Bodies.Body) where
  abbrev before : Kept
  before = record {
    names = names;
    nodes = nodes;
    observers = observers;
    room = room;
    accepted = accepted;
    broken = broken;
    bodies = bodies;
    graph = without_functions first;
  }

  module _ (h : IsSoundSession before) (sound : arena.IsSoundArena first.nodes) (sound' : arena.IsSoundArena now.nodes) where
    -- where the time was moved on
    module _ (to : ℕ) (moves : MovesTo first now (pos to)) (names' : Names) (names_are : names' ≡ record names { now = to }) where
      moves_without : MovesTo (without_functions first) (without_functions now) (pos to)
      moves_without = record {
        beside = beside_without (Given first.nodes.given) first now moves.beside;
        time = moves.time;
        rows = moves.rows;
        given = moves.given;
        live = moves.live;
      }

      pub advanced_sound : IsSoundSession (record before { names = names'; graph = without_functions now })
      advanced_sound = rw names_are (time_sound before h to (without_functions now) moves_without)

      pub advanced_stands : (named : List ℕ → Option FnRef) (value : FnRef → List GraphValue → GraphValue) (m : Moment)
          → MatchesMoment (meanings_of named value) before m
          → MatchesMoment (meanings_of named value) (record before { names = names'; graph = without_functions now }) (moved m (Advance to))
      advanced_stands named value m matches =
          rw names_are (advancing_stands (meanings_of named value) before to (without_functions now) sound sound' moves_without m
          (nodes_given before h sound m.present matches.names) matches)

    -- where it wasn't
    module _ (keeps : KeepsAll first now) where
      pub stayed_sound : IsSoundSession (record before { graph = without_functions now })
      stayed_sound = sound_on before h sound (without_functions now) (extends_without first now (keeps_extends first now keeps)) bodies
          (subst (λ (a : Arena). AreFew bodies a room) (sym keeps.nodes) h.few)

      pub stayed_stands : (named : List ℕ → Option FnRef) (value : FnRef → List GraphValue → GraphValue) (m : Moment)
          → MatchesMoment (meanings_of named value) before m → MatchesMoment (meanings_of named value) (record before { graph = without_functions now }) m
      stayed_stands named value m matches =
          stands_on (meanings_of named value) before (without_functions now) bodies AnyFunction (same_serve (meanings_of named value) before) sound sound'
          (extends_without first now (keeps_extends first now keeps))
          (λ n r row. ap (λ (a : Arena). row_at a n) (sym keeps.nodes) ∙ row) m (nodes_given before h sound m.present matches.names) matches
