-- What a graph has to do with the state of a script.
use Rattle.std.specs.Prelude.{◌≡◌, ◌+◌, ℕ, pos, true, List, [], ◌∷◌, map, take, length, Option, None, Some, option_map, slice_get}
use Rattle.inc_value.specs.declared.node.NodeId.{NodeId}
use Rattle.inc_value.specs.declared.node.ObsId.{ObsId}
use Rattle.inc_terms.specs.Depend.{none_died}
use Rattle.inc_terms.specs.Graph.{Graph}
use Rattle.inc_terms.specs.Rebuilding.{outcome_of}
use Rattle.inc_terms.specs.Term.{Functions}
use Rattle.graph.specs.Standing.{GraphView, graph}
use Rattle.observers.specs.Observers.{node_at}
use Rattle.observers.specs.declared.observer.Observer.{Observer as Looking}
use Rattle.observers.specs.declared.observer.Watch.{Watch as GraphWatch}
use Rattle.observers.specs.declared.observer.Watch.TheVariants as watch
use Rattle.node_arena.specs.RightSideLaws.{meaning}
use Rattle.script_functions.specs.Bodies as Bodies
use Rattle.script_functions.specs.Keeping.{makers, side_in}
use Rattle.script_model.specs.Check.{Names, names_of, is_among, target_of_body}
use Rattle.script_model.specs.Formula.{Body, Entry, Formula, State, Observer, Watch, Unwatched, Fresh, Told, Meanings, bind_at, body_at, built_at, entry_at, places_of}
use Rattle.script_model.specs.Values.{Outcome, to_engine, from_engine}
use Rattle.script_graph.specs.Kept.{Kept, node_in}
use Rattle.script_graph.specs.Today.{IsDeclaredTarget, RefersTo, IsTodaysScript}
use Rattle.transfer.specs.Both.{Both, graph_outcome}
use Rattle.transfer.specs.Keeping.{GrabsForms, NodesApart}
use Rattle.transfer.specs.Shows.{Declares}

-- what a graph's functions give, by those of the script and the bodies that are kept
abbrev pub graph_functions : Meanings → List Bodies.Body → Functions
graph_functions F bodies = meaning (λ f values. to_engine (F.value f (map from_engine values))) (side_in (makers bodies))

-- a state of a script beside a graph over these bodies, with the node of each declaration
abbrev pub besides : Meanings → State → List NodeId → List Bodies.Body → Graph → Both
besides F s nodes bodies G = record {
  meanings = F;
  state = s;
  functions = graph_functions F bodies;
  graph = G;
  nodes = node_in nodes;
  died = none_died;
}

-- a state of a script beside the graph that is kept
abbrev pub beside : Meanings → State → Kept → Both
beside F s k = besides F s k.nodes k.bodies (graph k.graph)

-- ---- declarations

-- what each bind at the top is built for is what the graph has it built for
abbrev pub BuiltAlike : State → Kept → Type 0
BuiltAlike s k =
    (n : ℕ) (left body : Formula) → bind_at s n ≡ Some (left, body)
    → outcome_of ((graph k.graph).built (node_in k.nodes n)) ≡ option_map (graph_outcome (node_in k.nodes)) (built_at s n)

-- what a bind was built for refers to what is declared
abbrev pub BuiltRefers : State → Type 0
BuiltRefers s = (n : ℕ) (o : Outcome) → built_at s n ≡ Some o → RefersTo (IsDeclaredTarget s) o

-- the graph holds the declarations, at the script's time: each has its node, which shows what is declared, a live grab's is its bind's right side; two that
-- are no other names have two nodes; what binds are built for is what the state says; and live grabs are of binds whose body is no name
pub record Represents (F : Meanings) (s : State) (k : Kept) : Type 0 where
  pub room : k.room + places_of s ≡ 1048575
  pub clock : (beside F s k).graph.now ≡ pos s.now
  pub one_node_each : length k.nodes ≡ length s.entries
  pub declares : (n : ℕ) → Declares (beside F s k) (node_in k.nodes n) (body_at s n)
  pub targets : (n : ℕ) (e : Entry) → entry_at s n ≡ Some e → e.target ≡ target_of_body n e.body
  pub apart : NodesApart s (node_in k.nodes)
  pub built : BuiltAlike s k
  pub refers : BuiltRefers s
  pub grabs : GrabsForms s
  pub today : IsTodaysScript s k

-- ---- observers

-- those that are there
abbrev pub there_in : {A : Type 0} → List (Option A) → List A
there_in [] = []
there_in (None ∷ xs) = there_in xs
there_in (Some x ∷ xs) = x ∷ there_in xs

module _ {A : Type 0} where
  -- the node of an observer in use that was there when a stabilize was accepted last
  abbrev pub rooted_at : GraphView A → ObsId → Option NodeId
  rooted_at g o = node_at (take g.rooted g.observers) o

-- how the graph has an observer watched that the script has watched so
abbrev pub graph_watch : (ℕ → NodeId) → Watch → GraphWatch
graph_watch nodes Unwatched = watch.Off
graph_watch nodes Fresh = watch.Fresh
graph_watch nodes (Told p) = watch.Since (graph_outcome nodes p)

-- an observer of the script as the graph has it: it looks at its target's node, shows the same, and is watched as it is
abbrev pub graph_observer : (ℕ → NodeId) → Observer → Looking
graph_observer nodes x = record {
  node = nodes x.target;
  in_use = true;
  shown = option_map (graph_outcome nodes) x.shown;
  watch = graph_watch nodes x.watch;
}

-- an observer of the script is one of the graph; what it shows, and what was told of it last, refers to what is declared
pub record IsObserver (s : State) (k : Kept) (o : ObsId) (x : Observer) : Type 0 where
  pub is : slice_get k.graph.observers o.0 ≡ Some (graph_observer (node_in k.nodes) x)
  pub target : (b : Body) × (body_at s x.target ≡ Some b)
  pub refers : (p : Outcome) → x.shown ≡ Some p → RefersTo (IsDeclaredTarget s) p
  pub told : (p : Outcome) → x.watch ≡ Told p → RefersTo (IsDeclaredTarget s) p

-- the graph's observers in the order in which they were made, each with that of the script, if it wasn't ended; a name in use is that of one of them
pub record Watches (s : State) (k : Kept) : Type 0 where
  pub made : List (Option Observer)
  pub one_each : length made ≡ length k.graph.observers
  pub in_order : s.observers ≡ there_in made
  pub ended : (o : ObsId) → slice_get made o.0 ≡ Some None → node_at k.graph.observers o ≡ None
  pub observing : (o : ObsId) (x : Observer) → slice_get made o.0 ≡ Some (Some x) → IsObserver s k o x
  pub named : (i : ℕ) (o : ObsId) (name : List ℕ) → slice_get k.observers i ≡ Some o → slice_get k.names.observers i ≡ Some name
      → (x : Observer) × (slice_get made o.0 ≡ Some (Some x)) × (x.name ≡ name)
  pub apart : (o p : ObsId) (x y : Observer) → slice_get made o.0 ≡ Some (Some x) → slice_get made p.0 ≡ Some (Some y) → x.name ≡ y.name → o ≡ p

-- ---- names

-- the names are those of the state, the observers' in any order
pub record AreNames (names : Names) (s : State) : Type 0 where
  pub declared : names.declared ≡ (names_of s).declared
  pub now : names.now ≡ s.now
  pub in_use : (name : List ℕ) → is_among names.observers name ≡ is_among (names_of s).observers name
