-- What every graph keeps.
use Rattle.std.specs.Prelude.{◌≡◌, ◌≤◌, ◌-◌, ◌^◌, true, List, None, Some, take, drop, length, IsSome}
use Rattle.inc_value.specs.declared.function.FnRef.{FnRef}
use Rattle.inc_value.specs.declared.node.NodeId.{NodeId}
use Rattle.inc_value.specs.declared.outcome.Outcome.{Outcome}
use Rattle.inc_value.specs.Choice.{Among}
use Rattle.inc_terms.specs.Graph.{Graph, Row, Bind, Built}
use Rattle.inc_terms.specs.Local.{Scoped}
use Rattle.inc_terms.specs.Within.{Given}
use Rattle.node_arena.specs.Arena.{Arena, row_at}
use Rattle.node_arena.specs.Graph.{AllCallFit}
use Rattle.node_arena.specs.Sound as arena
use Rattle.node_arena.specs.Typing.{Fits}
use Rattle.node_outcomes.specs.Meaning.{Meaning}
use Rattle.observers.specs.Observers.{in_use}
use Rattle.observers.specs.declared.observer.Observer.{Observer}
use Rattle.stabilize_round.specs.Invariant.{Rooted, ScopesRooted}
use Rattle.wiring.specs.Kept.{IsTop}
use Rattle.graph.specs.Standing.{GraphView, graph, listed_by, shown_of, rooted_nodes, AreRooted, IsUnbroken}

-- the root of a bind was given, and is of the type that the bind's function gives, or dead
abbrev pub RootsFit : Arena → Graph → Type 0
RootsFit a G =
    (b : NodeId) (r : Row) (left : NodeId) (f : FnRef) (captures : List NodeId) (w : Built) (root : NodeId) → row_at a b ≡ Some r
    → r.def ≡ Bind left f captures → G.built b ≡ Some w → w.root ≡ Some root → Given a.given root × Fits a root f.sig.gives

module _ {F : Type 0} where
  -- an unbroken graph: need begins at the observers that were there at the last stabilize, and their nodes show an outcome; all functions of its nodes are
  -- known, and list given nodes; observers look at given nodes, and where they show something, it is what is shown of their nodes
  pub record IsWhole (M : Meaning) (s : GraphView F) : Type 0 where
    pub roots : AreRooted s (rooted_nodes s)
    pub fit : AllCallFit M.known M.ids s.nodes
    pub given : (n : NodeId) → Among n (in_use s.observers) → Given s.nodes.given n
    pub shown : (n : NodeId) → Among n (rooted_nodes s) → IsSome (shown_of s n)
    pub seen : (o : Observer) (x : Outcome) → Among o s.observers → o.in_use ≡ true → o.shown ≡ Some x → shown_of s o.node ≡ Some x

  -- what every graph keeps, also one that is broken: a node in a scope stands in that of a live bind that is built, and has a root; and each bind that is
  -- built for a value has a root that reads back as its function's term at it and is of the type that this gives, or dead; one that is built for Invalid
  -- has none; experts list given nodes; freezes and experts stand in no scope; observers in use that were there when a stabilize was accepted last show
  -- something, and later ones nothing
  pub record IsSoundGraph (M : Meaning) (s : GraphView F) : Type 0 where
    pub few : length s.observers ≤ 2 ^ 32 - 1
    pub earlier : s.rooted ≤ length s.observers
    pub past : s.since ≤ s.nodes.given
    pub listed : (n m : NodeId) → Among m (listed_by s n) → Given s.nodes.given m
    pub nodes : arena.IsSoundArena s.nodes
    pub tops : (n : NodeId) (r : Row) → row_at s.nodes n ≡ Some r → IsTop r.def → r.scope ≡ None
    pub scopes : Scoped (graph s)
    pub built : Rooted M.functions (graph s)
    pub inside : ScopesRooted (graph s)
    pub typed : RootsFit s.nodes (graph s)
    pub showing : (o : Observer) → Among o (take s.rooted s.observers) → o.in_use ≡ true → IsSome o.shown
    pub later : (o : Observer) → Among o (drop s.rooted s.observers) → o.shown ≡ None
    pub whole : IsUnbroken s → IsWhole M s
