-- What a session keeps of a script.
use Rattle.std.specs.Prelude.{ℕ, List, Option, slice_index_or}
use Rattle.inc_value.specs.declared.node.NodeId.{NodeId}
use Rattle.inc_value.specs.declared.node.ObsId.{ObsId}
use Rattle.graph.specs.Standing.{GraphView}
pub use Rattle.graph.specs.Standing.{without_functions}
use Rattle.node_arena.specs.Arena.{Arena}
use Rattle.script_functions.specs.Bodies.{Body}
use Rattle.script_model.specs.Check.{Names}

-- the names; the node of each declaration; for each observer's name in use, in the same order, its observer; the room that is left for places; how
-- many stabilizes were accepted; the number of what broke the session, if something did; the bodies of binds, in the order in which they were kept; and
-- the graph, but for its functions
pub record Kept : Type 0 where
  pub names : Names
  pub nodes : List NodeId
  pub observers : List ObsId
  pub room : ℕ
  pub accepted : ℕ
  pub broken : Option ℕ
  pub bodies : List Body
  pub graph : GraphView (Unit {0})

-- a library, how many right sides of binds were built, or were to be, and what is kept of a script over it
pub record Script (L : Type 0) : Type 0 where
  pub library : L
  pub builds : ℕ
  pub kept : Kept

-- what stands for the node of a name that isn't declared: an id that is never given
abbrev pub no_node : NodeId
no_node = record { slot = 0; gen_ = 18446744073709551616 }

-- the node of the declaration at a position
abbrev pub node_in : List NodeId → ℕ → NodeId
node_in nodes n = slice_index_or nodes n no_node

-- the nodes of the graph
abbrev pub arena_of : Kept → Arena
arena_of k = k.graph.nodes
