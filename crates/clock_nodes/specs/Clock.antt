-- What a contract sees of a clock.
use Rattle.std.specs.Prelude.{◌≡◌, ◌≢◌, ◌==◌, ◌++◌, ◌<ℤ◌, ℕ, ℤ, if◌then◌else◌, nat_eq, List, Option, None, Some}
use Rattle.std.specs.Map.{lookup}
use Rattle.inc_value.specs.Choice.{Among, NoRepeats, and_then}
use Rattle.inc_value.specs.declared.node.NodeId.{NodeId}
use Rattle.inc_terms.specs.Clock.{clock_value, MayTurn}
use Rattle.inc_terms.specs.Graph.{Def}
use Rattle.clock_nodes.specs.Kinds.{watch_def, watch_slot}
use Rattle.clock_nodes.specs.declared.watch.Watch.{Watch}

-- the watched nodes, by generation
abbrev pub Rows : Type 0
Rows = List (ℕ × Watch)

-- the watched node of a generation
abbrev pub row_at : Rows → ℕ → Option Watch
row_at rows gen = lookup (nat_eq gen) rows

-- the time, and the nodes that are watched
pub record Clock : Type 0 where
  pub time : ℤ
  pub rows : Rows

-- what the node is, where it is the one that is kept
abbrev pub own : NodeId → Watch → Option Def
own n w = if watch_slot w == n.slot then Some (watch_def w) else None

-- what a node is that is watched; none of another
abbrev pub watched : Clock → NodeId → Option Def
watched c n = and_then (row_at c.rows n.gen_) (own n)

-- no node of this generation is watched
abbrev pub IsFree : Clock → NodeId → Type 0
IsFree c n = (m : NodeId) → m.gen_ ≡ n.gen_ → watched c m ≡ None

-- the node is watched as this, or isn't watched, and every other node is as it was
pub record Watches (old new : Clock) (n : NodeId) (def : Option Def) : Type 0 where
  pub changed : watched new n ≡ def
  pub others : (m : NodeId) → m ≢ n → watched new m ≡ watched old m

-- the same nodes are watched
abbrev pub KeepsWatched : Clock → Clock → Type 0
KeepsWatched old new = (n : NodeId) → watched new n ≡ watched old n

-- a watched node that shows another value at a time than at an earlier one
pub record IsStale (c : Clock) (before time : ℤ) (n : NodeId) : Type 0 where
  pub def : Def
  pub is : watched c n ≡ Some def
  pub changed : clock_value time def ≢ clock_value before def

-- behind a list there are, each once, just the watched nodes that show another value at a time than at an earlier one
pub record ListsStale (c : Clock) (before time : ℤ) (old new : List NodeId) : Type 0 where
  pub nodes : List NodeId
  pub behind : new ≡ old ++ nodes
  pub once : NoRepeats nodes
  pub are : (n : NodeId) → Among n nodes → IsStale c before time n
  pub all : (n : NodeId) → IsStale c before time n → Among n nodes

-- a watched node may come to show another value at a later time than the present one
pub record MayYetTurn (c : Clock) : Type 0 where
  pub node : NodeId
  pub def : Def
  pub is : watched c node ≡ Some def
  pub time : ℤ
  pub later : c.time <ℤ time
  pub turns : MayTurn def time
