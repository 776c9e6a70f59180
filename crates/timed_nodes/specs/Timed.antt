-- What is seen of the nodes of an arena that read the clock, and what is kept of them.
use Rattle.std.specs.Prelude.{◌≡◌, ◌≢◌, ◌⊎◌, ◌<◌, ◌≤◌, ℕ, ℤ, List, [], None, Some, true, false}
use Rattle.inc_value.specs.declared.node.NodeId.{NodeId}
use Rattle.inc_terms.specs.Clock.{reads_clock}
use Rattle.inc_terms.specs.Graph.{Row, Def}
use Rattle.node_arena.specs.Arena.{Arena, row_at, live, IsLive}
use Rattle.clock_nodes.specs.Clock.{Clock, watched, Watches}

-- the clock; the nodes of generations below the count were taken in; and the nodes that a move of the time has found
pub record Timed : Type 0 where
  pub clock : Clock
  pub taken : ℕ
  pub stale : List NodeId

-- a live node that reads the clock is watched as what it is; its id was given before the count
pub record IsTakenIn (arena : Arena) (count : ℕ) (n : NodeId) (def : Def) : Type 0 where
  pub row : Row
  pub is_row : row_at arena n ≡ Some row
  pub is_def : row.def ≡ def
  pub reads : reads_clock def ≡ true
  pub before : n.gen_ < count

-- the clock has the arena's time. Of the live nodes that read it it watches those whose ids were given before a count, each as what it is, and no others
pub record KeepsClock (arena : Arena) (timed : Timed) : Type 0 where
  pub time : timed.clock.time ≡ arena.time
  pub few : timed.taken ≤ arena.given
  pub watches : (n : NodeId) (r : Row) → row_at arena n ≡ Some r → n.gen_ < timed.taken → reads_clock r.def ≡ true
      → watched timed.clock n ≡ Some r.def
  pub alone : (n : NodeId) (def : Def) → watched timed.clock n ≡ Some def → IsTakenIn arena timed.taken n def
  pub stale : timed.stale ≡ []

-- the ids of all live nodes were given before the count
abbrev pub AreTakenIn : Arena → Timed → Type 0
AreTakenIn arena timed = (n : NodeId) → IsLive arena n → n.gen_ < timed.taken

-- a node that reads the clock is watched as what it is; of another nothing changes
abbrev pub WatchesTimed : Clock → Clock → NodeId → Def → Type 0
WatchesTimed old new n def = ((reads_clock def ≡ true) × Watches old new n (Some def)) ⊎ ((reads_clock def ≡ false) × (new ≡ old))

-- a node is watched no longer, and all else stays
pub record Forgets (old new : Timed) (n : NodeId) : Type 0 where
  pub gone : watched new.clock n ≡ None
  pub others : (m : NodeId) → m ≢ n → watched new.clock m ≡ watched old.clock m
  pub time : new.clock.time ≡ old.clock.time
  pub rest : new ≡ record old { clock = new.clock }

-- the time is this one, and each node is what it was
pub record IsMovedTo (old new : Arena) (to : ℤ) : Type 0 where
  pub time : new.time ≡ to
  pub rows : (n : NodeId) → row_at new n ≡ row_at old n
  pub live : live new ≡ live old
  pub given : new.given ≡ old.given
