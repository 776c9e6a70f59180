-- What the parts keep between any two calls, and what a keeper of functions counted.
use Rattle.std.specs.Prelude.{◌≡◌, ◌⊎◌, ◌↔◌, ◌<◌, ◌≤◌, ℕ, min, [], Some, Result, Ok, Err, vec_capacity}
use Rattle.inc_value.specs.Counts.{raised}
use Rattle.inc_value.specs.declared.node.NodeId.{NodeId}
use Rattle.inc_terms.specs.Graph.{Graph, Row}
use Rattle.scopes.specs.Scopes.{Scopes, StandsIn}
use Rattle.node_arena.specs.Arena.{Arena, live, row_at}
use Rattle.node_arena.specs.RightSide.{SameMeaning}
use Rattle.node_arena.specs.declared.functions.Functions.{Ghosts}
use Rattle.stabilize_round.specs.Counts.{last_count}
use Rattle.wiring.specs.Graph.{graph_at}
use Rattle.wiring.specs.Kept.{IsKept, IsBind}
use Rattle.wiring.specs.Stands.{Counts}
use Rattle.wiring.specs.declared.refused.Refused.{Refused}
use Rattle.wiring.specs.declared.refused.Refused.TheVariants as refused
use Rattle.timed_nodes.specs.Timed.{KeepsClock}
use Rattle.stabilizer.specs.declared.parts.Parts.{Parts}

-- the nodes of parts as a graph
abbrev pub graph_in : Parts → Graph
graph_in parts = graph_at parts.arena parts.work

-- each scope is of a bind that was given before the nodes that stand there
abbrev pub ScopesAreOlder : Arena → Type 0
ScopesAreOlder arena = (n b : NodeId) (r : Row) → row_at arena n ≡ Some r → r.scope ≡ Some b → b.gen_ < n.gen_

-- no live node is a bind
abbrev pub HasNoBinds : Arena → Type 0
HasNoBinds arena = (n : NodeId) (r : Row) → row_at arena n ≡ Some r → IsBind r.def → ⊥

-- where no live node is a bind, the nodes stay
abbrev pub StaysFlat : Arena → Arena → Type 0
StaysFlat old new = HasNoBinds old → new ≡ old

-- who stands in a scope by the scopes stands there by the nodes, and none waits to be given
pub record KeepsScopes (arena : Arena) (scopes : Scopes) : Type 0 where
  pub stands : (n b : NodeId) → StandsIn scopes n b ↔ ((r : Row) × (row_at arena n ≡ Some r) × (r.scope ≡ Some b))
  pub none : scopes.killed ≡ []

-- what parts keep between any two calls
pub record PartsKept (parts : Parts) : Type 0 where
  pub work : IsKept parts.arena parts.work
  pub scopes : KeepsScopes parts.arena parts.scopes
  pub dying : parts.dying.items ≡ []
  pub clock : KeepsClock parts.arena parts.timed
  pub listing : live parts.arena ≤ vec_capacity parts.ran

-- the count of calls that found no memory: it stays, but that a call which finds none refuses what it was called for, as want of memory, and is counted
abbrev pub WantsTell : {T : Type 0} → Result T Refused → ℕ → ℕ → Type 0
WantsTell (Ok v) old new = new ≡ old
WantsTell (Err e) old new = (new ≡ old) ⊎ ((e ≡ refused.Memory) × (new ≡ raised old))

module _ {F More : Type 0} (keeper : Ghosts F More) where
  -- the calls, builds and nodes that were added which a keeper counted; the last two stand still at the last value that a count can show
  abbrev pub counts_by : F → Counts
  counts_by s = record {
    calls = keeper.calls s;
    builds = min (keeper.tally s).builds last_count;
    adds = min (keeper.tally s).adds last_count;
  }

  -- the keeper is still sound and means what it meant. No function more was taken
  pub record KeepsMeaning (old new : F) : Type 0 where
    pub sound : keeper.is_sound new
    pub same : SameMeaning (keeper.named old) (keeper.named new) (keeper.known old) (keeper.known new) (keeper.value old) (keeper.value new)
        (keeper.right old) (keeper.right new)
    pub taken : (keeper.tally new).taken ≡ (keeper.tally old).taken
    pub most : (keeper.tally new).most ≡ (keeper.tally old).most
