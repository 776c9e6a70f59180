-- What every arena keeps.
use Rattle.std.specs.Prelude.{◌≡◌, ◌≤◌, ◌<◌, ◌+◌, ◌*◌, ◌^◌, ◌≤ℤ◌, pos, ℕ, List, [], ◌∷◌, Some, None, length, slice_index_or}
use Rattle.std.specs.List.{All, AllWithin, Contains}
use Rattle.std.specs.List.Sorted.{IsNonDecreasingBy}
use Rattle.inc_value.specs.Choice.{Every}
use Rattle.inc_value.specs.declared.node.NodeId.{NodeId}
use Rattle.inc_terms.specs.Graph.{Row}
use Rattle.inc_terms.specs.Clock.{IsTimed}
use Rattle.inc_terms.specs.Within.{Given}
use Rattle.node_arena.specs.Arena.{Arena, row_at, live, IsLive, NamesGiven}
use Rattle.node_arena.specs.Typing.{Makes}

-- what is live was given, in one of the slots; no two live nodes have one generation; what rows, their values and their scopes name was given;
-- each row is of the type that it makes, and timed; no more nodes are live, and no more ids given, than may be; the time isn't below 0
pub record IsSoundArena (a : Arena) : Type 0 where
  pub given : (n : NodeId) → IsLive a n → Given a.given n
  pub slots : (n : NodeId) → IsLive a n → n.slot < 1048576
  pub generations : (n m : NodeId) → IsLive a n → IsLive a m → n.gen_ ≡ m.gen_ → n ≡ m
  pub names : (n : NodeId) (r : Row) → row_at a n ≡ Some r → NamesGiven a.given r.def
  pub scopes : (n : NodeId) (r : Row) (b : NodeId) → row_at a n ≡ Some r → r.scope ≡ Some b → Given a.given b
  pub types : (n : NodeId) (r : Row) → row_at a n ≡ Some r → Makes a r.def r.ty
  pub timed : (n : NodeId) (r : Row) → row_at a n ≡ Some r → IsTimed a.time r.def
  pub few : live a ≤ 1048576
  pub count : a.given < 2 ^ 64
  pub time : pos 0 ≤ℤ a.time

-- the live node that was given first of those whose generation is not below the count
pub record IsFirstSince (a : Arena) (count : ℕ) (id : NodeId) : Type 0 where
  pub live : IsLive a id
  pub since : count ≤ id.gen_
  pub first : (n : NodeId) → IsLive a n → count ≤ n.gen_ → id.gen_ ≤ n.gen_

-- the first live one of the ids from a place on
pub record IsFirstLive (a : Arena) (order : List NodeId) (start : ℕ) (id : NodeId) : Type 0 where
  pub place : ℕ
  pub from_start : start ≤ place
  pub within : place < length order
  pub there : slice_index_or order place id ≡ id
  pub live : IsLive a id
  pub dead_before : AllWithin (λ n. row_at a n ≡ None) order start place

-- each id was given before all that follow
abbrev pub Rises : List NodeId → Type 0
Rises [] = Unit {0}
Rises (n ∷ ns) = Every (λ (m : NodeId). n.gen_ < m.gen_) ns × Rises ns

-- given ids in the order in which they were given, each once, with all that are live
pub record IsOrder (a : Arena) (order : List NodeId) : Type 0 where
  pub rising : IsNonDecreasingBy (λ n. n.gen_) order
  pub once : Rises order
  pub given : All (Given a.given) order
  pub covers : (n : NodeId) → IsLive a n → Contains order n

-- no more ids are kept than are twice as many as nodes live, and a few
abbrev pub AreFew : Arena → List NodeId → Type 0
AreFew a ids = length ids ≤ 2 * (live a + 32) + 1

-- what the fields of an arena keep
pub record IsKept (a : Arena) (ids : List NodeId) : Type 0 where
  pub sound : IsSoundArena a
  pub order : IsOrder a ids
