-- How many ids a round gives, and where it stops as full.
use Rattle.std.specs.Prelude.{◌≡◌, ◌⊎◌, ◌<◌, ◌≤◌, ◌+◌, ◌-◌, ◌^◌, ℕ, List, Some, length}
use Rattle.inc_value.specs.Choice.{Among, NoRepeats}
use Rattle.inc_value.specs.declared.function.FnRef.{FnRef}
use Rattle.inc_value.specs.declared.node.NodeId.{NodeId}
use Rattle.inc_terms.specs.Graph.{Row, Bind}
use Rattle.node_arena.specs.Arena.{Arena, row_at, live, IsLive}
use Rattle.node_arena.specs.RightSide.{RightSide}
use Rattle.stabilize_round.specs.Counts.{last_count}
use Rattle.stabilizer.specs.Weights.{IsInScope}
use Rattle.wiring.specs.Stands.{Counts}
use Rattle.wiring.specs.declared.refused.Refused.{Refused}
use Rattle.wiring.specs.declared.refused.Refused.TheVariants.{Full}

-- so many ids were given since the count at most as these live nodes, each of which is listed once and was given since, and some that no node has
pub record GivesLive (count spent : ℕ) (a : Arena) : Type 0 where
  pub born : List NodeId
  pub once : NoRepeats born
  pub live : (n : NodeId) → Among n born → IsLive a n
  pub since : (n : NodeId) → Among n born → count ≤ n.gen_
  pub given : a.given ≤ count + length born + spent

-- a live bind in whose scope nobody stands has a function that may build so many nodes
pub record LeavesRoom (right : FnRef → RightSide) (number : ℕ) (a : Arena) : Type 0 where
  pub bind : NodeId
  pub row : Row
  pub left : NodeId
  pub function : FnRef
  pub captures : List NodeId
  pub is_row : row_at a bind ≡ Some row
  pub is_bind : row.def ≡ Bind left function captures
  pub empty : (n : NodeId) → IsInScope a bind n → ⊥
  pub most : number ≤ (right function).size

-- ids that were given since the count are of live nodes, but for those that one build spent that was refused: its bind lives, and its scope is empty
pub record GivesFew (right : FnRef → RightSide) (count : ℕ) (a : Arena) : Type 0 where
  pub spent : ℕ
  pub gives : GivesLive count spent a
  pub room : (spent ≡ 0) ⊎ LeavesRoom right spent a

-- where a build was refused: with the ids that it spent there are as many nodes as may be. Its bind lives, its scope is empty, and its function may
-- build as many as it spent
pub record LacksRoom (right : FnRef → RightSide) (a : Arena) : Type 0 where
  pub spent : ℕ
  pub room : LeavesRoom right spent a
  pub full : 1048576 ≤ live a + spent

-- the count of builds rose, or stands at its last value
abbrev pub HasBuilt : Counts → Counts → Type 0
HasBuilt before after = (before.builds < after.builds) ⊎ (after.builds ≡ last_count)

-- a round stops as full only in a build, where that lacked room for a further node, or where no further id can be given
abbrev pub StopsFull : (FnRef → RightSide) → Arena → Counts → Counts → Refused → Type 0
StopsFull right a before after Full = HasBuilt before after × (LacksRoom right a ⊎ (a.given ≡ 2 ^ 64 - 1))
StopsFull right a before after e = Unit {0}
