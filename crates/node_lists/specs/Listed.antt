-- What a contract sees of nodes in a list.
use Rattle.std.specs.Prelude.{◌≡◌, ◌+◌, ◌-◌, ◌*◌, ◌<◌, ◌≤◌, ℕ, List, length, ltb, filter, count_by, None, is_some}
use Rattle.std.specs.List.Sorted.{IsNonDecreasingBy}
use Rattle.inc_value.specs.Choice.{Among}
use Rattle.inc_value.specs.declared.node.NodeId.{NodeId}
use Rattle.node_arena.specs.Arena.{Arena, Changes, IsLive, row_at}

-- the nodes in order, how many of them are counted dead, and how many more can be added without memory
pub record Listed : Type 0 where
  pub nodes : List NodeId
  pub dead : ℕ
  pub spare : ℕ

-- how many of the nodes aren't counted dead
abbrev pub most_live : Listed → ℕ
most_live l = length l.nodes - l.dead

-- the live ones of the nodes
abbrev pub live_ones : Arena → List NodeId → List NodeId
live_ones a ns = filter (λ n. is_some (row_at a n)) ns

-- those of the nodes whose ids were given before the count
abbrev pub given_before : ℕ → List NodeId → List NodeId
given_before count ns = filter (λ n. ltb n.gen_ count) ns

-- the nodes stand in the order in which their ids were given
abbrev pub AreInOrder : List NodeId → Type 0
AreInOrder ns = IsNonDecreasingBy (λ n. n.gen_) ns

-- how many of the nodes are live
abbrev pub live_count : Arena → List NodeId → ℕ
live_count a ns = count_by (λ n. is_some (row_at a n)) ns

-- no more nodes are counted dead than there are dead ones: the live ones and those that are counted dead are no more than all
abbrev pub CountsLive : Arena → Listed → Type 0
CountsLive a l = live_count a l.nodes + l.dead ≤ length l.nodes

-- where more than half were counted dead just the live ones are left, and else the nodes are as they were
pub record IsTidied (a : Arena) (old new : Listed) : Type 0 where
  pub many : length old.nodes < 2 * old.dead → (new.nodes ≡ live_ones a old.nodes) × (new.dead ≡ 0)
  pub few : 2 * old.dead ≤ length old.nodes → (new.nodes ≡ old.nodes) × (new.dead ≡ old.dead)

-- one of the nodes dies, from one arena to another
pub record Dies (a b : Arena) (n : NodeId) (nodes : List NodeId) : Type 0 where
  pub listed : Among n nodes
  pub lived : IsLive a n
  pub died : Changes a b n None
