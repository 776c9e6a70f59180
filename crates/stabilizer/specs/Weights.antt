-- How many nodes a node counts as, with those that its function may build.
use Rattle.std.specs.Prelude.{◌≡◌, ◌≤◌, ◌+◌, ℕ, Bool, List, Option, None, Some, sum_by}
use Rattle.inc_value.specs.declared.function.FnRef.{FnRef}
use Rattle.inc_value.specs.declared.node.NodeId.{NodeId}
use Rattle.inc_value.specs.Choice.{Among, NoRepeats}
use Rattle.inc_terms.specs.Graph.{Row, Def, Bind}
use Rattle.node_arena.specs.Arena.{Arena, row_at}
use Rattle.node_arena.specs.RightSide.{RightSide}
use Rattle.node_arena.specs.RightSideLaws.{AllFit}

-- a node counts as one, and a bind as one more than its function takes at most
abbrev pub weight_of : (FnRef → RightSide) → Def → ℕ
weight_of right (Bind left f captures) = (right f).size + 1
weight_of right def = 1

-- where it has no row it counts as nothing
abbrev pub weight_in : (FnRef → RightSide) → Option Row → ℕ
weight_in right None = 0
weight_in right (Some r) = weight_of right r.def

-- what a live node counts as
abbrev pub weight_at : (FnRef → RightSide) → Arena → NodeId → ℕ
weight_at right a n = weight_in right (row_at a n)

-- a live node stands in the scope of the bind, and in none within it
pub record IsInScope (a : Arena) (bind n : NodeId) : Type 0 where
  pub row : Row
  pub is_row : row_at a n ≡ Some row
  pub scope : row.scope ≡ Some bind

-- nodes that stand in the scope of a bind, each listed once, count as no more than the bind's function takes
abbrev pub ScopesFit : (FnRef → RightSide) → Arena → Type 0
ScopesFit right a =
    (b : NodeId) (r : Row) (left : NodeId) (f : FnRef) (captures : List NodeId) → row_at a b ≡ Some r → r.def ≡ Bind left f captures
    → (nodes : List NodeId) → NoRepeats nodes → ((n : NodeId) → Among n nodes → IsInScope a b n)
    → sum_by (weight_at right a) nodes ≤ (right f).size

-- functions of live nodes are fit, and no more stands in the scope of a bind than its function takes
pub record SidesFit (known : FnRef → Bool) (right : FnRef → RightSide) (a : Arena) : Type 0 where
  pub all : AllFit known right a
  pub scopes : ScopesFit right a
