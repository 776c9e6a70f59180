-- How many nodes a graph has at most, how many ids a stabilize gives, and where it is refused as full.
use Rattle.std.specs.Prelude.{◌≡◌, ◌⊎◌, ◌≤◌, ◌+◌, ◌-◌, ◌^◌, ℕ, List, None, Some, length, sum_by}
use Rattle.inc_value.specs.Choice.{Among, NoRepeats}
use Rattle.inc_value.specs.declared.function.FnRef.{FnRef}
use Rattle.inc_value.specs.declared.node.NodeId.{NodeId}
use Rattle.inc_terms.specs.Graph.{Graph, Row, Bind}
use Rattle.inc_terms.specs.Rebuild.{Inside}
use Rattle.node_arena.specs.Arena.{Arena, row_at, live}
use Rattle.node_arena.specs.RightSide.{RightSide}
use Rattle.stabilizer.specs.Weights.{weight_at}

-- each live node that stands in no scope is listed
abbrev pub ListsTops : Arena → List NodeId → Type 0
ListsTops a tops = (n : NodeId) (r : Row) → row_at a n ≡ Some r → r.scope ≡ None → Among n tops

-- no more nodes live than those that stand in no scope count as: one each, and a bind as one more than its function takes
abbrev pub AreFew : (FnRef → RightSide) → Arena → Type 0
AreFew right a = (tops : List NodeId) → ListsTops a tops → live a ≤ sum_by (weight_at right a) tops

-- live nodes that stand in a live bind's scope, or in one within it, each listed once, are no more than the bind's function takes
abbrev pub ScopesAreFew : (FnRef → RightSide) → Graph → Type 0
ScopesAreFew right G =
    (b : NodeId) (r : Row) (left : NodeId) (f : FnRef) (captures : List NodeId) → G.row b ≡ Some r → r.def ≡ Bind left f captures
    → (nodes : List NodeId) → NoRepeats nodes → ((n : NodeId) → Among n nodes → Inside G b n) → length nodes ≤ (right f).size

-- no more ids were given since the count than those nodes count as that stand in no scope
abbrev pub IdsAreFew : (FnRef → RightSide) → ℕ → Arena → Type 0
IdsAreFew right count a = (tops : List NodeId) → ListsTops a tops → a.given ≤ count + sum_by (weight_at right a) tops

-- the nodes that stand in no scope count as as many as there may be, or no further id can be given
abbrev pub IsFilled : (FnRef → RightSide) → Arena → Type 0
IsFilled right a = (tops : List NodeId) → ListsTops a tops → (1048576 ≤ sum_by (weight_at right a) tops) ⊎ (a.given ≡ 2 ^ 64 - 1)
