-- Which freezes keep a value after a round, and which.
use Rattle.std.specs.Prelude.{List, [], ◌∷◌, Option, None, Some, true}
use Rattle.inc_value.specs.declared.node.NodeId.{NodeId}
use Rattle.inc_value.specs.declared.value.Value.{Value}
use Rattle.inc_value.specs.declared.value.Value.TheVariants.{Bool}
use Rattle.inc_terms.specs.Graph.{Graph, Row, Def, Freeze}
use Rattle.stabilize_round.specs.State.{State, Call}

-- the value of which a predicate was found true
abbrev pub found_in : List Value → Value → Option Value
found_in (v ∷ []) (Bool true) = Some v
found_in values w = None

-- by the last call
abbrev pub found : Option Call → Option Value
found None = None
found (Some c) = found_in c.arguments c.result

-- a freeze that keeps no value yet fires where its predicate was last found true
abbrev pub fires : Def → Option Value → Option Call → Option Value
fires (Freeze kid f) None last = found last
fires def frozen last = None

-- by its row
abbrev pub row_fires : Option Row → Option Value → Option Call → Option Value
row_fires None frozen last = None
row_fires (Some r) frozen last = fires r.def frozen last

-- the value that a node keeps from now on
abbrev pub fires_at : State → NodeId → Option Value
fires_at s n = row_fires (s.graph.row n) (s.graph.frozen n) (s.last n)

-- the one, or else the other
abbrev pub or_else : Option Value → Option Value → Option Value
or_else None frozen = frozen
or_else (Some v) frozen = Some v

-- what freezes keep then
abbrev pub frozen_after : State → NodeId → Option Value
frozen_after s n = or_else (fires_at s n) (s.graph.frozen n)

-- the graph then
abbrev pub graph_after : State → Graph
graph_after s = record s.graph { frozen = frozen_after s }
