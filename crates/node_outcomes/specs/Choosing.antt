-- What binds are built for, and the right side that a node's change chose.
use Rattle.std.specs.Prelude.{pos, List, [], Option, None, Some}
use Rattle.inc_value.specs.Choice.{and_then}
use Rattle.inc_value.specs.declared.node.NodeId.{NodeId}
use Rattle.inc_value.specs.declared.outcome.Outcome.{Outcome}
use Rattle.inc_terms.specs.Depend.{change, main, right_of}
use Rattle.inc_terms.specs.Graph.{Graph, Row, Built, Def, Bind}
use Rattle.expert_nodes.specs.Experts.{ExpertPlace, kids_at}
use Rattle.point_map.specs.Rows.{Rows, at}
use Rattle.node_arena.specs.Arena.{Arena, row_at}
use Rattle.node_arena.specs.Graph.{Holdings}
use Rattle.node_outcomes.specs.Row.{kept_in, outcome_in}
use Rattle.node_outcomes.specs.Progress.{Progress}

-- what a node so defined is built for: a bind for the outcome of its left with which its change ran last, with this root; a bind whose change never ran,
-- and what is no bind, for none
abbrev pub built_by : Def → Option Outcome → Option NodeId → Option Built
built_by (Bind left function captures) (Some o) root = Some (record { outcome = o; root = root })
built_by def o root = None

-- so it is of a node that has the row, if it has one
abbrev pub built_in : Option Row → Option Outcome → Option NodeId → Option Built
built_in row o root = and_then row (λ (r : Row). built_by r.def o root)

-- what the graph of an arena holds, by what is kept of points, by the roots of binds, each of which stands by its bind's change, and by the
-- links of experts
abbrev pub held_in : Arena → Rows Progress → Rows NodeId → List ExpertPlace → Holdings
held_in a rows roots experts = record {
  built = λ n. built_in (row_at a n) (outcome_in (at rows (change n))) (at roots (change n));
  frozen = λ n. kept_in (at rows (main n));
  lists = kids_at experts;
}

-- a graph without nodes, in which each id is built so: of a graph no more is looked at for a right side
abbrev pub built_alone : Option Built → Graph
built_alone built = record { row = λ n. None; built = λ n. built; now = pos 0; frozen = λ n. None; lists = λ n. [] }

-- the right side of a node so defined that was chosen, by what its change's row keeps and by its root
abbrev pub right_by : Def → NodeId → Option Outcome → Option NodeId → Option NodeId
right_by def n o root = and_then o (λ (c : Outcome). right_of (built_alone (built_by def o root)) n def c)

-- the right side of a node so defined that its change's outcome chose: a bind's is its root
abbrev pub right_in : Rows Progress → Rows NodeId → NodeId → Def → Option NodeId
right_in rows roots n def = right_by def n (outcome_in (at rows (change n))) (at roots (change n))
