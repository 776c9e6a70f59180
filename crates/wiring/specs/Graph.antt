-- The graph that the nodes of an arena, and what a stabilizer keeps of them, stand for, and who died in the round.
use Rattle.std.specs.Prelude.{◌⊎◌, Bool, not, Option, IsSome, is_some}
use Rattle.inc_value.specs.declared.node.NodeId.{NodeId}
use Rattle.inc_value.specs.declared.node.Point.{Point}
use Rattle.inc_terms.specs.Depend.{main}
use Rattle.point_map.specs.Rows.{at, Holds}
use Rattle.inc_terms.specs.Graph.{Graph}
use Rattle.node_arena.specs.Arena.{Arena}
use Rattle.node_arena.specs.Graph.{Holdings, graph_of}
use Rattle.node_outcomes.specs.Choosing.{held_in}
use Rattle.wiring.specs.declared.work.Work.{Work}

-- what the graph holds beside its nodes: a bind is built for the outcome that its change keeps, a freeze keeps the value of its last call, and experts have
-- their lists
abbrev pub held_at : Arena → Work → Holdings
held_at arena work = held_in arena work.rows work.roots work.experts

-- the graph
abbrev pub graph_at : Arena → Work → Graph
graph_at arena work = graph_of arena (held_at arena work)

-- the bind in whose scope a node stood that died in this round
abbrev pub died_at : Work → NodeId → Option NodeId
died_at work n = at work.deaths.scopes (main n)

-- the points that are there only while they are needed: those without a row
abbrev pub rowless : Work → Point → Bool
rowless work p = not (is_some (at work.rows p))

-- a point has links once it is needed: it is of a live node, or of one that died in this round
abbrev pub HasLinks : Work → Point → Type 0
HasLinks work p = Holds work.rows p ⊎ IsSome (died_at work p.node)
