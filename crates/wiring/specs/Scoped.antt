-- Nodes in scopes that die, and binds that are built anew.
use Rattle.std.specs.Prelude.{◌≡◌, ◌≢◌, ◌⊎◌, ◌-◌, true, false, [], Option, None, Some, IsSome}
use Rattle.inc_value.specs.declared.node.NodeId.{NodeId}
use Rattle.inc_value.specs.declared.node.Point.{Point}
use Rattle.inc_terms.specs.Depend.{main, change}
use Rattle.point_map.specs.Rows.{at, Holds, Changes}
use Rattle.link_table.specs.Links.{Links, times, Reads}
use Rattle.necessary_graph.specs.Part.{Needed}
use Rattle.necessary_graph.specs.Sweep.{Sweep, DropsLeaves}
use Rattle.node_outcomes.specs.Row.{settled_in}
use Rattle.wiring.specs.Graph.{died_at, rowless}
use Rattle.wiring.specs.Places.{ChangesNode}
use Rattle.wiring.specs.Turning.{IsAttached, IsDetached}
use Rattle.wiring.specs.Wiring.{KeepsGraph, IsMarked}
use Rattle.wiring.specs.declared.work.Work.{Work}

-- the change of a bind is in the heap, and then a main with a right side waits again
pub record HasDetached (old new : Work) (n : NodeId) (right : Option NodeId) : Type 0 where
  pub mid : Work
  pub marked : IsMarked old.graph mid.graph (change n)
  pub rest : mid ≡ record old { graph = mid.graph }
  pub detached : ((new ≡ mid) × (IsAttached old n → ⊥)) ⊎ (IsDetached mid new n right × IsAttached old n)

-- the points that read this one and live on are in the heap, unless they were settled
pub record AreTold (old new : Work) (p : Point) : Type 0 where
  pub graph : KeepsGraph old.graph new.graph
  pub kept : (a : Point) → Holds old.graph.heap a → Holds new.graph.heap a
  pub told : (a : Point) → Reads old.graph.links a p
      → Holds new.graph.heap a ⊎ (settled_in old.round (at old.rows a) ≡ true) ⊎ IsSome (died_at old a.node)
  pub only : (a : Point) → Holds new.graph.heap a → Holds old.graph.heap a
      ⊎ (Reads old.graph.links a p × (settled_in old.round (at old.rows a) ≡ false) × (died_at old a.node ≡ None))

-- what is kept of a point is gone, and so is the point where it isn't needed
pub record IsPointForgotten (old new : Work) (p : Point) : Type 0 where
  pub row : Changes old.rows new.rows p None
  pub heap : Changes old.graph.heap new.graph.heap p None
  pub links : new.graph.links ≡ old.graph.links
  pub roots : new.graph.roots ≡ old.graph.roots
  pub heights : (Needed old.graph p × (new.graph.heights ≡ old.graph.heights))
      ⊎ ((Needed old.graph p → ⊥) × Changes old.graph.heights new.graph.heights p None)

-- the lists, and all that isn't of a node's points, are as they were
pub record IsElsewhere (old new : Work) : Type 0 where
  pub deaths : new.deaths ≡ old.deaths
  pub pairs : new.pairs.nodes ≡ old.pairs.nodes
  pub scoped : new.scoped.nodes ≡ old.scoped.nodes
  pub todo : new.todo ≡ old.todo
  pub ran : new.ran ≡ old.ran
  pub retries : new.retries ≡ old.retries
  pub round : new.round ≡ old.round
  pub experts : new.experts ≡ old.experts

-- of a node that died nothing is kept but its needed points with their links; what reads its main and lives on is in the heap, unless it was settled
pub record IsForgotten (old new : Work) (n : NodeId) : Type 0 where
  pub rows : ChangesNode old.rows new.rows n (λ part. None)
  pub roots : (p : Point) → p ≢ change n → at new.roots p ≡ at old.roots p
  pub rootless : Holds old.rows (change n) → at new.roots (change n) ≡ None
  pub still_rootless : at old.rows (change n) ≡ None → new.roots ≡ old.roots
  pub links : new.graph.links ≡ old.graph.links
  pub graph_roots : new.graph.roots ≡ old.graph.roots
  pub others : (p : Point) → p.node ≢ n → at new.graph.heights p ≡ at old.graph.heights p
  pub there : (p : Point) → Needed old.graph p → at new.graph.heights p ≡ at old.graph.heights p
  pub gone : (p : Point) → p.node ≡ n → Holds old.rows p → (Needed old.graph p → ⊥) → at new.graph.heights p ≡ None
  pub out : (p : Point) → p.node ≡ n → Holds old.rows p → at new.graph.heap p ≡ None
  pub kept : (p : Point) → p.node ≢ n → Holds old.graph.heap p → Holds new.graph.heap p
  pub told : (p : Point) → Reads old.graph.links p (main n)
      → Holds new.graph.heap p ⊎ (settled_in old.round (at old.rows p) ≡ true) ⊎ IsSome (died_at old p.node)
  pub only : (p : Point) → Holds new.graph.heap p → Holds old.graph.heap p
      ⊎ (Reads old.graph.links p (main n) × (settled_in old.round (at old.rows p) ≡ false) × (died_at old p.node ≡ None))
  pub elsewhere : IsElsewhere old new
  pub open elsewhere use *

-- the points of nodes that died lost one link to their gates each, and what is no longer reached lost all
pub record IsReleased (old new : Work) : Type 0 where
  pub deaths : (n : NodeId) → died_at new n ≡ None
  pub none : new.deaths.nodes ≡ []
  pub links : Links
  pub others : (p q : Point) → died_at old p.node ≡ None → times links p q ≡ times old.graph.links p q
  pub off : (p : Point) (b : NodeId) → died_at old p.node ≡ Some b → (q : Point) → q ≢ change b → times links p q ≡ times old.graph.links p q
  pub gates : (p : Point) (b : NodeId) → died_at old p.node ≡ Some b → times links p (change b) ≡ times old.graph.links p (change b) - 1
  pub sweep : Sweep (record old.graph { links = links }) new.graph
  pub drops : DropsLeaves (rowless old) old.graph new.graph
