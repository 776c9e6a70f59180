-- A node is added outside any scope, or there was no memory for it.
use Rattle.std.specs.Prelude.{◌≡◌, ◌+◌, ◌<◌, ℕ, None, Some, Result, IfOk, OnOk, OnErr}
use Rattle.inc_value.specs.declared.node.NodeId.{NodeId}
use Rattle.inc_value.specs.declared.node.Part.{Part}
use Rattle.inc_value.specs.declared.node.Point.{Point}
use Rattle.inc_terms.specs.Graph.{Row, Def}
use Rattle.inc_terms.specs.Within.{Given}
use Rattle.point_map.specs.Rows.{at, KeepsRows}
use Rattle.map_nodes.specs.declared.cutoff.Cutoff.TheVariants.{Equal}
use Rattle.inc_value.specs.declared.ty.Ty.{Ty}
use Rattle.node_arena.specs.Arena.{Changes, row_at, live}
use Rattle.node_arena.specs.declared.arena.AddFault.{AddFault}
use Rattle.node_arena.specs.Graph.{CallsFit}
use Rattle.wiring.specs.Experts.{ExpertIsAdded}
use Rattle.node_outcomes.specs.Meaning.{Meaning}
use Rattle.node_outcomes.specs.Progress.{new_row}
use Rattle.wiring.specs.Places.{ChangesNode, for_parts}
use Rattle.stabilizer.specs.Between.{KeepsWork}
use Rattle.stabilizer.specs.Kept.{PartsKept}
use Rattle.stabilizer.specs.Look.{cutoff_at}
use Rattle.stabilizer.specs.Round.{IsReady}
use Rattle.stabilizer.specs.declared.parts.Parts.{Parts}

-- the node has this row and its points, to which nothing was done yet; what is kept of all others stays
pub record HasNode (old new : Parts) (id : NodeId) (row : Row) : Type 0 where
  pub slot : id.slot < 1048576
  pub fresh : row_at old.arena id ≡ None
  pub added : Changes old.arena new.arena id (Some row)
  pub keeps : (n : NodeId) → Given old.arena.given n → row_at new.arena n ≡ row_at old.arena n
  pub lives : live new.arena ≡ live old.arena + 1
  pub given : new.arena.given ≡ old.arena.given + 1
  pub points : ChangesNode old.work.rows new.work.rows id (for_parts row.def (λ part. new_row row.def))
  pub height : Part → ℕ
  pub heights : ChangesNode old.work.graph.heights new.work.graph.heights id (for_parts row.def height)
  pub rows : (p : Point) → Given old.arena.given p.node → at new.work.rows p ≡ at old.work.rows p
  pub cutoffs : (n : NodeId) → cutoff_at new.work n ≡ cutoff_at old.work n
  pub equal : cutoff_at new.work id ≡ Equal
  pub links : new.work.graph.links ≡ old.work.graph.links
  pub roots : new.work.graph.roots ≡ old.work.graph.roots
  pub heap : KeepsRows old.work.graph.heap new.work.graph.heap
  pub right_sides : new.work.roots ≡ old.work.roots
  pub experts : ExpertIsAdded row.def old.work.experts new.work.experts id
  pub ran : new.ran.items ≡ old.ran.items
  pub kept : PartsKept new
  pub ready : (M : Meaning) → CallsFit old.arena.given M.known M.ids row.def → IsReady M old → IsReady M new

-- all nodes stay, and all that is kept of them
pub record AddsNothing (old new : Parts) : Type 0 where
  pub arena : new.arena ≡ old.arena
  pub work : KeepsWork old.work new.work
  pub ran : new.ran.items ≡ old.ran.items
  pub kept : PartsKept new
  pub ready : (M : Meaning) → IsReady M old → IsReady M new

-- by its result: the node is there, under the id that was next; or nothing was added
pub record SaysAdded (old new : Parts) (def : Def) (ty : Ty) (result : Result NodeId AddFault) : Type 0 where
  pub id : IfOk result (λ (n : NodeId). n.gen_ ≡ old.arena.given)
  pub slot : IfOk result (λ (n : NodeId). n.slot < 1048576)
  pub fresh : IfOk result (λ (n : NodeId). row_at old.arena n ≡ None)
  pub added : IfOk result (λ (n : NodeId). Changes old.arena new.arena n (Some (record { def = def; ty = ty; scope = None })))
  pub keeps : (n : NodeId) → Given old.arena.given n → row_at new.arena n ≡ row_at old.arena n
  pub lives : OnOk result (live new.arena ≡ live old.arena + 1)
  pub given : OnOk result (new.arena.given ≡ old.arena.given + 1)
  pub err : OnErr result (new.arena ≡ old.arena)
  pub err_work : OnErr result (KeepsWork old.work new.work)
  pub row : IfOk result (λ (n : NodeId). ChangesNode old.work.rows new.work.rows n (for_parts def (λ part. new_row def)))
  pub point : IfOk result (λ (n : NodeId). (h : Part → ℕ) × ChangesNode old.work.graph.heights new.work.graph.heights n (for_parts def h))
  pub rows : (p : Point) → Given old.arena.given p.node → at new.work.rows p ≡ at old.work.rows p
  pub cutoffs : (n : NodeId) → cutoff_at new.work n ≡ cutoff_at old.work n
  pub equal : IfOk result (λ (n : NodeId). cutoff_at new.work n ≡ Equal)
  pub links : new.work.graph.links ≡ old.work.graph.links
  pub roots : new.work.graph.roots ≡ old.work.graph.roots
  pub heap : KeepsRows old.work.graph.heap new.work.graph.heap
  pub right_sides : new.work.roots ≡ old.work.roots
  pub experts : IfOk result (λ (n : NodeId). ExpertIsAdded def old.work.experts new.work.experts n)
  pub ran : new.ran.items ≡ old.ran.items
  pub kept : PartsKept new
  pub ready : OnOk result ((M : Meaning) → CallsFit old.arena.given M.known M.ids def → IsReady M old → IsReady M new)
  pub err_ready : OnErr result ((M : Meaning) → IsReady M old → IsReady M new)
