-- What is said of a node that was to be added, by what came of it.
use Rattle.std.proofs.Common.{◌≡◌, ◌≤◌, None, Ok, Err, ap, ℕ, arith}
use Rattle.std.specs.Prelude.{vec_capacity}
use Rattle.inc_value.specs.declared.node.NodeId.{NodeId}
use Rattle.inc_value.specs.declared.ty.Ty.{Ty}
use Rattle.inc_terms.specs.Depend.{main}
use Rattle.inc_terms.specs.Graph.{Def}
use Rattle.node_arena.specs.Arena.{Arena, row_at}
use Rattle.node_arena.specs.declared.arena.AddFault.{AddFault}
use Rattle.node_outcomes.specs.Row.{cutoff_in}
use Rattle.stabilizer.specs.Adding.{HasNode, AddsNothing, SaysAdded}
use Rattle.stabilizer.specs.Kept.{PartsKept}
use Rattle.stabilizer.specs.declared.parts.Parts.{Parts}
use Rattle.inc_terms.specs.Within.{Given}
use Rattle.inc_value.specs.declared.node.Point.{Point}
use Rattle.point_map.specs.Rows.{at}
use Rattle.stabilizer.specs.Look.{cutoff_at}
use Rattle.wiring.specs.Places.{ChangesNode, for_parts}
use Rattle.inc_value.specs.declared.node.Part.{Part}

-- the node is there
pub says_added : (old new : Parts) (id : NodeId) (def : Def) (ty : Ty) → id.gen_ ≡ old.arena.given
    → HasNode old new id (record { def = def; ty = ty; scope = None }) → SaysAdded old new def ty (Ok id)
says_added old new id def ty next h =
    let point : (t : Part → ℕ) × ChangesNode old.work.graph.heights new.work.graph.heights id (for_parts def t) = (h.height, h.heights) in
    assumption (next, point, h)

-- nothing was added
pub says_nothing : (old new : Parts) (e : AddFault) (def : Def) (ty : Ty) → AddsNothing old new → SaysAdded old new def ty (Err e)
says_nothing old new e def ty h =
    let nodes : (n : NodeId) → Given old.arena.given n → row_at new.arena n ≡ row_at old.arena n = (λ n g. ap (λ (a : Arena). row_at a n) h.arena) in
    let rows : (p : Point) → Given old.arena.given p.node → at new.work.rows p ≡ at old.work.rows p = (λ p g. h.work.rows p) in
    let cutoffs : (n : NodeId) → cutoff_at new.work n ≡ cutoff_at old.work n = (λ n. ap cutoff_in (h.work.rows (main n))) in
    assumption (nodes, rows, cutoffs, h)

-- as where it wasn't tried
pub nothing_tried : (parts : Parts) → PartsKept parts → AddsNothing parts parts
nothing_tried parts kept =
    let room : vec_capacity parts.work.ran ≤ vec_capacity parts.work.ran = omega arith in
    assumption (kept, room)
