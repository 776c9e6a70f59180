-- Who is needed of a look is who is needed of the part of the graph that is kept linked.
use Rattle.std.proofs.Common.{ℕ}
use Rattle.inc_value.specs.declared.node.Point.{Point}
use Rattle.necessary_graph.specs.Part.{Needed}
use Rattle.node_arena.specs.Arena.{Arena}
use Rattle.stabilizer.specs.Look.{look_of, IsNeeded}
use Rattle.wiring.specs.declared.work.Work.{Work}

module _ (number : ℕ) (arena : Arena) (work : Work) (p : Point) where
  pub look_needs : Needed work.graph p → IsNeeded (look_of number arena work) p
  look_needs need = record { root = need.root; is_root = need.is_root; leads = need.leads }

  pub work_needs : IsNeeded (look_of number arena work) p → Needed work.graph p
  work_needs need = record { root = need.root; is_root = need.is_root; leads = need.leads }
