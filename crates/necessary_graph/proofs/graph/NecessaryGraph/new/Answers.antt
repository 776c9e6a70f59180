use Rattle.std.proofs.Common.{◌≡◌, refl}
use Rattle.inc_value.specs.declared.node.Point.{Point}
use Rattle.link_table.specs.Links.{times}
use Rattle.necessity.specs.Need.{root_times}
use Rattle.necessary_graph.specs.Part.{part_of}
use Rattle.necessary_graph.proofs.Room.{room_new, empty_out}
use Rattle.necessary_graph.proofs.Standing.{new_in_step}
use Rattle.necessary_graph.proofs.graph.NecessaryGraph.new.Goals as goal

pub invariant_of-result : goal.invariant_of-result
invariant_of-result c =
    let rows = c.new.result in
    let e = c.new.ensures in
    let points = empty_out rows.heights e.heights in
    let roots : (p : Point) → root_times rows.roots p ≡ 0 = λ p. rw e.roots refl in
    let links : (p q : Point) → times rows.links p q ≡ 0 = λ p q. rw e.links refl in (
      new_in_step (part_of rows) points roots links (empty_out rows.heap e.heap),
      room_new rows.heights rows.heap points e.heap,
    )

pub returns-clause-in_step : goal.returns-clause-in_step
returns-clause-in_step c = (invariant_of-result c).0
