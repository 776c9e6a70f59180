use Rattle.necessary_graph.specs.Part.{part_of}
use Rattle.necessary_graph.proofs.Room.{room_taken}
use Rattle.necessary_graph.proofs.Standing.{taken_in_step}
use Rattle.necessary_graph.proofs.graph.NecessaryGraph.pop_least.Goals as goal

pub invariant_of-self-2 : goal.invariant_of-self-2
invariant_of-self-2 c =
    let i = c.self.inside in
    let heap = c.pop_least.new.self.heap in
    let e = c.in_ok-p.ensures in
    rw c.pop_least.ensures.rest (
      taken_in_step (part_of i.rows) c.self.invariant.0 heap c.in_ok-p.p e.changes,
      room_taken i.rows.heights i.rows.heap heap i.points c.in_ok-p.p c.self.invariant.1 e.was e.changes e.count e.spare,
    )

pub returns-clause-in_step : goal.returns-clause-in_step
returns-clause-in_step c = (invariant_of-self-2 c).0
