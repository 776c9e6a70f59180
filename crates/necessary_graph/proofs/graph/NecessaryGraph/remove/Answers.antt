use Rattle.necessary_graph.specs.Part.{part_of}
use Rattle.necessary_graph.proofs.Standing.{taken_in_step}
use Rattle.necessary_graph.proofs.graph.NecessaryGraph.remove.Goals as goal

pub invariant_of-self : goal.invariant_of-self
invariant_of-self c =
    let i = c.self.inside in
    let e = c.take_out.ensures in
    rw e.rest (
      taken_in_step (part_of i.rows) c.self.invariant.0 c.take_out.new.rows.heap c.args.p e.out,
      e.room i.points i.rows.heights c.self.invariant.1,
    )

pub returns-clause-in_step : goal.returns-clause-in_step
returns-clause-in_step c = (invariant_of-self c).0
