use Rattle.necessary_graph.specs.Part.{part_of}
use Rattle.necessary_graph.proofs.Telling.{put_stands}
use Rattle.necessary_graph.proofs.graph.NecessaryGraph.insert.Goals as goal

pub invariant_of-self : goal.invariant_of-self
invariant_of-self c =
    let i = c.self.inside in
    let e = c.put.ensures in
    let needed = rw (← c.self.view_is) at c.requires.needed in
    rw e.rest (
      put_stands (part_of i.rows) c.self.invariant.0 c.put.new.rows.heap c.args.p needed e.put,
      e.room i.points c.self.invariant.1,
    )

pub returns-clause-in_step : goal.returns-clause-in_step
returns-clause-in_step c = (invariant_of-self c).0
