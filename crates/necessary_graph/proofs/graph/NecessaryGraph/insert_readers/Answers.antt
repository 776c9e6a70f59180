use Rattle.necessary_graph.specs.Part.{part_of}
use Rattle.necessary_graph.proofs.Telling.{readers_stand}
use Rattle.necessary_graph.proofs.graph.NecessaryGraph.insert_readers.Goals as goal

pub invariant_of-self : goal.invariant_of-self
invariant_of-self g c =
    let i = c.self.inside in
    let e = c.put_readers.ensures in
    rw e.rest (
      readers_stand (part_of i.rows) c.self.invariant.0 c.put_readers.new.rows.heap c.args.q (g.S.Skip.skipped c.args.skip.now) e.heights e.put,
      e.room i.points c.self.invariant.1,
    )

pub returns-clause-in_step : goal.returns-clause-in_step
returns-clause-in_step g c = (invariant_of-self g c).0
