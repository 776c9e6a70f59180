use Rattle.necessary_graph.specs.Part.{NecessaryPart, part_of}
use Rattle.necessary_graph.proofs.Standing.{held_exactly}
use Rattle.necessary_graph.proofs.graph.NecessaryGraph.is_needed.Goals as goal

pub returns : goal.returns
returns c =
    let g : NecessaryPart = part_of c.self.inside.rows in
    let same = held_exactly g c.self.invariant.0 c.args.p in
    rw (← c.self.view_is) (λ t. same.0 (c.is_held.ensures.0 t), λ n. c.is_held.ensures.1 (same.1 n))
