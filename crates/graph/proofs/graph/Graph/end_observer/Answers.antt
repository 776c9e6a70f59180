use Rattle.graph.proofs.Certain.{no_end_fault}
use Rattle.graph.proofs.graph.Graph.end_observer.Goals as goal

pub unreachable-requires : goal.unreachable-requires
unreachable-requires g c =
    no_end_fault c.args.self.now c.requires.unbroken c.unobserve.result c.in-Err.field-0 c.args.observer c.in-Err.is
    c.unobserve.ensures.ending c.unobserve.ensures.broken c.unobserve.ensures.unknown c.requires.in_use
