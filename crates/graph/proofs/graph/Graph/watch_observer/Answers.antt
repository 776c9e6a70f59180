use Rattle.graph.proofs.Certain.{no_end_fault}
use Rattle.graph.proofs.graph.Graph.watch_observer.Goals as goal

pub unreachable-requires : goal.unreachable-requires
unreachable-requires g c =
    no_end_fault c.args.self.now c.requires.unbroken c.watch.result c.in-Err.field-0 c.args.observer c.in-Err.is
    c.watch.ensures.watching c.watch.ensures.broken c.watch.ensures.unknown c.requires.in_use
