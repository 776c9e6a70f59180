use Rattle.graph.proofs.Asking.{no_stale_fault}
use Rattle.graph.proofs.graph.Graph.renew.Goals as goal

pub unreachable-requires : goal.unreachable-requires
unreachable-requires g c =
    let a = c.make_stale.ensures in
    no_stale_fault c.args.self.now c.args.expert c.requires.unbroken c.requires.given c.requires.is_expert c.make_stale.result c.in-Err.field-0
    c.in-Err.is (rw c.in-Err.is at a.fault) a.broken a.unknown a.not_expert
