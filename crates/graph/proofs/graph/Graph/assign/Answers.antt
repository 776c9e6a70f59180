use Rattle.graph.proofs.Certain.{no_set_fault}
use Rattle.graph.proofs.graph.Graph.assign.Goals as goal

pub unreachable-requires : goal.unreachable-requires
unreachable-requires g c =
    let a = c.set_var.ensures in
    no_set_fault c.args.self.now c.args.node c.args.value c.requires.unbroken c.requires.variable c.requires.given c.requires.within c.requires.fits
    c.set_var.result c.in-Err.field-0 c.in-Err.is (rw c.in-Err.is at a.setting) (λ cause. (a.broken cause).0) a.unknown.0 a.not_var.0 a.wrong_type.0
