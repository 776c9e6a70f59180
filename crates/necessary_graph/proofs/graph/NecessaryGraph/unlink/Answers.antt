use Rattle.necessary_graph.proofs.Off.{off_sound, unlinked_from}
use Rattle.necessary_graph.proofs.graph.NecessaryGraph.unlink.Goals as goal

pub sweep_unheld-requires : goal.sweep_unheld-requires
sweep_unheld-requires g c =
    let s = off_sound c.self.inside.rows c.remove_link.new.self c.args.p c.self.invariant.0 c.args.q c.remove_link.ensures.rest
    c.remove_link.ensures.removed c.self.inside.points c.self.invariant.1 in
    record { ends = s.ends; rises = s.rises; there = s.there; room = s.room }

pub invariant_of-self : goal.invariant_of-self
invariant_of-self g c =
    let w = c.sweep_unheld.ensures in
    let off = unlinked_from c.self.inside.rows c.remove_link.new.self c.args.p c.self.invariant.0 c.args.q c.remove_link.ensures.rest
    c.remove_link.ensures.removed (g.L.Leaves.is_leaf c.args.leaves.now) c.sweep_unheld.new.rows w.swept w.dealt in
    (off.1, w.room)

pub returns : goal.returns
returns g c =
    let w = c.sweep_unheld.ensures in
    let off = unlinked_from c.self.inside.rows c.remove_link.new.self c.args.p c.self.invariant.0 c.args.q c.remove_link.ensures.rest
    c.remove_link.ensures.removed (g.L.Leaves.is_leaf c.args.leaves.now) c.sweep_unheld.new.rows w.swept w.dealt in
    record { unlinked = rw (← c.self.view_is) off.0; in_step = off.1 }
