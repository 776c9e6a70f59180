use Rattle.necessary_graph.proofs.Off.{unroot_sound, unrooted_from}
use Rattle.necessary_graph.proofs.graph.NecessaryGraph.root_off.Goals as goal

pub sweep_unheld-requires : goal.sweep_unheld-requires
sweep_unheld-requires g c =
    let s = unroot_sound c.self.inside.rows c.remove_root.new.self c.args.p c.self.invariant.0 c.remove_root.ensures.rest c.remove_root.ensures.less
    c.self.inside.points c.self.invariant.1 in
    record { ends = s.ends; rises = s.rises; there = s.there; room = s.room }

pub invariant_of-self : goal.invariant_of-self
invariant_of-self g c =
    let w = c.sweep_unheld.ensures in
    let off = unrooted_from c.self.inside.rows c.remove_root.new.self c.args.p c.self.invariant.0 c.remove_root.ensures.rest
    c.remove_root.ensures.less (g.L.Leaves.is_leaf c.args.leaves.now) c.sweep_unheld.new.rows w.swept w.dealt in
    (off.1, w.room)

pub returns : goal.returns
returns g c =
    let w = c.sweep_unheld.ensures in
    let off = unrooted_from c.self.inside.rows c.remove_root.new.self c.args.p c.self.invariant.0 c.remove_root.ensures.rest
    c.remove_root.ensures.less (g.L.Leaves.is_leaf c.args.leaves.now) c.sweep_unheld.new.rows w.swept w.dealt in
    record { unrooted = rw (← c.self.view_is) off.0; in_step = off.1 }
