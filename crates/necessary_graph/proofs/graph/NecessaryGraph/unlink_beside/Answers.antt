use Rattle.link_table.proofs.Lists.{if_none}
use Rattle.necessary_graph.proofs.Off.{off_sound, unlinked_from}
use Rattle.necessary_graph.proofs.graph.NecessaryGraph.unlink_beside.Goals as goal

pub sweep_unheld-requires : goal.sweep_unheld-requires
sweep_unheld-requires g c =
    let s = off_sound c.self.inside.rows c.pop_kid_beside.new.self c.args.p c.self.invariant.0 c.in_ok-kid.kid c.pop_kid_beside.ensures.rest
    c.in_ok-kid.ensures.removed c.self.inside.points c.self.invariant.1 in
    record { ends = s.ends; rises = s.rises; there = s.there; room = s.room }

pub invariant_of-self-2 : goal.invariant_of-self-2
invariant_of-self-2 g c =
    let w = c.sweep_unheld.ensures in
    let off = unlinked_from c.self.inside.rows c.pop_kid_beside.new.self c.args.p c.self.invariant.0 c.in_ok-kid.kid c.pop_kid_beside.ensures.rest
    c.in_ok-kid.ensures.removed (g.L.Leaves.is_leaf c.args.leaves.now) c.sweep_unheld.new.rows w.swept w.dealt in
    (off.1, w.room)

pub returns-in_err-kid-clause-none : goal.returns-in_err-kid-clause-none
returns-in_err-kid-clause-none g c = if_none c.from_residual.result (rw (← c.self.view_is) c.in_err-kid.ensures.none)

pub returns-in_err-kid-clause-was_in_step : goal.returns-in_err-kid-clause-was_in_step
returns-in_err-kid-clause-was_in_step g c = rw (← c.self.view_is) c.self.invariant.0

pub returns-clause-was_in_step : goal.returns-clause-was_in_step
returns-clause-was_in_step g c = rw (← c.self.view_is) c.self.invariant.0

pub returns-clause-unlinked : goal.returns-clause-unlinked
returns-clause-unlinked g c =
    let w = c.sweep_unheld.ensures in
    let off = unlinked_from c.self.inside.rows c.pop_kid_beside.new.self c.args.p c.self.invariant.0 c.in_ok-kid.kid c.pop_kid_beside.ensures.rest
    c.in_ok-kid.ensures.removed (g.L.Leaves.is_leaf c.args.leaves.now) c.sweep_unheld.new.rows w.swept w.dealt in
    rw (← c.self.view_is) off.0

pub returns-clause-in_step : goal.returns-clause-in_step
returns-clause-in_step g c = (invariant_of-self-2 g c).0
