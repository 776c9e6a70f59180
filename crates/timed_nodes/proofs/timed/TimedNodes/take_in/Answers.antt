use Rattle.std.proofs.Common.{arith, ap}
use Rattle.timed_nodes.specs.Timed.{Timed}
use Rattle.timed_nodes.proofs.timed.TimedNodes.take_in.Goals as goal

pub loop-node-smaller : goal.loop-node-smaller
loop-node-smaller c =
    let seen = ap (λ (t : Timed). t.taken) c.self.view_is in
    let first = c.in-Some.ensures.some in
    let given = c.requires.sound.given c.in-Some.node first.live in
    let since = first.since in
    let taken = c.in_ok-take_one.ensures.taken in
    omega (arith, seen, given, since, taken)
