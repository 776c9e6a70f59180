use Rattle.std.proofs.Common.{◌-◌}
use Rattle.timed_nodes.specs.Timed.{KeepsClock}
use Rattle.timed_nodes.proofs.timed.TimedNodes.take_in.Given as goal

abbrev pub invariant-loop-node : goal.invariant-loop-node
invariant-loop-node l = record { kept : KeepsClock l.arena l.self }

abbrev pub decreases-loop-node : goal.decreases-loop-node
decreases-loop-node l = l.arena.given - l.self.taken
