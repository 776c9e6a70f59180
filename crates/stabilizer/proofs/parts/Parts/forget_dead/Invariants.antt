use Rattle.std.proofs.Common.{◌≡◌, ◌≤◌, length, drop}
use Rattle.timed_nodes.specs.Timed.{KeepsClock}
use Rattle.stabilizer.proofs.Killing.ForgettingAll.{IsForgetting, upto}
use Rattle.stabilizer.proofs.parts.Parts.forget_dead.Given as goal

abbrev pub invariant-loop-place : goal.invariant-loop-place
invariant-loop-place l = record {
  forgetting : IsForgetting l.fn.self.arena l.fn.self.work (drop l.before l.fn.self.work.deaths.nodes) l.self.arena l.self.work
      (upto l.before l.place l.fn.self.work.deaths.nodes);
  within : l.place ≤ length l.fn.self.work.deaths.nodes;
  clock : KeepsClock l.fn.self.arena l.fn.self.timed → KeepsClock l.self.arena l.self.timed;
  rest : l.self ≡ record l.fn.self { arena = l.self.arena; timed = l.self.timed; work = l.self.work };
}

abbrev pub decreases-loop-place : goal.decreases-loop-place
decreases-loop-place l = l.place
