use Rattle.std.proofs.Common.{◌≡◌, length}
use Rattle.stabilizer.proofs.Between.Advancing.{AreScheduling}
use Rattle.stabilizer.proofs.parts.Parts.schedule_stale.Given as goal

abbrev pub invariant-loop-node : goal.invariant-loop-node
invariant-loop-node l = record {
  so : AreScheduling l.fn.self.work.graph l.self.work.graph l.fn.self.timed.stale l.self.timed.stale;
  rest : l.self ≡ record l.fn.self {
    work = record l.fn.self.work { graph = l.self.work.graph };
    timed = record l.fn.self.timed { stale = l.self.timed.stale };
  };
}

abbrev pub decreases-loop-node : goal.decreases-loop-node
decreases-loop-node l = length l.self.timed.stale
