use Rattle.std.proofs.Common.{◌≡◌, length}
use Rattle.wiring.proofs.Releasing.{IsReleasing}
use Rattle.wiring.proofs.work.Work.release_dead.Given as goal

abbrev pub invariant-loop-death : goal.invariant-loop-death
invariant-loop-death l = record {
  releasing : IsReleasing l.fn.self l.self;
  rest : l.self ≡ record l.fn.self { graph = l.self.graph; deaths = l.self.deaths };
}

abbrev pub decreases-loop-death : goal.decreases-loop-death
decreases-loop-death l = length l.self.deaths.nodes
