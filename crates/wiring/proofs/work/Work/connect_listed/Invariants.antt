use Rattle.std.proofs.Common.{◌-◌, length}
use Rattle.expert_nodes.specs.Experts.{kids_at}
use Rattle.wiring.proofs.Handing.{IsListed}
use Rattle.wiring.proofs.work.Work.connect_listed.Given as goal

abbrev pub invariant-loop-place : goal.invariant-loop-place
invariant-loop-place l = IsListed l.arena l.fn.self l.self l.p l.from l.place

abbrev pub decreases-loop-place : goal.decreases-loop-place
decreases-loop-place l = length (kids_at l.fn.self.experts l.p.node) - l.place
