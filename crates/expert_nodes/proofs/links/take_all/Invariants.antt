use Rattle.std.proofs.Common.{length}
use Rattle.index_lists.specs.Lists.{list_at}
use Rattle.expert_nodes.proofs.Halves.{AreMoving}
use Rattle.expert_nodes.proofs.links.take_all.Given as goal

abbrev pub invariant-loop-place : goal.invariant-loop-place
invariant-loop-place l = AreMoving l.fn.links l.links

abbrev pub decreases-loop-place : goal.decreases-loop-place
decreases-loop-place l = length (list_at l.links 1)
