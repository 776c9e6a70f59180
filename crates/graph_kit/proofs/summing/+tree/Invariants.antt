use Rattle.std.proofs.Common.{length}
use Rattle.graph_kit.proofs.summing.+tree.Given as goal

abbrev pub decreases-tree : goal.decreases-tree
decreases-tree g l = length l.kids.now
