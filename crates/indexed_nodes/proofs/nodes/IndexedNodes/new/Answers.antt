use Rattle.indexed_nodes.proofs.Index.{index_empty}
use Rattle.indexed_nodes.proofs.nodes.IndexedNodes.new.Goals as goal

pub invariant_of-result : goal.invariant_of-result
invariant_of-result c = rw c.new.ensures.items (index_empty c.new-2.result c.new-2.ensures.empty)
