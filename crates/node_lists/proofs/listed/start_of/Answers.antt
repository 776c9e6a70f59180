use Rattle.std.proofs.Common.{rules, ltb, ℕ}
use Rattle.std.proofs.lemmas.List.Sorted.{IsPartitionPoint-from_clause, IsPartitionedBy-ltb}
use Rattle.inc_value.specs.declared.node.NodeId.{NodeId}
use Rattle.node_lists.proofs.InOrder.{before_start}
use Rattle.node_lists.proofs.listed.start_of.Goals as goal

pub returns : goal.returns
returns c =
    let n : NodeId → ℕ = λ x. x.gen_ in
    before_start c.args.nodes.now c.args.count c.partition_point.result
    (IsPartitionPoint-from_clause (λ y. ltb (n y) c.args.count) c.args.nodes.now c.partition_point.result c.partition_point.ensures.partitioned
    (IsPartitionedBy-ltb n c.args.nodes.now c.args.count c.requires.order) (λ a r f' k. search rules))
