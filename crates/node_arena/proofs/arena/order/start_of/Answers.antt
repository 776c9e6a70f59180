use Rattle.std.proofs.Common.{rules, ltb, ℕ}
use Rattle.std.proofs.lemmas.Bool.{ltb-true, ltb-false}
use Rattle.std.proofs.lemmas.List.Sorted.{IsPartitionPoint-from_clause, IsPartitionedBy-ltb}
use Rattle.inc_value.specs.declared.node.NodeId.{NodeId}
use Rattle.node_arena.proofs.arena.order.start_of.Goals as goal

pub returns-clause-point : goal.returns-clause-point
returns-clause-point c =
    let n : NodeId → ℕ = λ x. x.gen_ in
    let point = IsPartitionPoint-from_clause (λ y. ltb (n y) c.args.count) c.args.order.now c.partition_point.result c.partition_point.ensures.partitioned
    (IsPartitionedBy-ltb n c.args.order.now c.args.count c.requires) (λ a r f' k. search rules) in
    (λ k d from before. ltb-true _ _ (point.0 k d from before), λ k d from before. ltb-false _ _ (point.1 k d from before))
