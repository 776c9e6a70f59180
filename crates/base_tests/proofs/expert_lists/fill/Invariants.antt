use Rattle.expert_nodes.specs.Experts.{IsCreated}
use Rattle.base_tests.proofs.expert_lists.fill.Given as goal

abbrev pub invariant-loop : goal.invariant-loop
invariant-loop l = IsCreated l.experts l.id
