use Rattle.expert_nodes.specs.Experts.{IsCreated}
use Rattle.base_tests.proofs.expert_lists.link_all.Given as goal

abbrev pub invariant-loop-number : goal.invariant-loop-number
invariant-loop-number l = IsCreated l.experts l.id
