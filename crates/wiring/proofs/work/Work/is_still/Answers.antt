use Rattle.wiring.proofs.Deciding.{not_both, still_tests}
use Rattle.wiring.proofs.work.Work.is_still.Goals as goal

pub returns-else-is_needed : goal.returns-else-is_needed
returns-else-is_needed c = ((λ t. absurd (not_both c.is_needed.result c.if-is_needed.false t)), (λ k. absurd (not_both c.is_needed.result c.if-is_needed.false (c.is_needed.ensures.1 k.0))))

pub returns-then-gated : goal.returns-then-gated
returns-then-gated c = ((λ t. (c.is_needed.ensures.0 c.if-is_needed.true, λ g. c.if-gated.true)), (λ k. c.if-gated.true))

pub returns-else-gated : goal.returns-else-gated
returns-else-gated c = still_tests c.args.gated c.is_gated.result _ _ c.if-gated.false (c.is_needed.ensures.0 c.if-is_needed.true) c.is_gated.ensures
