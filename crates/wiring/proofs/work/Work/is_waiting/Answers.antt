use Rattle.wiring.proofs.Deciding.{not_both}
use Rattle.wiring.proofs.work.Work.is_waiting.Goals as goal

pub returns-then-is_needed : goal.returns-then-is_needed
returns-then-is_needed c =
    let need = rw c.main-p.ensures at (c.is_needed.ensures.0 c.if-is_needed.true) in
    let stage = rw c.main-p.ensures at c.is_static.ensures in
    ((λ t. record { needed = need; stage = stage.0 t }), (λ k. stage.1 k.stage))

pub returns-else-is_needed : goal.returns-else-is_needed
returns-else-is_needed c =
    let need = rw c.main-p.ensures at c.is_needed.ensures in
    ((λ t. absurd (not_both c.is_needed.result c.if-is_needed.false t)), (λ k. absurd (not_both c.is_needed.result c.if-is_needed.false (need.1 k.needed))))
