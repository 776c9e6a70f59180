use Rattle.std.proofs.Common.{refl}
use Rattle.wiring.proofs.Forgetting.{point_kept, point_gone}
use Rattle.wiring.proofs.work.Work.forget_point.Goals as goal

pub returns-then-not-is_needed-clause-forgotten : goal.returns-then-not-is_needed-clause-forgotten
returns-then-not-is_needed-clause-forgotten c =
    point_gone c.args.self.now c.args.p c.remove.new.self c.remove-2.new.self c.remove.ensures.rest c.remove.ensures.removed c.remove-2.ensures.changes
    c.drop_point.new.self (λ n. absurd (let e = c.if-not-is_needed.ensures.1 n in cc)) c.drop_point.ensures.dropped c.drop_point.ensures.roots
    c.drop_point.ensures.links c.drop_point.ensures.heap

pub returns-else-not-is_needed-clause-forgotten : goal.returns-else-not-is_needed-clause-forgotten
returns-else-not-is_needed-clause-forgotten c =
    point_kept c.args.self.now c.args.p c.remove.new.self c.remove-2.new.self c.remove.ensures.rest c.remove.ensures.removed c.remove-2.ensures.changes
    (c.if-not-is_needed.ensures.0 refl)
