use Rattle.std.proofs.Common.{◌≡◌, ◌+◌, Some, sym, subst}
use Rattle.point_map.proofs.Chains.{Ahead, ahead_step, ahead_none}
use Rattle.point_map.proofs.Links.{next_at, point_at}
use Rattle.point_map.proofs.buckets.find_from.Goals as goal

pub returns-in_err-place-clause-absent : goal.returns-in_err-place-clause-absent
returns-in_err-place-clause-absent g c =
    rw c.from_residual.ensures (ahead_none (next_at c.args.links.now.slots) c.args.first c.args.links.now.capacity
    (λ k. point_at c.args.links.now.slots k ≡ Some c.args.p) c.loop-step._step (rw c.in_err-place.was at c.loop-step.invariant))

pub loop-step-preserved : goal.loop-step-preserved
loop-step-preserved g c =
    subst (λ at. Ahead (next_at c.args.links.now.slots) c.args.first c.args.links.now.capacity
    (λ k. point_at c.args.links.now.slots k ≡ Some c.args.p) at (c.loop-step._step + 1))
    (sym c.next_of-at.ensures)
    (ahead_step (next_at c.args.links.now.slots) c.args.first c.args.links.now.capacity
    (λ k. point_at c.args.links.now.slots k ≡ Some c.args.p) c.in_ok-place.place c.loop-step._step
    (rw c.in_ok-place.was at c.loop-step.invariant) (c.is_point_at.ensures.other c.if-is_point_at.false))
