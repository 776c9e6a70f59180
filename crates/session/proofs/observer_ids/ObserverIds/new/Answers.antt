use Rattle.session.proofs.Placing.{none_placed}
use Rattle.session.proofs.observer_ids.ObserverIds.new.Goals as goal

pub invariant_of-result : goal.invariant_of-result
invariant_of-result c = rw c.new.ensures.items (none_placed c.new-2.result c.new-2.ensures.empty)
