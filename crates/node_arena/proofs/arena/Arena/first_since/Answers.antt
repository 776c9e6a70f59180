use Rattle.std.proofs.Common.{subst}
use Rattle.node_arena.specs.Sound.{IsOrder}
use Rattle.node_arena.proofs.First.{some_first, none_first}
use Rattle.node_arena.proofs.arena.Arena.first_since.Goals as goal

pub returns-clause-some : goal.returns-clause-some
returns-clause-some c =
    let order : IsOrder c.args.self.now c.as_slice-order.result.now = rw c.as_slice-order.ensures.value (subst (λ a. IsOrder a c.self.inside.order.items) c.self.view_is c.self.invariant.order) in
    some_first c.args.self.now c.as_slice-order.result.now order c.args.count c.start_of.result c.start_of.ensures.point c.first_live.result c.first_live.ensures.some

pub returns-clause-none : goal.returns-clause-none
returns-clause-none c =
    let order : IsOrder c.args.self.now c.as_slice-order.result.now = rw c.as_slice-order.ensures.value (subst (λ a. IsOrder a c.self.inside.order.items) c.self.view_is c.self.invariant.order) in
    none_first c.args.self.now c.as_slice-order.result.now order c.args.count c.start_of.result c.start_of.ensures.point c.first_live.result c.first_live.ensures.none
