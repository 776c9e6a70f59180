use Rattle.std.proofs.Common.{◌≡◌, ◌≤◌, List, length, rules, is_some, sym, subst}
use Rattle.std.specs.List.{filter}
use Rattle.std.proofs.lemmas.Fn.{filter_same}
use Rattle.inc_value.specs.declared.node.NodeId.{NodeId}
use Rattle.node_arena.specs.Arena.{row_at, live}
use Rattle.node_arena.specs.Sound.{IsOrder}
use Rattle.node_arena.proofs.Once.{few_live, passes_filter, rises_filter}
use Rattle.node_arena.proofs.Order.{order_filter}
use Rattle.node_arena.proofs.arena.order.keep_live.Goals as goal

pub returns-clause-order : goal.returns-clause-order
returns-clause-order c a same order =
    let filtered : c.retain.new.self.items ≡ filter (λ n. is_some (row_at a n)) c.args.order.now.items
    = filter_same _ (λ n. is_some (row_at a n)) _ (λ x b f' k. rw same (search rules)) _ _ c.retain.ensures.filtered in
    subst (IsOrder a) (sym filtered) (order_filter a c.args.order.now.items order)

pub returns-clause-few : goal.returns-clause-few
returns-clause-few c a same order =
    let lives = λ (n : NodeId). is_some (row_at a n) in
    let filtered : c.retain.new.self.items ≡ filter lives c.args.order.now.items
    = filter_same _ lives _ (λ x b f' k. rw same (search rules)) _ _ c.retain.ensures.filtered in
    subst (λ (ns : List NodeId). length ns ≤ live a) (sym filtered)
    (few_live a (filter lives c.args.order.now.items) (rises_filter lives c.args.order.now.items order.once)
    (passes_filter lives c.args.order.now.items))
