use Rattle.std.proofs.Common.{sym}
use Rattle.std.proofs.lemmas.Bool.{leb-true}
use Rattle.node_lists.proofs.InOrder.{order_behind, order_first}
use Rattle.node_lists.proofs.listed.still_in_order.Goals as goal

pub returns-in-Some : goal.returns-in-Some
returns-in-Some c = record {
  order = λ later. order_behind c.args.nodes.now c.args.node (c.requires.order c.if-not-in_order.false) c.in-Some.last.now
      (sym c.in-Some.ensures.value) (leb-true c.in-Some.last.now.gen_ c.args.node.gen_ later);
}

pub returns-in-None : goal.returns-in-None
returns-in-None c = record {
  order = λ t. order_first c.args.nodes.now c.args.node (c.requires.order c.if-not-in_order.false) (sym c.in-None.ensures.value);
}
