use Rattle.session.proofs.Observed.{memory_wanting}
use Rattle.session.proofs.script.observing.observe_node.Goals as goal

pub or_no_memory-requires : goal.or_no_memory-requires
or_no_memory-requires g c = record {
  memory = memory_wanting c.args.graph.now c.requires.unbroken c.observe.result c.args.node c.observe.ensures.observing
      c.observe.ensures.broken c.observe.ensures.unknown c.observe.ensures.too_many c.requires.given c.requires.few;
}

pub push-requires-clause-absent : goal.push-requires-clause-absent
push-requires-clause-absent g c =
    let observed = rw c.in-Ok.ensures.ok at c.observe.ensures.observed in
    rw c.reserve.ensures.items (c.requires.absent c.in-Ok.observer observed.id)
