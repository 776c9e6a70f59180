use Rattle.graph.proofs.Unobserving.{observe_answer}
use Rattle.graph.proofs.graph.Graph.observe.Goals as goal

pub invariant_of-self : goal.invariant_of-self
invariant_of-self g c = (
  observe_answer _ c.self.inside.parts c.self.inside.rooted c.self.inside.since c.self.inside.refused c.self.inside.observers c.observe.new.self c.self.invariant.0
      c.args.node (rw (c.given.ensures, c.arena.ensures) at c.if-node-given.false) c.observe.result c.observe.ensures.made c.observe.ensures.too_many
      c.observe.ensures.err,
  c.self.invariant.1,
  c.self.invariant.2,
)
