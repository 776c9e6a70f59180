use Rattle.graph.proofs.Unobserving.{watch_answer}
use Rattle.graph.proofs.graph.Graph.watch.Goals as goal

pub invariant_of-self : goal.invariant_of-self
invariant_of-self g c = (
  watch_answer _ c.self.inside.parts c.self.inside.rooted c.self.inside.since c.self.inside.refused c.self.inside.observers c.watch.new.self c.self.invariant.0
      c.args.observer.0 c.watch.result c.watch.ensures.watched c.watch.ensures.err,
  c.self.invariant.1,
  c.self.invariant.2,
)
