use Rattle.expert_nodes.proofs.Indexing.{none_linked, some_linked}
use Rattle.expert_nodes.proofs.links.is_linked.Goals as goal

pub returns : goal.returns
returns c = (
  λ linked. some_linked c.args.links.now c.args.index.now c.args.node c.requires.indexed (c.has_place.ensures.0 linked),
  λ among. c.has_place.ensures.1 (λ none. none_linked c.args.links.now c.args.index.now c.args.node c.requires.indexed none among),
)
