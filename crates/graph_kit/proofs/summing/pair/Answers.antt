use Rattle.std.proofs.Common.{[], ◌∷◌}
use Rattle.inc_terms.specs.Graph.{Map}
use Rattle.graph_kit.proofs.Forking.{answer_grows, pair_made}
use Rattle.graph_kit.proofs.summing.pair.Goals as goal

pub returns-clause-made : goal.returns-clause-made
returns-clause-made g c = pair_made c.args.graph.now c.map.new.self c.args.f.now c.args.left c.args.right c.map.result c.map.ensures

pub returns-clause-grows : goal.returns-clause-grows
returns-clause-grows g c =
    answer_grows c.args.graph.now c.map.new.self (Map c.args.f.now (c.args.left ∷ c.args.right ∷ [])) c.args.f.now.sig.gives c.map.result c.map.ensures
