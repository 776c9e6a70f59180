use Rattle.std.proofs.Common.{subst}
use Rattle.inc_terms.specs.Graph.{Join}
use Rattle.graph.specs.Effects.{AnswersAdd}
use Rattle.graph_kit.proofs.Typing.{join_typed}
use Rattle.graph_kit.proofs.choosing.join_of.Goals as goal

pub returns : goal.returns
returns g c =
    join_typed c.args.graph.now c.join.new.self c.join.result c.args.kid c.referred_base-base.result c.referred_base-base.ensures
    (subst (λ t. AnswersAdd c.args.graph.now c.join.new.self (Join c.args.kid) t c.join.result) c.ty.ensures c.join.ensures)
