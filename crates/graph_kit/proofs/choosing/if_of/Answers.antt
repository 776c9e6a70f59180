use Rattle.graph_kit.proofs.Typing.{if_typed}
use Rattle.graph_kit.proofs.choosing.if_of.Goals as goal

pub returns : goal.returns
returns g c =
    if_typed c.args.graph.now c.if_.new.self c.if_.result c.args.test c.args.yes c.args.no c.common_type-ty.result c.common_type-ty.ensures c.if_.ensures
