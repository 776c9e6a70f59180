use Rattle.session.proofs.OwnNodes.{first_own, first_within, none_own}
use Rattle.session.proofs.script.naming.own_declaration.Goals as goal

pub returns-clause-some : goal.returns-clause-some
returns-clause-some c =
    first_own c.args.names.now c.args.nodes.now.items c.args.node c.requires.one_each c.requires.targets c.keeps_order.ensures c.first.result c.first.ensures.first

pub returns-clause-within : goal.returns-clause-within
returns-clause-within c = first_within c.args.names.now c.args.nodes.now.items c.args.node c.requires.one_each c.first.result c.first.ensures.first

pub returns-clause-none : goal.returns-clause-none
returns-clause-none c = none_own c.args.names.now c.args.nodes.now.items c.args.node c.requires.one_each c.first.result c.first.ensures.none
