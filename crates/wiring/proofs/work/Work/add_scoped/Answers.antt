use Rattle.std.proofs.Common.{List, sym, ap, subst}
use Rattle.inc_value.specs.Choice.{Among}
use Rattle.inc_value.specs.declared.node.NodeId.{NodeId}
use Rattle.node_lists.specs.Listed.{Listed}
use Rattle.wiring.proofs.Placing.{among_before, among_last}
use Rattle.wiring.proofs.work.Work.add_scoped.Goals as goal

pub returns-clause-scoped : goal.returns-clause-scoped
returns-clause-scoped c =
    let node = c.args.node in
    subst (λ (ns : List NodeId). Among node ns) (sym c.add.ensures.nodes) (among_last node c.add_node.new.self.scoped.nodes)

pub returns-clause-others_scoped : goal.returns-clause-others_scoped
returns-clause-others_scoped c n live listed =
    let node = c.args.node in
    let before = c.add_node.new.self.scoped.nodes in
    let same = ap (λ (l : Listed). l.nodes) c.add_node.ensures.scoped in
    subst (λ (ns : List NodeId). Among n ns) (sym c.add.ensures.nodes)
    (among_before n node before (subst (λ (ns : List NodeId). Among n ns) (sym same) (c.reserve.ensures.kept n live listed)))

-- without memory the node isn't listed
pub returns-in_default-add_node-clause-err_fewer_scoped : goal.returns-in_default-add_node-clause-err_fewer_scoped
returns-in_default-add_node-clause-err_fewer_scoped c n listed =
    c.reserve.ensures.fewer n (subst (λ (l : Listed). Among n l.nodes) c.add_node.ensures.scoped listed)
