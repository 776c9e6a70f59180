use Rattle.indexed_nodes.proofs.Index.{first_found, none_found}
use Rattle.indexed_nodes.proofs.nodes.IndexedNodes.first.Goals as goal

pub returns-clause-first : goal.returns-clause-first
returns-clause-first c =
    let s = c.self.inside in
    rw (← c.self.view_is) (first_found s.nodes.items s.firsts c.args.node c.position_of.result c.self.invariant c.position_of.ensures)

pub returns-clause-none : goal.returns-clause-none
returns-clause-none c =
    let s = c.self.inside in
    rw (← c.self.view_is) (none_found s.nodes.items s.firsts c.args.node c.position_of.result c.self.invariant c.position_of.ensures)
